-- Heights grow by one at most, and so stay below the number of settled parts.
use Rattle.std.proofs.Common.{◌≡◌, ℕ, zero, suc, ◌+◌, ◌<◌, ◌≤◌, List, [], ◌∷◌, length, arith, map, set}
use Rattle.std.proofs.lemmas.Bool.{cond_both}
use Rattle.abnf_cert.specs.declared.entry.Entry.{Entry}
use Rattle.abnf_cert.specs.declared.entry.Entry.TheVariants.{Nothing, Least}
use Rattle.abnf_cert.specs.Accepted.{in_a_row, all_in_a_row, times, referred, entry_at}
use Rattle.abnf_least.specs.own.Form.{Form, text, never, row, one_of, repeated, refers, entry_given, better, first_least, is_before}
use Rattle.abnf_least.specs.Table.{IsUpTo, unsettled}

module _ (b : ℕ) where
  up_more : (e : Entry) → IsUpTo b e → IsUpTo (b + 1) e
  up_more Nothing u = tt
  up_more (Least l h c) u = omega (arith, u)

  row_up : (e x : Entry) → IsUpTo b e → IsUpTo b x → IsUpTo b (in_a_row e x)
  row_up Nothing x u v = tt
  row_up (Least l h c) Nothing u v = tt
  row_up (Least l h c) (Least m k d) u v = omega (arith, u, v)

  better_up : (i : ℕ) (e x : Entry) → IsUpTo b e → IsUpTo b x → IsUpTo b (better i e x)
  better_up i Nothing x u v = v
  better_up i (Least l h c) Nothing u v = u
  better_up i (Least l h c) (Least m k d) u v = cond_both (is_before m k l h) (Least m k d) (Least l h i) (IsUpTo b) (λ t. v) (λ f. u)

  times_up : (more : ℕ) (e : Entry) → IsUpTo b e → IsUpTo b (times (suc more) e)
  times_up more Nothing u = tt
  times_up more (Least l h c) u = u

  referred_up : (e : Entry) → IsUpTo b e → IsUpTo (b + 1) (referred e)
  referred_up Nothing u = tt
  referred_up (Least l h c) u = omega (arith, u)

  module _ (at : ℕ → Entry) (all : (n : ℕ) → IsUpTo b (at n)) where
    all_up : (ns : List ℕ) → IsUpTo b (all_in_a_row (map at ns))
    all_up [] = omega arith
    all_up (n ∷ ns) = row_up (at n) (all_in_a_row (map at ns)) (all n) (all_up ns)

    first_up : (i : ℕ) (ns : List ℕ) → IsUpTo b (first_least i (map at ns))
    first_up i [] = tt
    first_up i (n ∷ ns) = better_up i (at n) (first_least (suc i) (map at ns)) (all n) (first_up (suc i) ns)

    pub given_up : (f : Form) → IsUpTo (b + 1) (entry_given at f)
    given_up (text n) = omega arith
    given_up never = tt
    given_up (row ns) = up_more (all_in_a_row (map at ns)) (all_up ns)
    given_up (one_of ns) = up_more (first_least 0 (map at ns)) (first_up 0 ns)
    given_up (repeated more n) = up_more (times (suc more) (at n)) (times_up more (at n) (all n))
    given_up (refers n) = referred_up (at n) (all n)

-- each settled part makes one less unsettled
pub settle_one : (table : List Entry) (m l h c : ℕ) → m < length table → entry_at table m ≡ Nothing → unsettled (set table m (Least l h c)) + 1 ≡ unsettled table
settle_one [] m l h c within is = absurd (omega arith)
settle_one (Nothing ∷ table) zero l h c within is = omega arith
settle_one (Least a b d ∷ table) zero l h c within is = cc
settle_one (Nothing ∷ table) (suc m) l h c within is = omega (arith, settle_one table m l h c (omega arith) is)
settle_one (Least a b d ∷ table) (suc m) l h c within is = settle_one table m l h c (omega arith) is

pub unsettled_up : (table : List Entry) → unsettled table ≤ length table
unsettled_up [] = omega arith
unsettled_up (Nothing ∷ table) = omega (arith, unsettled_up table)
unsettled_up (Least a b d ∷ table) = omega (arith, unsettled_up table)
