-- Each entry of an accepted certificate is right.
use Rattle.std.proofs.Common.{◌≡◌, ℕ, ◌<◌, ◌≤◌, ◌⊎◌, inl, inr, ⊎_elim, List, length, arith}
use Rattle.std.proofs.lemmas.Bool.{cases_lt}
use Rattle.abnf_cert.specs.declared.entry.Entry.{Entry}
use Rattle.abnf_cert.specs.declared.entry.Entry.TheVariants.{Nothing, Least}
use Rattle.abnf_parts.specs.Part.{Part, root_number}
use Rattle.abnf_parts.specs.Generates.{Gen, RuleGen, IsLeastLength, IsLeastPair}
use Rattle.abnf_cert.specs.Accepted.{top, entry_at, IsAccepted}
use Rattle.abnf_cert.specs.Says.{EntrySays, AcceptedIsRight}
use Rattle.abnf_cert.proofs.Below.{TreeFits, part_fits}
use Rattle.abnf_cert.proofs.Lower.{NotBelow, lower, rule_lower}
use Rattle.abnf_cert.proofs.Upper.{Reached, upper, rule_upper}

least_of_value : (roots : List Part) (p : Part) (n k : ℕ) → IsLeastPair roots p n k → IsLeastLength roots p n
least_of_value roots p n k v =
    record {
      reached = (v.reached.0, (k, v.reached.1), v.reached.2);
      least = λ s g. let either = v.least s g.0 g.1 in shorter s either;
    }
  where
    shorter : (s : List ℕ) {j : ℕ} → (n < length s) ⊎ ((n ≡ length s) × (k ≤ j)) → n ≤ length s
    shorter s (inl h) = omega arith
    shorter s (inr h) = omega (arith, h.0)

said : (roots : List Part) (p : Part) (e : Entry) → ((k : ℕ) (s : List ℕ) → Gen roots k p s → NotBelow k s e) → ((k : ℕ) → Reached k (Gen roots k p) e) → EntrySays roots p e
said roots p Nothing low up = λ s g. low g.0 s g.1
said roots p (Least l h c) low up =
    let s = up h (omega arith) in
    let value : l < top → IsLeastPair roots p l h = λ below.
    record {
      reached = (s.0, s.1, s.2 below);
      least = λ t j g. pairs below t j (low j t g);
    } in (
      λ below. (value below, least_of_value roots p l h (value below)),
      λ is. ((s.0, (h, s.1)), λ t g. let b = (low g.0 t g.1).0 in omega arith),
    )
  where
    pairs : l < top → (t : List ℕ) (j : ℕ) → NotBelow j t (Least l h c) → (l < length t) ⊎ ((l ≡ length t) × (h ≤ j))
    pairs below t j g = ⊎_elim (λ lt. inl lt) (λ le. let e : length t ≡ l = omega (arith, g.0) in inr (omega arith, g.1 below e)) (cases_lt l (length t))

module _ (roots : List Part) (cert : List Entry) (accepted : IsAccepted roots cert) where
  pub low_at : (n : ℕ) (p : Part) → TreeFits (entry_at cert) (root_number roots) n p → (k : ℕ) (s : List ℕ) → Gen roots k p s → NotBelow k s (entry_at cert n)
  low_at n p fits k s g = lower (entry_at cert) (root_number roots) k (RuleGen roots k) (rule_lower roots cert accepted k) n p s fits g

  pub says_at : (n : ℕ) (p : Part) → TreeFits (entry_at cert) (root_number roots) n p → EntrySays roots p (entry_at cert n)
  says_at n p fits =
      said roots p (entry_at cert n) (low_at n p fits)
      (λ k. upper (entry_at cert) (root_number roots) k (RuleGen roots k) (rule_upper roots cert accepted k) n p fits)

pub accepted_is_right : AcceptedIsRight
accepted_is_right roots cert accepted n p is = says_at roots cert accepted n p (part_fits roots cert accepted n p is)
