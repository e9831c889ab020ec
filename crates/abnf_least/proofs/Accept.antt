-- Where nothing more is given, what the table gives each part is an accepted certificate.
use Rattle.std.proofs.Common.{◌≡◌, ℕ, zero, suc, ◌+◌, inl, inr, ⊎_elim, List, [], ◌∷◌, length, Option, Some, None, refl, sym, ap, ◌∙◌, subst, map, min, max, ltb}
use Rattle.std.proofs.lemmas.Bool.{cases_Bool, ltb-true, ltb-false, cond-true, cond-false}
use Rattle.std.specs.List.{AllByRecursion}
use Rattle.abnf_cert.specs.declared.entry.Entry.{Entry}
use Rattle.abnf_cert.specs.declared.entry.Entry.TheVariants.{Nothing, Least}
use Rattle.abnf_parts.specs.declared.node.Node.{Node}
use Rattle.abnf_parts.specs.Nodes.{IsNode}
use Rattle.abnf_parts.specs.Part.{Part, quoted, series, span, seq, alt, rep, ref, opaque, parts_of, root_number, numbers}
use Rattle.abnf_cert.specs.Accepted.{top, in_a_row, all_in_a_row, times, referred, EntryFits, entry_at, IsAccepted}
use Rattle.abnf_least.specs.own.Form.{Form, text, never, row, one_of, repeated, refers, entry_given, better, first_least, part_form, node_form, repetition_form}
use Rattle.abnf_least.proofs.Choice.{is_choice}
use Rattle.abnf_least.specs.Table.{InRange}
use Rattle.abnf_least.specs.own.Search.{Settled, IsExhausted, AreGiven, form_or, form_at}
use Rattle.std.proofs.Common.{Result, Ok, Err}
use Rattle.std.specs.Prelude.{IfOk}

-- the same pair, or nothing both times
abbrev pub SamePair : Entry → Entry → Type 0
SamePair Nothing Nothing = Unit {0}
SamePair Nothing (Least m k d) = ⊥
SamePair (Least l h c) Nothing = ⊥
SamePair (Least l h c) (Least m k d) = (l ≡ m) × (h ≡ k)

in_a_row_same : (e f x : Entry) → SamePair e f → in_a_row e x ≡ in_a_row f x
in_a_row_same Nothing Nothing x s = refl
in_a_row_same Nothing (Least m k d) x s = absurd s
in_a_row_same (Least l h c) Nothing x s = absurd s
in_a_row_same (Least l h c) (Least m k d) Nothing s = refl
in_a_row_same (Least l h c) (Least m k d) (Least a b x) s = ap (λ y. Least (min (y + a) top) (max h b) 0) s.0 ∙ ap (λ y. Least (min (m + a) top) (max y b) 0) s.1

better_same : (i : ℕ) (e f x : Entry) → SamePair e f → better i e x ≡ better i f x
better_same i Nothing Nothing x s = refl
better_same i Nothing (Least m k d) x s = absurd s
better_same i (Least l h c) Nothing x s = absurd s
better_same i (Least l h c) (Least m k d) Nothing s = ap (λ y. Least y h i) s.0 ∙ ap (λ y. Least m y i) s.1
better_same i (Least l h c) (Least m k d) (Least a b x) s =
    ap (λ y. better i (Least y h c) (Least a b x)) s.0 ∙ ap (λ y. better i (Least m y c) (Least a b x)) s.1

times_same : (more : ℕ) (e f : Entry) → SamePair e f → times (suc more) e ≡ times (suc more) f
times_same more Nothing Nothing s = refl
times_same more Nothing (Least m k d) s = absurd s
times_same more (Least l h c) Nothing s = absurd s
times_same more (Least l h c) (Least m k d) s = ap (λ y. times (suc more) (Least y h 0)) s.0 ∙ ap (λ y. times (suc more) (Least m y 0)) s.1

referred_same : (e f : Entry) → SamePair e f → referred e ≡ referred f
referred_same Nothing Nothing s = refl
referred_same Nothing (Least m k d) s = absurd s
referred_same (Least l h c) Nothing s = absurd s
referred_same (Least l h c) (Least m k d) s = ap (λ y. Least y (h + 1) 0) s.0 ∙ ap (λ y. Least m (y + 1) 0) s.1

module _ (at given : ℕ → Entry) (same : (n : ℕ) → SamePair (at n) (given n)) where
  row_given : (ns : List ℕ) → all_in_a_row (map given ns) ≡ all_in_a_row (map at ns)
  row_given [] = refl
  row_given (n ∷ ns) = ap (λ x. in_a_row (given n) x) (row_given ns) ∙ sym (in_a_row_same (at n) (given n) (all_in_a_row (map at ns)) (same n))

  first_given : (i : ℕ) (ns : List ℕ) → first_least i (map given ns) ≡ first_least i (map at ns)
  first_given i [] = refl
  first_given i (n ∷ ns) = ap (λ x. better i (given n) x) (first_given (suc i) ns) ∙ sym (better_same i (at n) (given n) (first_least (suc i) (map at ns)) (same n))

  -- the value looks at pairs alone
  pub given_alike : (f : Form) → entry_given given f ≡ entry_given at f
  given_alike (text n) = refl
  given_alike never = refl
  given_alike (row ns) = row_given ns
  given_alike (one_of ns) = first_given 0 ns
  given_alike (repeated more n) = sym (times_same more (at n) (given n) (same n))
  given_alike (refers n) = sym (referred_same (at n) (given n) (same n))

pair_of : (e f : Entry) → ((l h c : ℕ) → e ≡ Least l h c → (d : ℕ) × (f ≡ Least l h d)) → (e ≡ Nothing → f ≡ Nothing) → SamePair e f
pair_of Nothing f some none = subst (λ x. SamePair Nothing x) (sym (none refl)) tt
pair_of (Least l h c) f some none = let r = some l h c refl in subst (λ x. SamePair (Least l h c) x) (sym r.1) (refl, refl)

pub done_same : (form : ℕ → Form) (at : ℕ → Entry) → Settled form at → IsExhausted form at → (n : ℕ) → SamePair (at n) (entry_given at (form n))
done_same form at s done n = pair_of (at n) (entry_given at (form n)) (s.follows n) (done n)

all_range : (at : ℕ → Entry) (ns : List ℕ) → ((n : ℕ) → InRange (at n)) → AllByRecursion InRange (map at ns)
all_range at [] r = tt
all_range at (n ∷ ns) r = (r n, all_range at ns r)

-- the value of a part's form fits the part
module _ (at : ℕ → Entry) (root : ℕ → ℕ) (range : (n : ℕ) → InRange (at n)) where
  span_fits : (n low high : ℕ) → EntryFits at root n (span low high) (entry_given at (part_form root n (span low high)))
  span_fits n low high =
      ⊎_elim
      (λ t. inr (ltb-true high low t, ap (entry_given at) (cond-true (ltb high low) never (text 1) t)))
      (λ f. inl (ltb-false high low f, ap (entry_given at) (cond-false (ltb high low) never (text 1) f)))
      (cases_Bool (ltb high low))

  times_fits : (least n : ℕ) → entry_given at (repetition_form least n) ≡ times least (at n)
  times_fits zero n = refl
  times_fits (suc more) n = refl

  rep_fits : (n least : ℕ) (most : Option ℕ) (p : Part) → EntryFits at root n (rep least most p) (entry_given at (part_form root n (rep least most p)))
  rep_fits n least None p = inl (tt, times_fits least (suc n))
  rep_fits n least (Some most) p =
      ⊎_elim
      (λ t. inr (ltb-true most least t, ap (entry_given at) (cond-true (ltb most least) never (repetition_form least (suc n)) t)))
      (λ f. inl (ltb-false most least f, ap (entry_given at) (cond-false (ltb most least) never (repetition_form least (suc n)) f) ∙ times_fits least (suc n)))
      (cases_Bool (ltb most least))

  pub given_fits : (n : ℕ) (p : Part) → InRange (entry_given at (part_form root n p)) → EntryFits at root n p (entry_given at (part_form root n p))
  given_fits n (quoted t exact) r = refl
  given_fits n (series characters) r = refl
  given_fits n (span low high) r = span_fits n low high
  given_fits n (seq ps) r = refl
  given_fits n (alt ps) r = is_choice (map at (numbers (suc n) ps)) r (all_range at (numbers (suc n) ps) range)
  given_fits n (rep least most p) r = rep_fits n least most p
  given_fits n (ref name None) r = refl
  given_fits n (ref name (Some k)) r = refl
  given_fits n opaque r = refl

-- the form of a node is that of its part
pub same_form : (root : ℕ → ℕ) (n : ℕ) (p : Part) (node : Node) → IsNode n p node → node_form root node ≡ part_form root n p
same_form root n (quoted t exact) node is = ap (node_form root) is.1 ∙ ap (λ s. text (length s)) is.2
same_form root n (series characters) node is = ap (node_form root) is
same_form root n (span low high) node is = ap (node_form root) is
same_form root n (seq ps) node is = ap (node_form root) is
same_form root n (alt ps) node is = ap (node_form root) is
same_form root n (rep least most p) node is = ap (node_form root) is
same_form root n (ref name None) node is = ap (node_form root) is.1
same_form root n (ref name (Some r)) node is = ap (node_form root) is.1
same_form root n opaque node is = ap (node_form root) is

-- the certificate holds what the table gives each part
pub accepted :
    (trees : List Part) (at : ℕ → Entry) (cert : List Entry) → Settled (form_at trees) at → IsExhausted (form_at trees) at →
    length cert ≡ length (parts_of trees) → ((n : ℕ) → entry_at cert n ≡ entry_given at (form_at trees n)) → ((n : ℕ) → InRange (entry_at cert n)) → IsAccepted trees cert
accepted trees at cert s done one_each is range =
    let same : (n : ℕ) → SamePair (at n) (entry_at cert n) = λ n. subst (λ e. SamePair (at n) e) (sym (is n)) (done_same (form_at trees) at s done n) in
    record {
      one_each = one_each;
      fits = λ n p there.
          let form_is : form_at trees n ≡ part_form (root_number trees) n p = ap (form_or (root_number trees) n) there in
          let given : entry_at cert n ≡ entry_given (entry_at cert) (part_form (root_number trees) n p) =
          is n ∙ ap (entry_given at) form_is ∙ sym (given_alike at (entry_at cert) same (part_form (root_number trees) n p)) in
          subst (λ e. EntryFits (entry_at cert) (root_number trees) n p e) (sym given)
          (given_fits (entry_at cert) (root_number trees) range n p (subst InRange given (range n)));
    }

pub accepted_given : (trees : List Part) (table cert : List Entry) → Settled (form_at trees) (entry_at table) → IsExhausted (form_at trees) (entry_at table) → AreGiven trees table cert → IsAccepted trees cert
accepted_given trees table cert s done v = accepted trees (entry_at table) cert s done v.one_each v.each v.lengths

pub if_ok : {T E : Type 0} (r : Result T E) {P Q : T → Type 0} → IfOk r P → ((x : T) → P x → Q x) → IfOk r Q
if_ok (Ok x) p f = f x p
if_ok (Err e) p f = tt
