-- The check of a node is that of its part.
use Rattle.std.proofs.Common.{◌≡◌, ℕ, suc, ◌+◌, ◌<◌, ◌↔◌, inl, inr, ⊎_elim, Bool, false, IsTrue, List, length, Some, None, sym, ap, ◌∙◌, subst, arith, get_or}
use Rattle.std.proofs.lemmas.Option.{same_Some, slice_get-map, slice_get-get_or, get_or_from_slice_get, slice_get_within}
use Rattle.std.specs.List.{AllByRecursion}
use Rattle.std.proofs.lemmas.Bool.{cases_lt}
use Rattle.std.specs.Prelude.{slice_get, option_map}
use Rattle.abnf_cert.specs.declared.entry.Entry.{Entry}
use Rattle.abnf_cert.specs.declared.entry.Entry.TheVariants.{Nothing, Least}
use Rattle.abnf_parts.specs.declared.node.Node.{Node}
use Rattle.abnf_parts.specs.declared.node.Node.TheVariants.{Quoted, Series, Span, Seq, Alt, Rep, Ref, Opaque}
use Rattle.abnf_parts.specs.Part.{Part, quoted, series, span, seq, alt, rep, ref, opaque, parts_of, root_number, numbers}
use Rattle.abnf_parts.specs.Nodes.{IsNode, RefersWithin, AreNodes}
use Rattle.abnf_cert.specs.FitsNode.{FitsNode, NodeRefersWithin}
use Rattle.abnf_cert.specs.own.Test.{entries_at}
use Rattle.abnf_cert.specs.Accepted.{HasPair, top, EntryFits, entry_at, Saturated, IsFirstLeast, IsChoice, IsAccepted}

-- the chosen part has the pair
pub chosen : (cert : List Entry) (ns : List ℕ) (l h c x : ℕ) → c < length ns → x ≡ get_or ns c x → HasPair l h (entry_at cert x) → (d : ℕ) × (slice_get (entries_at cert ns) c ≡ Some (Least l h d))
chosen cert ns l h c x within is pair =
    (pair.0, slice_get-map (entry_at cert) ns c ∙ ap (λ o. option_map (entry_at cert) o) (slice_get-get_or ns c x within ∙ ap Some (sym is)) ∙ ap Some pair.1)

module _ (es : List Entry) (l h c : ℕ) (r : Bool) (is : (d : ℕ) × (slice_get es c ≡ Some (Least l h d))) where
  pub full_choice : l ≡ top → (IsTrue r ↔ AllByRecursion Saturated es) → IsTrue r ↔ IsChoice es (Least l h c)
  full_choice at_top all = (
    λ t. (is, inr (record { at_top = at_top; all = all.0 t })),
    λ ch. all.1 (⊎_elim (λ f. absurd (omega (arith, f.below))) (λ s. s.all) ch.1),
  )

  pub first_choice : l < top → (IsTrue r ↔ IsFirstLeast es l h c) → IsTrue r ↔ IsChoice es (Least l h c)
  first_choice below first = (
    λ t. (is, inl (first.0 t)),
    λ ch. first.1 (⊎_elim (λ f. f) (λ s. absurd (omega (arith, s.at_top))) ch.1),
  )

module _ (at : ℕ → Entry) (root : ℕ → ℕ) (e : Entry) where
  along : (a b : Node) (X : Type 0) → a ≡ b → (FitsNode at root b e ↔ X) → FitsNode at root a e ↔ X
  along a b X is h = subst (λ n. FitsNode at root n e ↔ X) (sym is) h

  same : (X : Type 0) → X ↔ X
  same X = (λ x. x, λ x. x)

  pub node_fits : (n : ℕ) (p : Part) (node : Node) → IsNode n p node → FitsNode at root node e ↔ EntryFits at root n p e
  node_fits n (quoted text exact) node is =
      along node (Quoted is.0 exact) (e ≡ Least (length text) 0 0) is.1 (subst (λ s. (e ≡ Least (length is.0.now) 0 0) ↔ (e ≡ Least (length s) 0 0)) is.2 (same (e ≡ Least (length is.0.now) 0 0)))
  node_fits n (series characters) node is = along node (Series characters) (EntryFits at root n (series characters) e) is (same (EntryFits at root n (series characters) e))
  node_fits n (span low high) node is = along node (Span low high) (EntryFits at root n (span low high) e) is (same (EntryFits at root n (span low high) e))
  node_fits n (seq ps) node is = along node (Seq (numbers (suc n) ps)) (EntryFits at root n (seq ps) e) is (same (EntryFits at root n (seq ps) e))
  node_fits n (alt ps) node is = along node (Alt (numbers (suc n) ps)) (EntryFits at root n (alt ps) e) is (same (EntryFits at root n (alt ps) e))
  node_fits n (rep least most p) node is = along node (Rep least most (suc n)) (EntryFits at root n (rep least most p) e) is (same (EntryFits at root n (rep least most p) e))
  node_fits n (ref name None) node is = along node (Ref is.0 None) (e ≡ Nothing) is.1 (same (e ≡ Nothing))
  node_fits n (ref name (Some r)) node is = along node (Ref is.0 (Some r)) (EntryFits at root n (ref name (Some r)) e) is.1 (same (EntryFits at root n (ref name (Some r)) e))
  node_fits n opaque node is = along node Opaque (e ≡ Nothing) is (same (e ≡ Nothing))

node_refers : (count n : ℕ) (p : Part) (node : Node) → IsNode n p node → RefersWithin count p → NodeRefersWithin count node
node_refers count n (quoted text exact) node is h = subst (λ x. NodeRefersWithin count x) (sym is.1) tt
node_refers count n (series characters) node is h = subst (λ x. NodeRefersWithin count x) (sym is) tt
node_refers count n (span low high) node is h = subst (λ x. NodeRefersWithin count x) (sym is) tt
node_refers count n (seq ps) node is h = subst (λ x. NodeRefersWithin count x) (sym is) tt
node_refers count n (alt ps) node is h = subst (λ x. NodeRefersWithin count x) (sym is) tt
node_refers count n (rep least most p) node is h = subst (λ x. NodeRefersWithin count x) (sym is) tt
node_refers count n (ref name None) node is h = subst (λ x. NodeRefersWithin count x) (sym is.1) tt
node_refers count n (ref name (Some r)) node is h = subst (λ x. NodeRefersWithin count x) (sym is.1) h
node_refers count n opaque node is h = subst (λ x. NodeRefersWithin count x) (sym is) tt

-- the part that a node stands for
pub record StandsAt (trees : List Part) (n : ℕ) (node : Node) : Type 0 where
  pub part : Part
  pub is : slice_get (parts_of trees) n ≡ Some part
  pub of_part : IsNode n part node
  pub refers : NodeRefersWithin (length trees) node

pub stands_at : (trees : List Part) (nodes : List Node) (n : ℕ) (node : Node) → AreNodes trees nodes → n < length nodes → node ≡ get_or nodes n node → StandsAt trees n node
stands_at trees nodes n node are within is =
    let within' : n < length (parts_of trees) = omega (arith, are.one_each) in
    let p = get_or (parts_of trees) n opaque in
    let at = slice_get-get_or (parts_of trees) n opaque within' in
    let known = are.each n p at in
    let same_node : known.0 ≡ node = sym (get_or_from_slice_get nodes n known.0 node known.1) ∙ sym is in
    let of_part : IsNode n p node = subst (λ x. IsNode n p x) same_node known.2 in
    record { part = p; is = at; of_part = of_part; refers = node_refers (length trees) n p node of_part known.3 }

-- the entries of the parts below number n fit
abbrev pub FitBelow : List Part → List Entry → ℕ → Type 0
FitBelow trees cert n = (k : ℕ) (p : Part) → k < n → slice_get (parts_of trees) k ≡ Some p → EntryFits (entry_at cert) (root_number trees) k p (entry_at cert k)

module _ (trees : List Part) (cert : List Entry) (n : ℕ) (node : Node) (stands : StandsAt trees n node) where
  one_fits : FitsNode (entry_at cert) (root_number trees) node (entry_at cert n) → (p : Part) → slice_get (parts_of trees) n ≡ Some p → EntryFits (entry_at cert) (root_number trees) n p (entry_at cert n)
  one_fits fits p is =
      let same_part : stands.part ≡ p = same_Some stands.part p (sym stands.is ∙ is) in
      subst (λ q. EntryFits (entry_at cert) (root_number trees) n q (entry_at cert n)) same_part ((node_fits (entry_at cert) (root_number trees) (entry_at cert n) n stands.part node stands.of_part).0 fits)

  more_fit : FitsNode (entry_at cert) (root_number trees) node (entry_at cert n) → FitBelow trees cert n → FitBelow trees cert (n + 1)
  more_fit fits below k p lt is =
      ⊎_elim
      (λ less. below k p less is)
      (λ equal. let e : n ≡ k = omega arith in
      let Holds : ℕ → Type 0 = λ m. slice_get (parts_of trees) m ≡ Some p → EntryFits (entry_at cert) (root_number trees) m p (entry_at cert m) in
      subst Holds e (one_fits fits p) is)
      (cases_lt k n)

  pub fit_step : (a b c : Bool) → (IsTrue a ↔ FitsNode (entry_at cert) (root_number trees) node (entry_at cert n)) → (IsTrue b ↔ FitBelow trees cert n) → (IsTrue c → IsTrue a × IsTrue b) → (IsTrue a → IsTrue b → IsTrue c) → IsTrue c ↔ FitBelow trees cert (n + 1)
  fit_step a b c one before parts both = (
    λ t. let ab = parts t in more_fit (one.0 ab.0) (before.0 ab.1),
    λ h. both
        (one.1 ((node_fits (entry_at cert) (root_number trees) (entry_at cert n) n stands.part node stands.of_part).1 (h n stands.part (omega arith) stands.is)))
        (before.1 (λ k p lt is. h k p (omega arith) is)),
  )

pub not_false : (b : Bool) → b ≡ false → IsTrue b → ⊥
not_false b e t = cc

pub accepted_if : (trees : List Part) (cert : List Entry) (n : ℕ) (b : Bool) → (IsTrue b ↔ FitBelow trees cert n) → n ≡ length (parts_of trees) → length cert ≡ length (parts_of trees) → IsTrue b ↔ IsAccepted trees cert
accepted_if trees cert n b all whole one_each = (
  λ t. record {
    one_each = one_each;
    fits = λ k p is.
        let lt : k < length (parts_of trees) = slice_get_within (parts_of trees) k p is in
        all.0 t k p (omega arith) is;
  },
  λ accepted. all.1 (λ k p lt is. accepted.fits k p is),
)
