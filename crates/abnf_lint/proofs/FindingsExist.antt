-- Each text has findings.
use Rattle.std.proofs.Common.{◌≡◌, ◌<◌, ◌≤◌, ◌+◌, ◌^◌, ℕ, zero, suc, Bool, true, false, List, [], ◌∷◌, ◌++◌, length, inl, inr, refl, ap, subst, arith, ⊎_elim}
use Rattle.std.specs.Prelude.{◌↔◌, IsTrue, slice_index_or}
use Rattle.std.proofs.Math.Nat.{eq-or-lt_of_le}
use Rattle.abnf_parts.specs.Part.{Part, root_number}
use Rattle.abnf_parts.specs.Generates.{Generates}
use Rattle.abnf_parts.specs.Reach.{ReachesOpaque}
use Rattle.abnf_names.specs.Rules.{Grammar, IsGrammar, rules_of}
use Rattle.abnf_names.proofs.Exist.{some_grammar}
use Rattle.abnf_cert.specs.declared.entry.Entry.{Entry}
use Rattle.abnf_cert.specs.declared.entry.Entry.TheVariants.{Nothing, Least}
use Rattle.abnf_cert.specs.Accepted.{entry_at, IsAccepted, top}
use Rattle.abnf_cert.proofs.RootSays.{root_says}
use Rattle.abnf_least.specs.Table.{InRange}
use Rattle.abnf_least.proofs.Exist.{some_certificate}
use Rattle.abnf_least.proofs.Reaching.{reaches_or_not}
use Rattle.abnf_least.proofs.Short.{rules_short}
use Rattle.abnf_lint.specs.declared.finding.Finding.{Finding}
use Rattle.abnf_lint.specs.Rows.{AreRows}
use Rattle.abnf_lint.specs.Unproductive.{AreUnproductive, IsUnproductive}
use Rattle.abnf_lint.proofs.Ascends.{some_rows}
use Rattle.abnf_lint.proofs.Marks.{each_more}

-- ---- the marks

module _ (rules : List Part) (cert : List Entry) (accepted : IsAccepted rules cert) where
  abbrev Decided : ℕ → Type 0
  Decided r = (b : Bool) × (IsTrue b ↔ IsUnproductive rules r)

  by_entry : (r : ℕ) → r < length rules → (ReachesOpaque rules r → ⊥) → (e : Entry) → e ≡ entry_at cert (root_number rules r) → InRange e → Decided r
  by_entry r known closed Nothing is range =
      let root = root_says rules cert accepted r known Nothing is in
      let holds : IsUnproductive rules r = record {
        known = closed;
        nothing = λ p at s g. root.2 s (let same : p ≡ root.0 = cc (at, root.1) in subst (λ (q : Part). Generates rules q s) same g);
      } in
      (true, (λ x. holds, λ x. refl))
  by_entry r known closed (Least l h c) is range =
      let root = root_says rules cert accepted r known (Least l h c) is in
      let most : l ≤ top = range in
      (false, (λ x. cc x, λ holds. absurd (elim (eq-or-lt_of_le most) [ inl x ↦ holds.nothing root.0 root.1 (root.2.1 x).0.0 (root.2.1 x).0.1 | inr x ↦ holds.nothing root.0 root.1 (root.2.0 x).1.reached.0 (root.2.0 x).1.reached.1 ])))

  decided : ((n : ℕ) → InRange (entry_at cert n)) → (r : ℕ) → r < length rules → Decided r
  decided range r known =
      ⊎_elim
      (λ (reaches : ReachesOpaque rules r). (false, (λ x. cc x, λ (holds : IsUnproductive rules r). absurd (holds.known reaches))))
      (λ closed. by_entry r known closed (entry_at cert (root_number rules r)) refl (range (root_number rules r)))
      (reaches_or_not rules r)

  abbrev MarksUpTo : ℕ → List Bool → Type 0
  MarksUpTo n marks = (length marks ≡ n) × ((k : ℕ) → k < n → IsTrue (slice_index_or marks k false) ↔ IsUnproductive rules k)

  marks_up_to : ((n : ℕ) → InRange (entry_at cert n)) → (n : ℕ) → n ≤ length rules → (marks : List Bool) × MarksUpTo n marks
  marks_up_to range zero most = ([], (refl, λ k less. absurd (omega arith)))
  marks_up_to range (suc n) most =
      let front = marks_up_to range n (omega arith) in
      let one = decided range n (omega arith) in
      let marks = front.0 ++ one.0 ∷ [] in
      (marks, subst (λ m. MarksUpTo m marks) (let e : n + 1 ≡ suc n = omega arith in e) (each_more (IsUnproductive rules) front.0 marks n one.0 front.1.0 front.1.1 one.1 refl))

some_marks : (rules : List Part) (cert : List Entry) → IsAccepted rules cert → ((n : ℕ) → InRange (entry_at cert n)) → (marks : List Bool) × AreUnproductive rules marks
some_marks rules cert accepted range =
    let all = marks_up_to rules cert accepted range (length rules) (omega arith) in
    (all.0, record { one_each = all.1.0; each = all.1.1 })

-- ---- the findings

pub some_findings : (text : List ℕ) → length text < 2 ^ 62 → (found : List Finding) × AreRows text found
some_findings text small =
    let g = some_grammar text small in
    let right : IsGrammar g.0 = g.2 in
    let cert = some_certificate g.0.rules (rules_short g.0 right) in
    let marks = some_marks g.0.rules cert.0 cert.1 cert.2 in
    let are : AreUnproductive (rules_of right.blocks) marks.0 = subst (λ (rs : List Part). AreUnproductive rs marks.0) (ap (λ (x : Grammar). x.rules) right.is) marks.1 in
    let rows = some_rows g.0.text right.blocks right.of_text marks.0 are in
    (rows.0, subst (λ t. AreRows t rows.0) g.1 rows.1)
