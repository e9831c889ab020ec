-- A sweep forwards or backwards comes to each block.
use Rattle.std.proofs.Common.{◌≡◌, ⊎_elim, inl, inr, ℕ, ◌+◌, ◌-◌, ◌<◌, ◌≤◌, Bool, true, false, List, length, Some, refl, sym, ap, subst, ◌∙◌, arith}
use Rattle.std.specs.Prelude.{slice_get, slice_index_or, if◌then◌else◌}
use Rattle.std.proofs.lemmas.Bool.{cases_eq, cases_lt}
use Rattle.std.proofs.lemmas.Option.{slice_get_within, slice_get-get_or, get_or_from_slice_get}
use Rattle.abnf_parts.specs.Names.{Name}
use Rattle.findings_index.specs.declared.digest.BlockDigest.{BlockDigest}
use Rattle.findings_index.specs.declared.heads.HeadRole.{HeadRole}
use Rattle.findings_index.specs.declared.sweep.Way.{Way}
use Rattle.findings_index.specs.declared.word.Word.{Word}
use Rattle.findings_index.specs.own.Ways.{AreSwept, AreSoundByWayFor, IsSwept, IsMarkedSo}
use Rattle.findings_index.proofs.Sweeping.{sound_more}

abbrev pub place_in : Bool → ℕ → ℕ → ℕ
place_in backwards count passed = if backwards then count - 1 - passed else passed

-- the sweep came to the place after so many others
came : (backwards : Bool) (count k : ℕ) → k < count → (p : ℕ) × (p < count) × (place_in backwards count p ≡ k)
came true count k less = (count - 1 - k, omega (arith, less), let e : count - 1 - (count - 1 - k) ≡ k = omega (arith, less) in e)
came false count k less = (k, less, refl)

module _ (way : Way) (backwards : Bool) (words : List Word) (blocks : List BlockDigest) (roles : List HeadRole) (marks : List Bool) where
  abbrev pub AreDoneUpTo : ℕ → Type 0
  AreDoneUpTo passed =
      (p : ℕ) → p < passed → (block : BlockDigest) (role : HeadRole) → slice_get blocks (place_in backwards (length blocks) p) ≡ Some block
      → slice_get roles (place_in backwards (length blocks) p) ≡ Some role → IsSwept way words marks block role

  below : (n passed : ℕ) → n < passed + 1 → (n ≡ passed → ⊥) → n < passed
  below n passed less other = elim (cases_lt n passed) [ inl l ↦ l | inr m ↦ absurd (other (omega (arith, m, less))) ]

  pub one_done_more : (passed place : ℕ) (d : BlockDigest) (e : HeadRole) → AreDoneUpTo passed → place ≡ place_in backwards (length blocks) passed
      → IsSwept way words marks (slice_index_or blocks place d) (slice_index_or roles place e) → AreDoneUpTo (passed + 1)
  one_done_more passed place d e upto is here p less block role at_block at_role =
      ⊎_elim
      (λ same.
      let there : place_in backwards (length blocks) p ≡ place = ap (place_in backwards (length blocks)) same ∙ sym is in
      let one : slice_index_or blocks place d ≡ block = get_or_from_slice_get blocks place block d (ap (slice_get blocks) (sym there) ∙ at_block) in
      let two : slice_index_or roles place e ≡ role = get_or_from_slice_get roles place role e (ap (slice_get roles) (sym there) ∙ at_role) in
      subst (λ (x : BlockDigest × HeadRole). IsSwept way words marks x.0 x.1) (λ i. (one i, two i)) here)
      (λ other. upto p (below p passed less other) block role at_block at_role)
      (cases_eq p passed)

  pub all_done : (passed : ℕ) → length blocks ≤ passed → AreDoneUpTo passed → AreSwept way words blocks roles marks
  all_done passed all upto k block role at_block at_role =
      let p = came backwards (length blocks) k (slice_get_within blocks k block at_block) in
      upto p.0 (omega (arith, p.1, all)) block role (ap (slice_get blocks) p.2 ∙ at_block) (ap (slice_get roles) p.2 ∙ at_role)

-- ---- one block

module _ (way : Way) (words : List Word) (blocks : List BlockDigest) (roles : List HeadRole) (marks : List Bool) (place : ℕ) (d : BlockDigest) (e : HeadRole)
    (within : place < length blocks) (one_each : length roles ≡ length blocks) (after : List Bool) where
  pub step_sound : (table : List Name) → AreSoundByWayFor way table words blocks roles marks
      → IsMarkedSo way words marks (slice_index_or blocks place d) (slice_index_or roles place e) after → AreSoundByWayFor way table words blocks roles after
  step_sound table sound marked =
      sound_more way table words blocks roles marks sound place (slice_index_or blocks place d) (slice_index_or roles place e)
      (slice_get-get_or blocks place d within) (slice_get-get_or roles place e (omega (arith, within, one_each))) after marked
