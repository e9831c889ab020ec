-- Marks of names, number by number: those of core rules that no block defines.
use Rattle.std.proofs.Common.{◌≡◌, ⊎_elim, inl, inr, ℕ, zero, suc, ◌+◌, ◌<◌, Bool, true, false, not, ◌&&◌, List, [], ◌∷◌, ◌++◌, length, refl, sym, ap, subst, ◌∙◌, arith}
use Rattle.std.specs.Option.{option_map_or}
use Rattle.std.proofs.lemmas.Bool.{cases_eq, cases_lt}
use Rattle.std.proofs.lemmas.List.{length-append}
use Rattle.std.proofs.lemmas.Option.{slice_get_within}
use Rattle.abnf_parts.specs.Core.{is_core_name}
use Rattle.abnf_parts.specs.Names.{Name}
use Rattle.abnf_lint.specs.Marks.{mark_at}
use Rattle.findings_index.specs.declared.digest.BlockDigest.{BlockDigest}
use Rattle.findings_index.specs.own.Ways.{AreCoreMarks, AreHeadMarks, is_of_core}

-- ---- marks by a test of numbers

-- one mark for each number below this one
pub record AreMarksUpTo (test : ℕ → Bool) (passed : ℕ) (marks : List Bool) : Type 0 where
  pub one_each : length marks ≡ passed
  pub each : (n : ℕ) → n < passed → mark_at marks n ≡ test n

mark_front : (marks : List Bool) (b : Bool) (n : ℕ) → n < length marks → mark_at (marks ++ b ∷ []) n ≡ mark_at marks n
mark_front [] b n less = absurd (omega (arith, less))
mark_front (m ∷ marks) b zero less = refl
mark_front (m ∷ marks) b (suc n) less = mark_front marks b n (omega (arith, less))

mark_last : (marks : List Bool) (b : Bool) (n : ℕ) → length marks ≡ n → mark_at (marks ++ b ∷ []) n ≡ b
mark_last [] b zero e = refl
mark_last [] b (suc n) e = absurd (omega (arith, e))
mark_last (m ∷ marks) b zero e = absurd (omega (arith, e))
mark_last (m ∷ marks) b (suc n) e = mark_last marks b n (omega (arith, e))

pub one_mark_more : (test : ℕ → Bool) (passed : ℕ) (marks on : List Bool) (b : Bool) → AreMarksUpTo test passed marks → b ≡ test passed → on ≡ marks ++ b ∷ []
    → AreMarksUpTo test (passed + 1) on
one_mark_more test passed marks on b upto is e = subst (AreMarksUpTo test (passed + 1)) (sym e) record {
  one_each = length-append marks (b ∷ []) ∙ (let f : length marks + 1 ≡ passed + 1 = omega (arith, upto.one_each) in f);
  each = λ n less.
      ⊎_elim
      (λ same. mark_last marks b n (upto.one_each ∙ sym same) ∙ (is ∙ ap test (sym same)))
      (λ other.
      let l : n < passed = below n less other in
      mark_front marks b n (omega (arith, l, upto.one_each)) ∙ upto.each n l)
      (cases_eq n passed);
}
  where
    below : (n : ℕ) → n < passed + 1 → (n ≡ passed → ⊥) → n < passed
    below n less other = elim (cases_lt n passed) [ inl l ↦ l | inr m ↦ absurd (other (omega (arith, m, less))) ]

-- ---- the names of core rules that no block defines

and_turned : (a b : Bool) → (not a && b) ≡ (b && not a)
and_turned true true = refl
and_turned true false = refl
and_turned false true = refl
and_turned false false = refl

pub cores_are : (table : List Name) (defined : List Bool) (passed : ℕ) (marks : List Bool) → AreMarksUpTo (is_of_core table defined) passed marks → length table ≡ passed
    → (blocks : List BlockDigest) → AreHeadMarks table blocks defined → AreCoreMarks table blocks marks
cores_are table defined passed marks upto all blocks heads = record {
  one_each = upto.one_each ∙ sym all;
  each = λ n name at.
      let within = slice_get_within table n name at in
      upto.each n (omega (arith, within, all))
      ∙ (ap (λ o. not (mark_at defined n) && option_map_or is_core_name o false) at
      ∙ (and_turned (mark_at defined n) (is_core_name name) ∙ ap (λ b. is_core_name name && not b) (heads.each n within)));
}
