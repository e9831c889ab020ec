-- Parts in which two texts differ.
use Rattle.std.proofs.Common.{◌≡◌, ℕ, zero, suc, ◌+◌, ◌-◌, ◌<◌, ◌≤◌, List, [], length, take, drop, get_or, sym, ap, subst, ◌∙◌, arith, inl, inr}
use Rattle.std.proofs.lemmas.List.{get_or-take, get_or-drop}
use Rattle.std.specs.Prelude.{slice_index_or}
use Rattle.std.proofs.lemmas.Bool.{cases_lt}
use Rattle.abnf_token.specs.Classes.{Text}
use Rattle.abnf_syntax.specs.Blocks.{IsSeam}
use Rattle.incremental_findings.specs.own.Parts.{IsFront, IsBack}

-- the lines that both texts have alike, as lists
pub front_is : (ls others : List Text) (front : ℕ) → front ≤ length ls → front ≤ length others → take front ls ≡ take front others → IsFront ls others front
front_is ls others front ours theirs e = record {
  within = (ours, theirs);
  same = λ n less. sym (get_or-take front ls n [] less) ∙ (ap (λ xs. get_or xs n []) e ∙ get_or-take front others n [] less);
}

pub back_is : (ls others : List Text) (back : ℕ) → back ≤ length ls → back ≤ length others
    → drop (length ls - back) ls ≡ drop (length others - back) others → IsBack ls others (length ls - back) (length others - back)
back_is ls others back ours theirs e = record {
  within = (omega arith, omega arith);
  same = λ n. sym (get_or-drop (length ls - back) ls n []) ∙ (ap (λ xs. get_or xs n []) e ∙ get_or-drop (length others - back) others n []);
  count = omega (arith, ours, theirs);
}

-- one line more behind those that are the same
pub front_more : (ls others : List Text) (front : ℕ) → front < length ls → front < length others → slice_index_or ls front [] ≡ slice_index_or others front []
    → IsFront ls others front → IsFront ls others (front + 1)
front_more ls others front ours theirs e h = record {
  within = (omega (arith, ours), omega (arith, theirs));
  same = λ n less.
      elim (cases_lt n front) [
        | inl before ↦ h.same n before
        | inr more ↦
            let is : front ≡ n = omega (arith, more, less) in
            subst (λ k. slice_index_or ls k [] ≡ slice_index_or others k []) is e
      ];
}

-- one line more before those that are the same
pub back_more : (ls others : List Text) (old new : ℕ) → 0 < old → 0 < new → slice_index_or ls (old - 1) [] ≡ slice_index_or others (new - 1) []
    → IsBack ls others old new → IsBack ls others (old - 1) (new - 1)
back_more ls others old new some there same h = record {
  within = (omega (arith, h.within.0), omega (arith, h.within.1));
  same = by;
  count = omega (arith, h.count);
}
  where
    by : (n : ℕ) → slice_index_or ls ((old - 1) + n) [] ≡ slice_index_or others ((new - 1) + n) []
    by zero =
        let ours : (old - 1) + 0 ≡ old - 1 = omega arith in
        let theirs : (new - 1) + 0 ≡ new - 1 = omega arith in
        ap (λ k. slice_index_or ls k []) ours ∙ same ∙ sym (ap (λ k. slice_index_or others k []) theirs)
    by (suc n) =
        let ours : (old - 1) + suc n ≡ old + n = omega arith in
        let theirs : (new - 1) + suc n ≡ new + n = omega arith in
        ap (λ k. slice_index_or ls k []) ours ∙ h.same n ∙ sym (ap (λ k. slice_index_or others k []) theirs)

-- the same from a later line on
pub back_from : (ls others : List Text) (old new at there : ℕ) → old ≤ at → at ≤ length ls → there ≡ (at - old) + new → IsBack ls others old new → IsBack ls others at there
back_from ls others old new at there more within moved h = record {
  within = (within, omega (arith, more, within, moved, h.count));
  same = λ n.
      let ours : at + n ≡ old + ((at - old) + n) = omega (arith, more) in
      let theirs : new + ((at - old) + n) ≡ there + n = omega (arith, moved) in
      ap (λ k. slice_index_or ls k []) ours ∙ (h.same ((at - old) + n) ∙ ap (λ k. slice_index_or others k []) theirs);
  count = omega (arith, more, moved, h.count);
}

-- less of the lines at the front
pub front_less : (ls others : List Text) (front less : ℕ) → less ≤ front → IsFront ls others front → IsFront ls others less
front_less ls others front less up h = record {
  within = (omega (arith, up, h.within.0), omega (arith, up, h.within.1));
  same = λ n before. h.same n (omega (arith, before, up));
}

-- over the first line and over the end goes no block
pub seam_at_start : (ls : List Text) → IsSeam ls 0
seam_at_start ls = record { within = omega arith; begins = λ before less begins some. absurd (omega (arith, less)) }

pub seam_at_end : (ls : List Text) (at : ℕ) → at ≡ length ls → IsSeam ls at
seam_at_end ls at e = record { within = omega (arith, e); begins = λ before some begins less. absurd (omega (arith, e, less)) }
