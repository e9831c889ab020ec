-- What is reported where no finding says that its name is defined before.
use Rattle.std.proofs.Common.{◌≡◌, ℕ, Bool, true, false, not, ◌∷◌, [], List, map, None, refl, sym, ap, ◌∙◌}
use Rattle.std.specs.Prelude.{◌||◌, if◌then◌else◌}
use Rattle.std.specs.Option.{option_map, option_map_or}
use Rattle.std.specs.List.{list_any}
use Rattle.abnf_lint.specs.declared.finding.Finding.{Finding}
use Rattle.joined_grammars.specs.declared.repeats.Repeat.{Repeat}
use Rattle.draft_findings.specs.Copies.{is_duplicate, repeat_at, repeat_in_draft, without_copies}
use Rattle.draft_findings.specs.Reports.{Remarked, cut_at, remark_of, remarked, reported}
use Rattle.draft_findings.specs.declared.report.Remark.TheVariants.{Plain}

abbrev pub says_duplicate : Finding → Bool
says_duplicate finding = is_duplicate finding.code

abbrev kept_of : List Repeat → List Finding → List Remarked
kept_of repeats found = map (remarked repeats) (without_copies repeats found)

not_repeated : (repeats : List Repeat) (f : Finding) → is_duplicate f.code ≡ false → repeat_in_draft repeats f ≡ None
not_repeated repeats f is = ap (λ b. if b then repeat_at repeats f.place.line else None) is

module _ (f : Finding) (fs : List Finding) (is : is_duplicate f.code ≡ false) where
  abbrev plain : Remarked
  plain = record { finding = f; remark = Plain }

  first_is : (repeats : List Repeat) → kept_of repeats (f ∷ fs) ≡ plain ∷ kept_of repeats fs
  first_is repeats =
      let none = not_repeated repeats f is in
      let rest = without_copies repeats fs in
      ap (λ o. map (remarked repeats) (if not (option_map_or (λ (r : Repeat). r.is_same) o false) then f ∷ rest else rest)) none
      ∙ ap (λ o. record { finding = f; remark = remark_of (option_map (λ (r : Repeat). r.original) o) } ∷ kept_of repeats fs) none

one_said : (repeats : List Repeat) (f : Finding) (fs : List Finding) (b : Bool) → is_duplicate f.code ≡ b → (b || list_any says_duplicate fs) ≡ false
    → (list_any says_duplicate fs ≡ false → kept_of repeats fs ≡ kept_of [] fs) → kept_of repeats (f ∷ fs) ≡ kept_of [] (f ∷ fs)
one_said repeats f fs true is e rest = absurd (cc (e))
one_said repeats f fs false is e rest = first_is f fs is repeats ∙ (ap (λ rs. plain f fs is ∷ rs) (rest e) ∙ sym (first_is f fs is []))

none_said : (repeats : List Repeat) (found : List Finding) → list_any says_duplicate found ≡ false → kept_of repeats found ≡ kept_of [] found
none_said repeats [] e = refl
none_said repeats (f ∷ fs) e = one_said repeats f fs (is_duplicate f.code) refl e (none_said repeats fs)

pub reported_alike : (repeats : List Repeat) (ends : List ℕ) (found : List Finding) → list_any says_duplicate found ≡ false → reported repeats ends found ≡ reported [] ends found
reported_alike repeats ends found e = ap (cut_at ends) (none_said repeats found e)
