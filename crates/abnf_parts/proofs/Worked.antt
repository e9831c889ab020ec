-- What the worked rules generate.
use Rattle.std.proofs.Common.{◌≡◌, ℕ, zero, suc, ◌+◌, ◌≤◌, Bool, true, false, List, [], ◌∷◌, length, Some, refl, sym, ap, subst, ◌∙◌, arith, inl, inr}
use Rattle.std.specs.Prelude.{slice_get, codes}
use Rattle.std.specs.Char.{to_ascii_lowercase}
use Rattle.std.proofs.lemmas.List.{length-map, length-append}
use Rattle.abnf_parts.specs.Part.{Part}
use Rattle.abnf_parts.specs.Generates.{Spells, PartGen, RuleGen, IsLeastPair, Generates}
use Rattle.abnf_parts.specs.own.Rows.{a_text, other_or_text, first_rule, other_and_text, text_and_series}

-- a string is as long as the text that it spells
spelled : (text : List ℕ) (exact : Bool) (s : List ℕ) → Spells text exact s → length s ≡ length text
spelled text true s e = ap length e
spelled text false s e = sym (length-map s to_ascii_lowercase) ∙ (ap length e ∙ length-map text to_ascii_lowercase)

root_is : (p root : Part) → Some p ≡ Some root → p ≡ root
root_is p root e = cc

-- a rule generates what its root does
by_root : {A : Type 0} (roots : List Part) (r k : ℕ) (p : Part) (s : List ℕ) → slice_get roots r ≡ Some p → (PartGen (RuleGen roots k) p s → A) → RuleGen roots (suc k) r s → A
by_root roots r k p s is then g = then (subst (λ root. PartGen (RuleGen roots k) root s) (sym (root_is p g.0 (sym is ∙ g.1))) g.2)

pub text_value : IsLeastPair (a_text ∷ []) a_text 1 0
text_value = record {
  reached = (codes "x", inl refl, refl);
  least = λ s j g. elim g [ inl e ↦ inr (sym (spelled (codes "x") false s e), omega arith) | inr none ↦ absurd none ];
}

abbrev either : List Part
either = other_or_text ∷ first_rule ∷ []

mutual
  length_first : (k : ℕ) (s : List ℕ) → PartGen (RuleGen either k) other_or_text s → length s ≡ 1
  length_first zero s (inl g) = absurd g
  length_first (suc k) s (inl g) = by_root either 1 k first_rule s refl (length_second k s) g
  length_first k s (inr (inl e)) = spelled (codes "x") false s e
  length_first k s (inr (inr none)) = absurd none

  length_second : (k : ℕ) (s : List ℕ) → PartGen (RuleGen either k) first_rule s → length s ≡ 1
  length_second zero s (inl g) = absurd g
  length_second (suc k) s (inl g) = by_root either 0 k other_or_text s refl (length_first k s) g
  length_second k s (inr none) = absurd none

some_reference : (k : ℕ) (s : List ℕ) → PartGen (RuleGen either k) first_rule s → 1 ≤ k
some_reference zero s (inl g) = absurd g
some_reference (suc k) s (inl g) = omega arith
some_reference k s (inr none) = absurd none

pub first_value : IsLeastPair either other_or_text 1 0
first_value = record {
  reached = (codes "x", inr (inl refl), refl);
  least = λ s j g. inr (sym (length_first j s g), omega arith);
}

pub second_value : IsLeastPair either first_rule 1 1
second_value = record {
  reached = (codes "x", inl (other_or_text, refl, inr (inl refl)), refl);
  least = λ s j g. inr (sym (length_second j s g), some_reference j s g);
}

pub series_value : IsLeastPair (text_and_series ∷ []) text_and_series 3 0
series_value = record {
  reached = (
    0x5C ∷ 0x0D ∷ 0x1F600 ∷ [],
    inl (record {
      front = 0x5C ∷ [];
      back = 0x0D ∷ 0x1F600 ∷ [];
      of_front = refl;
      joined = refl;
      of_back = record { front = 0x0D ∷ 0x1F600 ∷ []; back = []; of_front = refl; of_back = refl; joined = refl };
    }),
    refl,
  );
  least = λ s j g. elim g [
    | inl e ↦ inr (
      sym (ap length e.joined ∙ (length-append e.front e.back
          ∙ (λ i. spelled (codes "\\") false e.front e.of_front i + (ap length e.of_back.joined ∙ (length-append e.of_back.front e.of_back.back ∙ (λ j. length (e.of_back.of_front j) + length (e.of_back.of_back j)))) i))),
      omega arith,
    )
    | inr none ↦ absurd none
  ];
}

abbrev endless : List Part
endless = other_and_text ∷ first_rule ∷ []

mutual
  none_first : (k : ℕ) (s : List ℕ) → PartGen (RuleGen endless k) other_and_text s → ⊥
  none_first zero s (inl g) = absurd g.of_front
  none_first (suc k) s (inl g) = by_root endless 1 k first_rule g.front refl (none_second k g.front) g.of_front
  none_first k s (inr none) = none

  none_second : (k : ℕ) (s : List ℕ) → PartGen (RuleGen endless k) first_rule s → ⊥
  none_second zero s (inl g) = absurd g
  none_second (suc k) s (inl g) = by_root endless 0 k other_and_text s refl (none_first k s) g
  none_second k s (inr none) = none

pub endless_first : (s : List ℕ) → Generates endless other_and_text s → ⊥
endless_first s g = none_first g.0 s g.1

pub endless_second : (s : List ℕ) → Generates endless first_rule s → ⊥
endless_second s g = none_second g.0 s g.1
