-- The place of a name among names that differ.
use Rattle.std.proofs.Common.{◌≡◌, ◌∙◌, ℕ, zero, suc, Bool, true, false, List, [], ◌∷◌, map, refl, sym, ap, subst}
use Rattle.std.specs.Prelude.{slice_get, Option, Some, option_map, if◌then◌else◌, position}
use Rattle.std.specs.List.{IsDistinct, AllByRecursion}
use Rattle.std.specs.Str.{bytes_eq}
use Rattle.std.proofs.lemmas.Bool.{false_from_ne_true}
use Rattle.abnf_token.specs.declared.folded.Folded.{Folded}
use Rattle.abnf_parts.specs.Names.{Name, folded_text, rule_number}
use Rattle.abnf_parts.proofs.NameLaws.{never, position_cons, same_is, same_refl}

abbrev alike : Folded → Folded → Bool
alike a b = bytes_eq (folded_text a) (folded_text b)

is_there : (x y : Folded) → Some x ≡ Some y → x ≡ y
is_there x y e = cc e

all_at : (P : Folded → Type 0) (keys : List Folded) (i : ℕ) (x : Folded) → AllByRecursion P keys → slice_get keys i ≡ Some x → P x
all_at P [] i x all e = absurd (cc e)
all_at P (k ∷ keys) zero x all e = subst P (is_there k x e) all.0
all_at P (k ∷ keys) (suc i) x all e = all_at P keys i x all.1 e

off : (b : Bool) (first rest : Option ℕ) → b ≡ false → (if b then first else rest) ≡ rest
off false first rest e = refl
off true first rest e = absurd (cc e)

on : (b : Bool) (first rest : Option ℕ) → b ≡ true → (if b then first else rest) ≡ first
on true first rest e = refl
on false first rest e = absurd (cc e)

pub place_is : (keys : List Folded) (i : ℕ) (x : Folded) (name : Name) → IsDistinct alike keys → slice_get keys i ≡ Some x → bytes_eq (folded_text x) name ≡ true → rule_number (map folded_text keys) name ≡ Some i
unfolding IsDistinct
place_is [] i x name apart e same = absurd (cc e)
place_is (k ∷ keys) zero x name apart e same =
    let is : folded_text k ≡ name = ap folded_text (is_there k x e) ∙ same_is (folded_text x) name same in
    position_cons (bytes_eq name) (folded_text k) (map folded_text keys)
    ∙ on (bytes_eq name (folded_text k)) (Some 0) _ (ap (bytes_eq name) is ∙ same_refl name)
place_is (k ∷ keys) (suc i) x name apart e same =
    let other : alike k x ≡ false = all_at (λ y. alike k y ≡ false) keys i x apart.0 e in
    let differs : bytes_eq name (folded_text k) ≡ false =
    false_from_ne_true (bytes_eq name (folded_text k)) (λ h.
    let first : folded_text k ≡ folded_text x = sym (same_is name (folded_text k) h) ∙ sym (same_is (folded_text x) name same) in
    never (alike k x) (ap (bytes_eq (folded_text k)) (sym first) ∙ same_refl (folded_text k)) other) in
    position_cons (bytes_eq name) (folded_text k) (map folded_text keys)
    ∙ (off (bytes_eq name (folded_text k)) (Some 0) (option_map suc (position (bytes_eq name) (map folded_text keys))) differs
    ∙ ap (option_map suc) (place_is keys i x name apart.1 e same))
