-- Laws of edits and of lists of edits.
use Rattle.std.proofs.Common.{◌≡◌, ℕ, ◌+◌, ◌<◌, ◌≤◌, Bool, true, false, cond, List, [], ◌∷◌, length, drop, get_or, refl, sym, ap, ◌∙◌, arith}
use Rattle.std.specs.Prelude.{Option, Some, None, Result, Ok, Err, IfErr, ◌↔◌, nat_lt}
use Rattle.std.specs.Str.{chars}
use Rattle.std.proofs.lemmas.List.{at_drop_more, at_drop_all}
use Rattle.std.proofs.lemmas.Bool.Decides.{nat_tests}
use Rattle.ls_text.specs.Edits.{position_offset, replaced, edited, edited_all, is_too_large, first_is_too_large}
use Rattle.ls_text.specs.declared.position.Range.{Range}
use Rattle.ls_text.specs.declared.edit.Edit.{Edit}
use Rattle.ls_text.specs.declared.fault.TextFault.{TextFault}
use Rattle.ls_text.specs.declared.fault.TextFault.TheVariants.{TooLarge, Memory}

pub edited_none : (w : ℕ → ℕ) (t : List ℕ) (e : Edit) → e.range ≡ None → edited w t e ≡ chars e.text
unfolding edited
edited_none w t e h = rw h refl

pub edited_some : (w : ℕ → ℕ) (t : List ℕ) (e : Edit) (r : Range) → e.range ≡ Some r → edited w t e ≡ replaced t (position_offset w t r.start) (position_offset w t r.end) (chars e.text)
unfolding edited
edited_some w t e r h = rw h refl

pub not_larger : (n : ℕ) → n ≤ 4_194_304 → nat_lt 4_194_304 n ≡ false
not_larger n h = grind (arith, nat_tests)

pub larger : (n : ℕ) → 4_194_304 < n → nat_lt 4_194_304 n ≡ true
larger n h = grind (arith, nat_tests)

cond_no : (b : Bool) (x y : Option (List ℕ)) → b ≡ false → cond b x y ≡ y
cond_no false x y e = refl
cond_no true x y e = cc

cond_yes : (b : Bool) (x y : Option (List ℕ)) → b ≡ true → cond b x y ≡ x
cond_yes true x y e = refl
cond_yes false x y e = cc

-- the edits from the i-th on
module _ (w : ℕ → ℕ) (t : List ℕ) (es : List Edit) (i : ℕ) where
  pub all_end : length es ≤ i → edited_all w t (drop i es) ≡ Some t
  unfolding edited_all
  all_end le = at_drop_all (λ xs. edited_all w t xs) es i le

  module _ (e : Edit) (lt : i < length es) (item : e ≡ get_or es i e) where
    next : edited_all w t (drop i es) ≡ cond (is_too_large (edited w t e)) None (edited_all w (edited w t e) (drop (i + 1) es))
    unfolding edited_all
    next = at_drop_more (λ xs. edited_all w t xs) es i e lt ∙ ap (λ x. cond (is_too_large (edited w t x)) None (edited_all w (edited w t x) (drop (i + 1) es))) (sym item)

    pub all_more : is_too_large (edited w t e) ≡ false → edited_all w t (drop i es) ≡ edited_all w (edited w t e) (drop (i + 1) es)
    all_more small = next ∙ cond_no _ _ _ small

    pub all_none : is_too_large (edited w t e) ≡ true → edited_all w t (drop i es) ≡ None
    all_none large = next ∙ cond_yes _ _ _ large

pub memory_alone : (e : TextFault) → (e ≡ TooLarge → ⊥) → e ≡ Memory
memory_alone TooLarge other = absurd (other refl)
memory_alone Memory other = refl

pub first_large : (w : ℕ → ℕ) (t : List ℕ) (es : List Edit) (e : Edit) → 0 < length es → e ≡ get_or es 0 e → first_is_too_large w t es ≡ is_too_large (edited w t e)
first_large w t [] e lt item = absurd (omega (arith, lt))
first_large w t (x ∷ es) e lt item = ap (λ y. is_too_large (edited w t y)) (sym item)

pub none_large : (w : ℕ → ℕ) (t : List ℕ) (es : List Edit) → length es ≤ 0 → first_is_too_large w t es ≡ true → ⊥
none_large w t [] le e = cc
none_large w t (x ∷ es) le e = absurd (omega (arith, le))

-- a text is too large just where it has more bytes
pub large_bytes : (n : ℕ) → nat_lt 4_194_304 n ≡ true → 4_194_304 < n
large_bytes n h = grind (arith, nat_tests)

-- memory is no text that is too large
not_large : {A : Type 0} → ◌≡◌ {A = Result A TextFault} (Err Memory) (Err TooLarge) → ⊥
not_large e = cc

-- what an error that is handed on says of a text
pub carried : {A B P Q : Type 0} (r : Result B TextFault) (e : TextFault) → r ≡ Err e → (◌≡◌ {A = Result A TextFault} (Err e) (Err TooLarge) ↔ P) → (P → Q) → (Q → P) → (r ≡ Err TooLarge) ↔ Q
carried r TooLarge is h fore back = (λ large. fore (h.0 refl), λ q. is)
carried r Memory is h fore back = (λ large. absurd (not_large (sym is ∙ large)), λ q. absurd (not_large (h.1 (back q))))

-- an error for want of memory alone, of a text that isn't too large
pub small_one : {A Q : Type 0} (r : Result A TextFault) → IfErr r (λ e. e ≡ Memory) → (Q → ⊥) → (r ≡ Err TooLarge) ↔ Q
small_one (Ok x) h small = (λ large. absurd (cc), λ q. absurd (small q))
small_one (Err e) h small = (λ large. absurd (not_large (sym (ap Err h) ∙ large)), λ q. absurd (small q))
