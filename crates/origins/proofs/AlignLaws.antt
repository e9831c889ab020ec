-- Laws of the indent of a block, and of the characters without it.
use Rattle.std.proofs.Common.{◌≡◌, ℕ, suc, ◌+◌, ◌<◌, true, false, List, [], ◌∷◌, ◌++◌, length, drop, get_or, refl, sym, ap, subst, inl, inr, ◌∙◌, arith}
use Rattle.std.specs.Prelude.{Option, Some, None, IfSome, nat_eq}
use Rattle.std.proofs.lemmas.List.{at_drop_more, length_push}
use Rattle.std.proofs.lemmas.Bool.Decides.{eqb_tells}
use Rattle.origins.specs.Origins.{first_indent, is_blank_char, is_break}

-- a character of a text, and what is left behind it
pub left_at : (cs : List ℕ) (n c : ℕ) → (n < length cs) × (c ≡ get_or cs n c) → drop n cs ≡ c ∷ drop (n + 1) cs
left_at cs n c here = at_drop_more (λ ds. ds) cs n c here.0 ∙ ap (λ d. d ∷ drop (n + 1) cs) (sym here.1)

-- ---- the indent by one character more

module _ (c : ℕ) (cs : List ℕ) where
  pub indent_break : (front : Option ℕ) → is_break c ≡ true → first_indent front (c ∷ cs) ≡ first_indent (Some 0) cs
  indent_break None e = rw e refl
  indent_break (Some n) e = rw e refl

  pub indent_comment : is_break c ≡ false → first_indent None (c ∷ cs) ≡ first_indent None cs
  indent_comment e = rw e refl

  pub indent_blank : (n : ℕ) → is_break c ≡ false → is_blank_char c ≡ true → first_indent (Some n) (c ∷ cs) ≡ first_indent (Some (n + 1)) cs
  indent_blank n e b = rw (e, b) (ap (λ m. first_indent (Some m) cs) (let same : suc n ≡ n + 1 = omega arith in same))

  pub indent_semicolon : (n : ℕ) → is_break c ≡ false → is_blank_char c ≡ false → nat_eq c 59 ≡ true → first_indent (Some n) (c ∷ cs) ≡ first_indent None cs
  indent_semicolon n e b s = rw (e, b, s) refl

  pub indent_content : (n : ℕ) → is_break c ≡ false → is_blank_char c ≡ false → (c ≡ 59 → ⊥) → first_indent (Some n) (c ∷ cs) ≡ n
  indent_content n e b s = let other : nat_eq c 59 ≡ false = elim (eqb_tells c 59) [ inl x ↦ absurd (s x.1) | inr x ↦ x.0 ] in rw (e, b, other) refl

pub indent_end : (front : Option ℕ) → first_indent front [] ≡ 0
indent_end None = refl
indent_end (Some n) = refl

pub indent_more : (cs yielded : List ℕ) (c : ℕ) (front next : Option ℕ) {whole : ℕ} → (length yielded < length cs) × (c ≡ get_or cs (length yielded) c) → ((ds : List ℕ) → first_indent front (c ∷ ds) ≡ first_indent next ds) → first_indent front (drop (length yielded) cs) ≡ whole → first_indent next (drop (length (yielded ++ c ∷ [])) cs) ≡ whole
indent_more cs yielded c front next here step was =
    ap (λ n. first_indent next (drop n cs)) (length_push yielded c) ∙ sym (step (drop (length yielded + 1) cs)) ∙ ap (first_indent front) (sym (left_at cs (length yielded) c here)) ∙ was

pub IfSome_at : (o : Option ℕ) (P : ℕ → Type 0) (n : ℕ) → o ≡ Some n → IfSome o P → P n
IfSome_at o P n is h = subst (λ p. IfSome p P) is h
