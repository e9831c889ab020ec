-- The indents of lines, by their first bytes.
use Rattle.std.proofs.Common.{◌≡◌, ℕ, zero, suc, true, false, not, [], ◌∷◌, length, Option, Some, None, get_or, refl, sym, ap, subst, ◌∙◌, arith, if◌then◌else◌}
use Rattle.std.specs.Prelude.{nat_eq}
use Rattle.std.proofs.lemmas.Bool.Decides.{nat_tests}
use Rattle.abnf_token.specs.Classes.{Text, is_blank_byte}
use Rattle.abnf_syntax.specs.Blocks.{indent, is_content}
use Rattle.abnf_syntax.specs.own.Blanks.{AreBlanks, IsFirstOther}

pub record IndentIs (line : Text) (n : ℕ) : Type 0 where
  pub indent_is : indent line ≡ n
  pub content_is : is_content line ≡ not (nat_eq (get_or line n 0) 0x3B)

pub first_other : (line : Text) (n : ℕ) → IsFirstOther line n → IndentIs line n
first_other [] n h = absurd (omega (arith, h.0))
first_other (b ∷ bs) zero h = record {
  indent_is = ap (λ x. if x then suc (indent bs) else 0) h.1;
  content_is = ap (λ x. if x then is_content bs else not (nat_eq b 0x3B)) h.1;
}
first_other (b ∷ bs) (suc n) h =
    let blank : is_blank_byte b ≡ true = h.2 0 (omega arith) in
    let more = first_other bs n (omega (arith, h.0), h.1, λ k less. h.2 (suc k) (omega arith)) in
    record {
      indent_is = ap (λ x. if x then suc (indent bs) else 0) blank ∙ ap (λ x. suc x) more.indent_is;
      content_is = ap (λ x. if x then is_content bs else not (nat_eq b 0x3B)) blank ∙ more.content_is;
    }

pub no_content : (line : Text) → AreBlanks line (length line) → is_content line ≡ false
no_content [] h = refl
no_content (b ∷ bs) h = ap (λ x. if x then is_content bs else not (nat_eq b 0x3B)) (h 0 (omega arith)) ∙ no_content bs (λ k less. h (suc k) (omega arith))

-- ---- what a line's indent is said to be
abbrev told : Text → Option ℕ
told line = if is_content line then Some (indent line) else None

pub none_told : (line : Text) → is_content line ≡ false → None ≡ told line
none_told line e = sym (ap (λ x. if x then Some (indent line) else None) e)

pub some_told : (line : Text) (n : ℕ) → is_content line ≡ true → indent line ≡ n → Some n ≡ told line
some_told line n e i = sym (ap (λ x. if x then Some (indent line) else None) e ∙ ap (λ x. Some x) i)

same_code : (b : ℕ) → b ≡ 0x3B → not (nat_eq b 0x3B) ≡ false
same_code b e = ap (λ x. not (nat_eq x 0x3B)) e

other_code : (b : ℕ) → (b ≡ 0x3B → ⊥) → not (nat_eq b 0x3B) ≡ true
other_code b e = grind (arith, nat_tests)

pub comment_told : (bytes line : Text) (n : ℕ) → bytes ≡ line → IsFirstOther bytes n → get_or bytes n 0 ≡ 0x3B → None ≡ told line
comment_told bytes line n e h is = subst (λ x. None ≡ told x) e (none_told bytes ((first_other bytes n h).content_is ∙ same_code (get_or bytes n 0) is))

pub content_told : (bytes line : Text) (n : ℕ) → bytes ≡ line → IsFirstOther bytes n → (get_or bytes n 0 ≡ 0x3B → ⊥) → Some n ≡ told line
content_told bytes line n e h is = subst (λ x. Some n ≡ told x) e
    (some_told bytes n ((first_other bytes n h).content_is ∙ other_code (get_or bytes n 0) is) (first_other bytes n h).indent_is)

pub blanks_told : (bytes line : Text) → bytes ≡ line → AreBlanks bytes (length bytes) → None ≡ told line
blanks_told bytes line e h = subst (λ x. None ≡ told x) e (none_told bytes (no_content bytes h))
