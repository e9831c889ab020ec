-- The text of a name is ASCII, and its characters are its bytes.
use Rattle.std.proofs.Common.{◌≡◌, ◌==◌, ℕ, zero, suc, ◌<◌, true, false, ◌&&◌, ◌||◌, [], ◌∷◌, refl, ap, subst, ◌∙◌, arith}
use Rattle.std.specs.Prelude.{nat_eq}
use Rattle.std.specs.List.{list_any, list_all}
use Rattle.std.specs.Char.{is_ascii_alphabetic, is_ascii_digit}
use Rattle.std.specs.Str.{chars, IsUtf8, IsAscii}
use Rattle.std.proofs.lemmas.Bool.Decides.{nat_tests}
use Rattle.std.proofs.lemmas.Str.{IsUtf8-from_ascii, encodes-IsAscii, chars_from_encodes}
use Rattle.std.proofs.lemmas.Bool.{and_parts}
use Rattle.ls_text.specs.Lines.{is_break}
use Rattle.ls_text.specs.Cut.{IsPlain}
use Rattle.abnf_token.specs.Classes.{Text, is_name, is_name_byte}
use Rattle.abnf_rename.proofs.SegmentLaws.{IsSolid}

name_byte_small : (b : ℕ) → is_name_byte b ≡ true → b < 128
name_byte_small b e = grind (arith, nat_tests)

name_byte_plain : (b : ℕ) → is_name_byte b ≡ true → is_break b ≡ false
name_byte_plain b e = grind (arith, nat_tests)

letter_byte : (b : ℕ) → is_ascii_alphabetic b ≡ true → is_name_byte b ≡ true
letter_byte b e = ap (λ c. c || (is_ascii_digit b || nat_eq b 0x2D)) e

none_ascii : IsAscii []
none_ascii zero = omega arith
none_ascii (suc i) = omega arith

bytes_ascii : (bs : Text) → list_all is_name_byte bs ≡ true → IsAscii bs
bytes_ascii [] e i = none_ascii i
bytes_ascii (b ∷ bs) e zero = name_byte_small b (and_parts (is_name_byte b) (list_all is_name_byte bs) e).0
bytes_ascii (b ∷ bs) e (suc i) = bytes_ascii bs (and_parts (is_name_byte b) (list_all is_name_byte bs) e).1 i

bytes_plain : (bs : Text) → list_all is_name_byte bs ≡ true → IsPlain bs
bytes_plain [] e = refl
bytes_plain (b ∷ bs) e =
    let h = and_parts (is_name_byte b) (list_all is_name_byte bs) e in
    ap (λ c. c || list_any is_break bs) (name_byte_plain b h.0) ∙ bytes_plain bs h.1

name_bytes : (name : Text) → is_name name ≡ true → list_all is_name_byte name ≡ true
name_bytes [] e = absurd (cc (e))
name_bytes (b ∷ bs) e =
    let h = and_parts (is_ascii_alphabetic b) (list_all is_name_byte bs) e in
    ap (λ c. c && list_all is_name_byte bs) (letter_byte b h.0) ∙ h.1

pub name_utf8 : (name : Text) → is_name name ≡ true → IsUtf8 name
name_utf8 name e = IsUtf8-from_ascii name (bytes_ascii name (name_bytes name e))

name_chars : (name : Text) → is_name name ≡ true → name ≡ chars name
name_chars name e = chars_from_encodes name name (name_utf8 name e) (encodes-IsAscii name (bytes_ascii name (name_bytes name e)))

pub name_plain : (name : Text) → is_name name ≡ true → IsPlain (chars name)
name_plain name e = subst IsPlain (name_chars name e) (bytes_plain name (name_bytes name e))

break_lf : (b : ℕ) → is_break b ≡ false → (b == 10) ≡ false
break_lf b e = grind (arith, nat_tests)

bytes_solid : (name : Text) → is_name name ≡ true → IsSolid name
bytes_solid [] e = absurd (cc (e))
bytes_solid (b ∷ bs) e =
    let h = and_parts (is_ascii_alphabetic b) (list_all is_name_byte bs) e in
    record { some = omega arith; no_lf = break_lf b (name_byte_plain b (letter_byte b h.0)) }

pub name_solid : (name : Text) → is_name name ≡ true → IsSolid (chars name)
name_solid name e = subst IsSolid (name_chars name e) (bytes_solid name e)
