-- The digits at the front of a text.
use Rattle.std.proofs.Common.{◌≡◌, ℕ, ◌+◌, ◌-◌, ◌*◌, ◌<◌, ◌^◌, ◌&&◌, Bool, true, false, Some, List, [], ◌∷◌, ◌++◌, length, take, drop, get_or, min, refl, sym, ◌∙◌, ap, subst, arith}
use Rattle.std.proofs.lemmas.Int.Digits.{digits_value_more}
use Rattle.std.proofs.lemmas.Str.{digit_value_digit}
use Rattle.std.specs.Int.{IsInRange}
use Rattle.std.specs.Char.{digit_value, is_ascii_digit}
use Rattle.std.specs.List.{list_all}
use Rattle.std.specs.Str.Parse.{digits_value}
use Rattle.std.proofs.lemmas.List.{take-append-drop}
use Rattle.std.proofs.lemmas.Option.{cond_some}
use Rattle.std.proofs.lemmas.Str.Parse.{numerals_by_value, tells_all_ascii_digits}
use Rattle.std.proofs.lemmas.Fmt.{decimal-digits_value}
use Rattle.std.specs.Fmt.{decimal}
use Rattle.std.specs.Str.{all_ascii_digits}
use Rattle.std.specs.Prelude.{if◌then◌else◌, ◌==◌}
use Rattle.abnf_cert.specs.Read.{digit_count, is_plain_number, number_at}

capped : (v n r d : ℕ) → n ≡ min v 18446744073709551616 → r ≡ min (n * 10 + d) 18446744073709551616 → r ≡ min (v * 10 + d) 18446744073709551616
capped v n r d e f = omega arith

pub digit_more : (ds : List ℕ) (i n r : ℕ) → i < length ds → IsInRange 48 57 (get_or ds i 0) → n ≡ min (digits_value 10 (take i ds)) 18446744073709551616
    → r ≡ min (n * 10 + (get_or ds i 0 - 48)) 18446744073709551616 → r ≡ min (digits_value 10 (take (i + 1) ds)) 18446744073709551616
digit_more ds i n r h digit e f =
    let d : digit_value (get_or ds i 0) + 48 ≡ get_or ds i 0 = digit_value_digit (get_or ds i 0) digit in
    let value : get_or ds i 0 - 48 ≡ digit_value (get_or ds i 0) = omega (arith, d) in
    let g : r ≡ min (n * 10 + digit_value (get_or ds i 0)) 18446744073709551616 = f ∙ ap (λ x. min (n * 10 + x) 18446744073709551616) value in
    capped (digits_value 10 (take i ds)) n r (digit_value (get_or ds i 0)) e g ∙ ap (λ v. min v 18446744073709551616) (sym (digits_value_more 10 ds i h))

front_by : (b : Bool) (c : ℕ) (cs : List ℕ) → is_ascii_digit c ≡ b → all_ascii_digits (take (digit_count cs) cs) ≡ true → all_ascii_digits (take (digit_count (c ∷ cs)) (c ∷ cs)) ≡ true
front_by true c cs e h = rw (e, e, h) refl
front_by false c cs e h = rw e refl

pub front_digits : (bs : List ℕ) → all_ascii_digits (take (digit_count bs) bs) ≡ true
front_digits [] = refl
front_digits (c ∷ cs) = front_by (is_ascii_digit c) c cs refl (front_digits cs)

list_by : (bs : List ℕ) → all_ascii_digits bs ≡ list_all is_ascii_digit bs
list_by [] = refl
list_by (c ∷ cs) = ap (λ b. is_ascii_digit c && b) (list_by cs)

pub front_listed : (bs : List ℕ) → list_all is_ascii_digit (take (digit_count bs) bs) ≡ true
front_listed bs = sym (list_by (take (digit_count bs) bs)) ∙ front_digits bs

plain_some : (ds : List ℕ) → is_plain_number ds ≡ true → 0 < length ds
plain_some [] h = absurd (cc)
plain_some (c ∷ ds) h = omega arith

plain_zero : (ds : List ℕ) → is_plain_number ds ≡ true → get_or ds 0 0 ≡ 48 → length ds ≡ 1
plain_zero [] h e = absurd (cc)
plain_zero (c ∷ []) h e = refl
plain_zero (c ∷ d ∷ ds) h e = let g : false ≡ true = subst (λ x. (if x == 48 then false else true) ≡ true) e h in absurd (cc)

-- a number that is read, of 64 bits, is written by its digits
pub number_takes : (bs : List ℕ) (v : ℕ) (rest : List ℕ) → number_at bs ≡ Some (v, rest) → v < 18446744073709551616 → bs ≡ decimal v ++ rest
number_takes bs v rest h low =
    let ds : List ℕ = take (digit_count bs) bs in
    let read : ℕ × List ℕ = (min (digits_value 10 ds) 18446744073709551616, drop (digit_count bs) bs) in
    let both : (is_plain_number ds ≡ true) × (read ≡ (v, rest)) = cond_some (is_plain_number ds) read (v, rest) h in
    let value : min (digits_value 10 ds) 18446744073709551616 ≡ v = ap (λ (x : ℕ × List ℕ). x.0) both.1 in
    let behind : drop (digit_count bs) bs ≡ rest = ap (λ (x : ℕ × List ℕ). x.1) both.1 in
    let small : digits_value 10 ds < 2 ^ 64 = omega arith in
    let same : digits_value 10 ds ≡ v = omega arith in
    let written : decimal (digits_value 10 ds) ≡ ds = decimal-digits_value (numerals_by_value (λ xs. all_ascii_digits xs ≡ true) tells_all_ascii_digits) ds (front_digits bs) (plain_some ds both.0) (plain_zero ds both.0) small in
    sym (take-append-drop (digit_count bs) bs) ∙ (ap (λ x. ds ++ x) behind ∙ ap (λ x. x ++ rest) (sym written ∙ ap decimal same))
