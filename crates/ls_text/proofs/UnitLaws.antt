-- Laws of the units and bytes of the characters at the front of a text.
use Rattle.std.proofs.Common.{zero, suc, min, ◌≡◌, ℕ, ◌+◌, ◌-◌, ◌<◌, ◌≤◌, cond, leb, List, [], ◌∷◌, ◌++◌, length, take, drop, get_or, refl, sym, ap, ◌∙◌, arith, length-append, take-append-drop}
use Rattle.std.specs.Prelude.{sum_by}
use Rattle.std.specs.Char.{len_utf8}
use Rattle.std.specs.Str.{chars, IsUtf8, encode_utf8_all as encodes}
use Rattle.std.proofs.lemmas.Str.{encodes-append, encodes-chars, length-encode, len_utf8_bounds, length-le-encodes}
use Rattle.std.proofs.lemmas.List.{append-nil, take_more, at_drop_more, at_drop_all}
use Rattle.std.proofs.lemmas.List.Sums.{sum_by-cons, sum_by-append}
use Rattle.std.proofs.lemmas.Bool.Decides.{nat_tests}
use Rattle.ls_text.specs.Lines.{fitting, units, units_of, utf16_len, width_in}
use Rattle.ls_text.specs.declared.position.Encoding.{Encoding}
use Rattle.ls_text.specs.declared.position.Units.{Units}
use Rattle.ls_text.specs.declared.position.Units.TheVariants.{Utf8, Utf16, Utf32}

-- ---- one character more
pub taken : (cs : List ℕ) (n c : ℕ) → (n < length cs) × (c ≡ get_or cs n c) → take (n + 1) cs ≡ take n cs ++ c ∷ []
taken cs n c here = take_more cs n c here.0 ∙ ap (λ x. take n cs ++ x ∷ []) (sym here.1)

pub bytes_more : (cs : List ℕ) (n c : ℕ) → (n < length cs) × (c ≡ get_or cs n c) → length (encodes (take (n + 1) cs)) ≡ length (encodes (take n cs)) + len_utf8 c
bytes_more cs n c here =
    omega (arith, ap (λ x. length (encodes x)) (taken cs n c here), ap length (encodes-append (take n cs) (c ∷ [])), length-append (encodes (take n cs)) (encodes (c ∷ [])), length-encode c, ap length (append-nil (encodes (c ∷ []))), one_char c)
  where
    one_char : (c : ℕ) → length (encodes (c ∷ [])) ≡ len_utf8 c
    one_char c = ap length (append-nil _) ∙ length-encode c

pub bytes_fit : (bs : List ℕ) → IsUtf8 bs → (n : ℕ) → length (encodes (take n (chars bs))) ≤ length bs
bytes_fit bs u n =
    omega (arith, ap length (encodes-chars bs u), ap (λ x. length (encodes x)) (take-append-drop n (chars bs)), ap length (encodes-append (take n (chars bs)) (drop n (chars bs))), length-append (encodes (take n (chars bs))) (encodes (drop n (chars bs))))

pub units_more : (w : ℕ → ℕ) (cs : List ℕ) (n c : ℕ) → (n < length cs) × (c ≡ get_or cs n c) → sum_by w (take (n + 1) cs) ≡ sum_by w (take n cs) + w c
units_more w cs n c here =
    let one : sum_by w (c ∷ []) ≡ w c + sum_by w [] = sum_by-cons w c [] in
    omega (arith, ap (sum_by w) (taken cs n c here), sum_by-append w (take n cs) (c ∷ []))

-- no width is more than that in bytes
pub utf16_le : (c : ℕ) → utf16_len c ≤ len_utf8 c
utf16_le c = grind (arith, nat_tests)

in_le : (u : Units) (c : ℕ) → width_in u c ≤ len_utf8 c
in_le Utf8 c = omega arith
in_le Utf16 c = utf16_le c
in_le Utf32 c = (len_utf8_bounds c).0

pub width_le : (u : Encoding) (c : ℕ) → units u c ≤ len_utf8 c
width_le u c = in_le (units_of u) c

pub units_le : (u : Encoding) (cs : List ℕ) → sum_by (units u) cs ≤ length (encodes cs)
units_le u [] = omega arith
units_le u (c ∷ cs) =
    omega (arith, sum_by-cons (units u) c cs, units_le u cs, width_le u c, ap length (encodes-append (c ∷ []) cs), length-append (encodes (c ∷ [])) (encodes cs), ap length (append-nil (encodes (c ∷ []))), one_char c)
  where
    one_char : (c : ℕ) → length (encodes (c ∷ [])) ≡ len_utf8 c
    one_char c = ap length (append-nil _) ∙ length-encode c

-- the units of UTF-8 are its bytes
pub units_utf8 : (cs : List ℕ) → sum_by len_utf8 cs ≡ length (encodes cs)
units_utf8 [] = refl
units_utf8 (c ∷ cs) =
    omega (arith, sum_by-cons len_utf8 c cs, units_utf8 cs, ap length (encodes-append (c ∷ []) cs), length-append (encodes (c ∷ [])) (encodes cs), ap length (append-nil (encodes (c ∷ []))), one_char c)
  where
    one_char : (c : ℕ) → length (encodes (c ∷ [])) ≡ len_utf8 c
    one_char c = ap length (append-nil _) ∙ length-encode c

-- ---- how many characters fit
pub fitting_drop : (w : ℕ → ℕ) (cs : List ℕ) (n c left : ℕ) → (n < length cs) × (c ≡ get_or cs n c) → fitting w (drop n cs) left ≡ cond (leb (w c) left) (suc (fitting w (drop (n + 1) cs) (left - w c))) 0
unfolding fitting
fitting_drop w cs n c left h = at_drop_more (λ xs. fitting w xs left) cs n c h.0 ∙ ap (λ x. cond (leb (w x) left) (suc (fitting w (drop (n + 1) cs) (left - w x))) 0) (sym h.1)

pub fitting_none : (w : ℕ → ℕ) (left : ℕ) (cs : List ℕ) (n : ℕ) → length cs ≤ n → fitting w (drop n cs) left ≡ 0
unfolding fitting
fitting_none w left cs n le = at_drop_all (λ xs. fitting w xs left) cs n le

stops : (w left f n m : ℕ) → left < w → n + cond (leb w left) f 0 ≡ m → n ≡ m
stops w left f n m lt e = grind (arith, nat_tests)

goes : (w left f n m : ℕ) → w ≤ left → n + cond (leb w left) (suc f) 0 ≡ m → (n + 1) + f ≡ m
goes w left f n m le e = grind (arith, nat_tests)

pub moved : (cs : List ℕ) (y n c : ℕ) → n ≡ y → (y < length cs) × (c ≡ get_or cs y c) → (n < length cs) × (c ≡ get_or cs n c)
moved cs y n c count_is turn = (omega (arith, turn.0), turn.1 ∙ ap (λ k. get_or cs k c) (sym count_is))

module _ (w : ℕ → ℕ) (cs : List ℕ) (n c left wide m : ℕ) (here : (n < length cs) × (c ≡ get_or cs n c)) (w_is : wide ≡ w c) (before : n + fitting w (drop n cs) left ≡ m) where
  at_c : n + cond (leb (w c) left) (suc (fitting w (drop (n + 1) cs) (left - w c))) 0 ≡ m
  at_c = ap (λ x. n + x) (sym (fitting_drop w cs n c left here)) ∙ before

  pub turn_stops : left < wide → n ≡ m
  turn_stops lt = stops (w c) left _ n m (omega (arith, lt, w_is)) at_c

  pub turn_goes : wide ≤ left → (n + 1) + fitting w (drop (n + 1) cs) (left - wide) ≡ m
  turn_goes le = ap (λ x. (n + 1) + fitting w (drop (n + 1) cs) (left - x)) w_is ∙ goes (w c) left _ n m (omega (arith, le, w_is)) at_c

-- ---- a text whose characters are a byte each
one_byte : (c : ℕ) (cs : List ℕ) → length (encodes (c ∷ cs)) ≡ length (c ∷ cs) → (len_utf8 c ≡ 1) × (length (encodes cs) ≡ length cs)
one_byte c cs e =
    let both = ap length (encodes-append (c ∷ []) cs) in
    let sum = length-append (encodes (c ∷ [])) (encodes cs) in
    let first : length (encodes (c ∷ [])) ≡ len_utf8 c = ap length (append-nil _) ∙ length-encode c in
    let some = len_utf8_bounds c in
    let rest = length-le-encodes cs in
    (omega arith, omega arith)

one_in : (u : Units) (c : ℕ) → len_utf8 c ≡ 1 → width_in u c ≡ 1
one_in Utf8 c e = e
one_in Utf16 c e =
    let le = utf16_le c in
    let some : 0 < utf16_len c = grind (arith, nat_tests) in
    omega arith
one_in Utf32 c e = refl

one_unit : (u : Encoding) (c : ℕ) → len_utf8 c ≡ 1 → units u c ≡ 1
one_unit u c e = one_in (units_of u) c e

fit_more : (x k f n : ℕ) → x ≡ 1 → f ≡ min (k - x) n → cond (leb x k) (suc f) 0 ≡ min k (suc n)
fit_more x k f n e h = grind (arith, nat_tests)

pub fitting_ascii : (u : Encoding) (cs : List ℕ) (k : ℕ) → length (encodes cs) ≡ length cs → fitting (units u) cs k ≡ min k (length cs)
unfolding fitting
fitting_ascii u [] k e = omega arith
fitting_ascii u (c ∷ cs) k e =
    let parts = one_byte c cs e in
    fit_more (units u c) k (fitting (units u) cs (k - units u c)) (length cs) (one_unit u c parts.0) (fitting_ascii u cs (k - units u c) parts.1)

pub units_ascii : (u : Encoding) (cs : List ℕ) (k : ℕ) → length (encodes cs) ≡ length cs → sum_by (units u) (take k cs) ≡ min k (length cs)
units_ascii u [] zero e = omega arith
units_ascii u [] (suc k) e = omega arith
units_ascii u (c ∷ cs) zero e = omega arith
units_ascii u (c ∷ cs) (suc k) e =
    let parts = one_byte c cs e in
    omega (arith, sum_by-cons (units u) c (take k cs), one_unit u c parts.0, units_ascii u cs k parts.1)

pub bytes_ascii : (cs : List ℕ) (k : ℕ) → length (encodes cs) ≡ length cs → length (encodes (take k cs)) ≡ min k (length cs)
bytes_ascii [] zero e = omega arith
bytes_ascii [] (suc k) e = omega arith
bytes_ascii (c ∷ cs) zero e = omega arith
bytes_ascii (c ∷ cs) (suc k) e =
    let parts = one_byte c cs e in
    let first : length (encodes (c ∷ [])) ≡ len_utf8 c = ap length (append-nil _) ∙ length-encode c in
    omega (arith, parts.0, first, ap length (encodes-append (c ∷ []) (take k cs)), length-append (encodes (c ∷ [])) (encodes (take k cs)), bytes_ascii cs k parts.1)

pub text_ascii : (bytes : List ℕ) (count : ℕ) → IsUtf8 bytes → count ≡ length (chars bytes) → length bytes ≡ count → length (encodes (chars bytes)) ≡ length (chars bytes)
text_ascii bytes count u count_is same = ap length (encodes-chars bytes u) ∙ same ∙ count_is
