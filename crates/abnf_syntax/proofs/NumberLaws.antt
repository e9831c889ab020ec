-- Numbers read byte by byte are those between signs.
use Rattle.std.proofs.Common.{◌≡◌, ℕ, ◌+◌, ◌*◌, ◌-◌, ◌≤◌, Bool, true, false, not, ◌&&◌, ◌||◌, List, [], ◌∷◌, ◌++◌, length, Some, None, sym, refl, ap, subst, ◌∙◌, arith, if◌then◌else◌}
use Rattle.std.specs.Prelude.{◌^◌, nat_lt, nat_eq, is_some, take, drop, slice_index}
use Rattle.std.proofs.lemmas.List.{take_all, length-drop}
use Rattle.abnf_token.specs.declared.token.Kind.{Kind}
use Rattle.abnf_token.specs.declared.token.Kind.TheVariants.{Repeat, Number}
use Rattle.std.specs.List.{list_all}
use Rattle.std.specs.Char.{digit_value, to_ascii_lowercase}
use Rattle.std.proofs.lemmas.Bool.{ltb-false, le-ltb, and_left, and_right}
use Rattle.abnf_token.proofs.Language.{and_false, and_true}
use Rattle.std.proofs.Math.Dec.{eqb-suc-zero}
use Rattle.std.proofs.Math.Bool.{or-true}
use Rattle.abnf_token.specs.Classes.{Text, base_of}
use Rattle.abnf_token.specs.Numbers.{value_in, is_base, are_digits}
use Rattle.abnf_syntax.specs.Numbers.{is_sign, parts_from, is_small, are_small, numbers_fit}
use Rattle.abnf_syntax.specs.Fitting.{fit}
use Rattle.abnf_syntax.proofs.Rows.{never_too}

value_snoc : (base v : ℕ) (xs : Text) (b : ℕ) → value_in base v (xs ++ b ∷ []) ≡ value_in base v xs * base + digit_value b
value_snoc base v [] b = refl
value_snoc base v (x ∷ xs) b = value_snoc base (v * base + digit_value x) xs b

and_first : (a b : Bool) → a && b ≡ true → a ≡ true
and_first true b h = refl
and_first false b h = h

and_assoc : (a b c : Bool) → (a && b) && c ≡ a && (b && c)
and_assoc true b c = refl
and_assoc false b c = refl

digits_snoc : (base : ℕ) (xs : Text) (b : ℕ) → are_digits base (xs ++ b ∷ []) ≡ are_digits base xs && nat_lt (digit_value b) base
digits_snoc base [] b = and_true _
digits_snoc base (x ∷ xs) b = ap (λ t. nat_lt (digit_value x) base && t) (digits_snoc base xs b) ∙ sym (and_assoc (nat_lt (digit_value x) base) (are_digits base xs) (nat_lt (digit_value b) base))

-- the digits give a number that is small
abbrev gives : ℕ → Text → Bool
gives base digits = are_digits base digits && nat_lt (value_in base 0 digits) (2 ^ 32)

small_by : (z whole ok : Bool) (n : ℕ) → z || is_some (if whole && not z then (if ok then Some n else None) else None) ≡ z || (whole && ok)
small_by true whole ok n = refl
small_by false true true n = refl
small_by false true false n = refl
small_by false false ok n = refl

small_is : (base : ℕ) (digits : Text) → is_small base digits ≡ nat_eq (length digits) 0 || (is_base base && gives base digits)
small_is base digits = small_by (nat_eq (length digits) 0) (is_base base) (gives base digits) (value_in base 0 digits)

small_good : (base : ℕ) (digits : Text) → is_base base ≡ true → gives base digits ≡ true → is_small base digits ≡ true
small_good base digits whole h = small_is base digits ∙ rw (whole, h) (or-true (nat_eq (length digits) 0))

no_length : (xs : Text) (b : ℕ) → nat_eq (length (xs ++ b ∷ [])) 0 ≡ false
no_length [] b = eqb-suc-zero 0
no_length (x ∷ xs) b = eqb-suc-zero (length (xs ++ b ∷ []))

small_bad : (base : ℕ) (digits : Text) → nat_eq (length digits) 0 ≡ false → gives base digits ≡ false → is_small base digits ≡ false
small_bad base digits some h = small_is base digits ∙ rw (some, h) (and_false (is_base base))

-- what holds of a text after one more byte
gives_snoc : (base : ℕ) (xs : Text) (b : ℕ) → gives base (xs ++ b ∷ []) ≡ (are_digits base xs && nat_lt (digit_value b) base) && nat_lt (value_in base 0 xs * base + digit_value b) (2 ^ 32)
gives_snoc base xs b = λ i. digits_snoc base xs b i && nat_lt (value_snoc base 0 xs b i) (2 ^ 32)

two_false : (a b c : Bool) → a ≡ false → (a && b) && c ≡ false
two_false true b c h = never_too h
two_false false b c h = refl

by_value : (base : ℕ) (xs : Text) (b : ℕ) → ((v : ℕ) → v ≤ v * base) → (digits : Bool) → are_digits base xs ≡ digits → digits && nat_lt (value_in base 0 xs) (2 ^ 32) ≡ false → gives base (xs ++ b ∷ []) ≡ false
by_value base xs b grows false e h = gives_snoc base xs b ∙ two_false _ _ _ e
by_value base xs b grows true e h =
    let large : 2 ^ 32 ≤ value_in base 0 xs = ltb-false (value_in base 0 xs) (2 ^ 32) h in
    let larger : 2 ^ 32 ≤ value_in base 0 xs * base + digit_value b = omega (arith, large, grows (value_in base 0 xs)) in
    gives_snoc base xs b ∙ and_right _ _ (le-ltb (value_in base 0 xs * base + digit_value b) (2 ^ 32) larger)

-- Digits that give no small number give none with more behind them.
stays_bad : (base : ℕ) (xs : Text) (b : ℕ) → ((v : ℕ) → v ≤ v * base) → gives base xs ≡ false → gives base (xs ++ b ∷ []) ≡ false
stays_bad base xs b grows h = by_value base xs b grows (are_digits base xs) refl h

-- what holds of both holds of what a test chooses
if_both : {A : Type 0} (P : A → Type 0) (test : Bool) (x y : A) → P x → P y → P (if test then x else y)
if_both P true x y p q = p
if_both P false x y p q = q

parts_bad : (base : ℕ) (since bs : Text) → ((v : ℕ) → v ≤ v * base) → nat_eq (length since) 0 ≡ false → gives base since ≡ false → list_all (is_small base) (parts_from since bs) ≡ false
parts_bad base since [] grows some h = rw (small_bad base since some h) refl
parts_bad base since (b ∷ bs) grows some h =
    if_both (λ texts. list_all (is_small base) texts ≡ false) (is_sign b) _ _ (rw (small_bad base since some h) refl)
    (parts_bad base (since ++ b ∷ []) bs grows (no_length since b) (stays_bad base since b grows h))

-- a test that chooses on both sides
same_if : (base : ℕ) (test : Bool) (x y : Bool) (xs ys : List Text) → x ≡ list_all (is_small base) xs → y ≡ list_all (is_small base) ys → (if test then x else y) ≡ list_all (is_small base) (if test then xs else ys)
same_if base true x y xs ys p q = p
same_if base false x y xs ys p q = q

-- a digit more
grow_by : (base : ℕ) (since : Text) (b : ℕ) (bs : Text) → ((v : ℕ) → v ≤ v * base) → gives base since ≡ true →
    (gives base (since ++ b ∷ []) ≡ true → fit base (value_in base 0 since * base + digit_value b) bs ≡ list_all (is_small base) (parts_from (since ++ b ∷ []) bs)) →
    (digit low : Bool) → nat_lt (digit_value b) base ≡ digit → nat_lt (value_in base 0 since * base + digit_value b) (2 ^ 32) ≡ low →
    digit && (low && fit base (value_in base 0 since * base + digit_value b) bs) ≡ list_all (is_small base) (parts_from (since ++ b ∷ []) bs)
grow_by base since b bs grows h more true true d l = more (gives_snoc base since b ∙ rw (and_first (are_digits base since) (nat_lt (value_in base 0 since) (2 ^ 32)) h, d, l) refl)
grow_by base since b bs grows h more true false d l = sym (parts_bad base (since ++ b ∷ []) bs grows (no_length since b) (gives_snoc base since b ∙ and_right _ _ l))
grow_by base since b bs grows h more false low d l = sym (parts_bad base (since ++ b ∷ []) bs grows (no_length since b) (gives_snoc base since b ∙ and_left _ _ (and_right (are_digits base since) _ d)))

fit_from : (base : ℕ) (since bs : Text) → is_base base ≡ true → ((v : ℕ) → v ≤ v * base) → gives base since ≡ true → fit base (value_in base 0 since) bs ≡ list_all (is_small base) (parts_from since bs)
fit_from base since [] whole grows h = rw (small_good base since whole h) refl
fit_from base since (b ∷ bs) whole grows h =
    same_if base (is_sign b) _ _ _ _ (rw (small_good base since whole h) (fit_from base [] bs whole grows refl))
    (grow_by base since b bs grows h
    (λ more. subst (λ v. fit base v bs ≡ list_all (is_small base) (parts_from (since ++ b ∷ []) bs)) (value_snoc base 0 since b) (fit_from base (since ++ b ∷ []) bs whole grows more))
    (nat_lt (digit_value b) base) (nat_lt (value_in base 0 since * base + digit_value b) (2 ^ 32)) refl refl)

pub fit_is : (base : ℕ) (bs : Text) → is_base base ≡ true → ((v : ℕ) → v ≤ v * base) → fit base 0 bs ≡ are_small base bs
fit_is base bs whole grows = fit_from base [] bs whole grows refl

-- without a base there are no digits
none_bad : (since bs : Text) → nat_eq (length since) 0 ≡ false → list_all (is_small 0) (parts_from since bs) ≡ false
none_bad since [] some = rw (small_is 0 since, some) refl
none_bad since (b ∷ bs) some =
    if_both (λ texts. list_all (is_small 0) texts ≡ false) (is_sign b) _ _ (rw (small_is 0 since, some) refl) (none_bad (since ++ b ∷ []) bs (no_length since b))

fit_none : (bs : Text) → fit 0 0 bs ≡ are_small 0 bs
fit_none [] = refl
fit_none (b ∷ bs) = same_if 0 (is_sign b) _ _ _ _ (fit_none bs) (rw (le-ltb (digit_value b) 0 (omega arith)) (sym (none_bad (b ∷ []) bs (eqb-suc-zero 0))))

based_by : (bs : Text) (two ten sixteen : Bool) → let base : ℕ = if two then 2 else (if ten then 10 else (if sixteen then 16 else 0)) in fit base 0 bs ≡ are_small base bs
based_by bs true ten sixteen = fit_is 2 bs refl (λ v. omega arith)
based_by bs false true sixteen = fit_is 10 bs refl (λ v. omega arith)
based_by bs false false true = fit_is 16 bs refl (λ v. omega arith)
based_by bs false false false = fit_none bs

pub fit_based : (letter : ℕ) (bs : Text) → fit (base_of letter) 0 bs ≡ are_small (base_of letter) bs
fit_based letter bs = based_by bs (nat_eq (to_ascii_lowercase letter) 0x62) (nat_eq (to_ascii_lowercase letter) 0x64) (nat_eq (to_ascii_lowercase letter) 0x78)

pub fit_repeat : (bs : Text) → fit 10 0 bs ≡ are_small 10 bs
fit_repeat bs = fit_is 10 bs refl (λ v. omega arith)

pub repeat_fits : (kind : Kind) (text bytes : Text) (small : Bool) → kind ≡ Repeat → bytes ≡ text → small ≡ fit 10 0 bytes → small ≡ numbers_fit kind text
repeat_fits kind text bytes small k same h = h ∙ ap (fit 10 0) same ∙ fit_repeat text ∙ sym (ap (λ x. numbers_fit x text) k)

pub number_fits : (kind : Kind) (text bytes : Text) (base : ℕ) (small : Bool) → kind ≡ Number → bytes ≡ text → base ≡ base_of (slice_index bytes 1) → small ≡ fit base 0 (take (length bytes - 2) (drop 2 bytes)) → small ≡ numbers_fit kind text
number_fits kind text bytes base small k same b h =
    h ∙ ap (fit base 0) (take_all (length bytes - 2) (drop 2 bytes) (omega (arith, length-drop 2 bytes))) ∙ ap (λ x. fit x 0 (drop 2 bytes)) b ∙ fit_based (slice_index bytes 1) (drop 2 bytes) ∙ ap (λ x. are_small (base_of (slice_index x 1)) (drop 2 x)) same ∙ sym (ap (λ x. numbers_fit x text) k)
