-- What is left of a text behind so many characters.
use Rattle.std.proofs.Common.{◌≡◌, ◌∙◌, ℕ, zero, suc, ◌+◌, ◌<◌, ◌≤◌, List, [], ◌∷◌, Some, None, ap, arith, drop, drop-cons, length, refl, sym}
use Rattle.std.specs.Prelude.{slice_get}
use Rattle.std.specs.Str.{chars, IsUtf8}
use Rattle.std.proofs.lemmas.List.{length-drop}
use Rattle.std.proofs.lemmas.Option.{slice_get_past, slice_get_read}
use Rattle.std.proofs.lemmas.Str.{chars-nil, encodes-chars, length-le-encodes}

pub chars_none : (bs : List ℕ) → length bs ≡ 0 → chars bs ≡ []
chars_none [] e = chars-nil
chars_none (b ∷ bs) e = absurd (omega (arith, e))

-- there are no more characters than bytes
pub chars_le : (bs : List ℕ) → IsUtf8 bs → length (chars bs) ≤ length bs
chars_le bs u = omega (arith, ap length (encodes-chars bs u), length-le-encodes (chars bs))

-- nothing is left of nothing
pub none_left : {A : Type 0} (n : ℕ) → drop {A = A} n [] ≡ []
none_left zero = refl
none_left (suc n) = refl

-- what is left behind one more, of what has one at least
pub one_less : (n : ℕ) (c : ℕ) (cs : List ℕ) → 0 < n → (m : ℕ) → n ≡ m + 1 → drop n (c ∷ cs) ≡ drop m cs
one_less n c cs less m e =
    let same : n ≡ suc m = omega (arith, e) in
    ap (λ k. drop k (c ∷ cs)) same

-- what is left behind one more
pub drop_next : {A : Type 0} (n : ℕ) (xs : List A) (y : A) (ys : List A) → drop n xs ≡ y ∷ ys → (drop (n + 1) xs ≡ ys) × (n < length xs)
drop_next zero [] y ys e = absurd (omega (arith, ap length e))
drop_next zero (x ∷ xs) y ys e = (ap (drop 1) e, omega arith)
drop_next (suc n) [] y ys e = absurd (omega (arith, ap length e))
drop_next (suc n) (x ∷ xs) y ys e =
    let more = drop_next n xs y ys e in
    (ap (λ m. drop m (x ∷ xs)) (let same : suc n + 1 ≡ suc (n + 1) = omega arith in same) ∙ more.0, omega (arith, more.1))

-- the element at a place stands at the front of what is left there
pub get_front : {A : Type 0} (n : ℕ) (xs : List A) (y : A) (ys : List A) → drop n xs ≡ y ∷ ys → slice_get xs n ≡ Some y
get_front n xs y ys e =
    let less = (drop_next n xs y ys e).1 in
    slice_get_read xs (length xs) n y refl less (heads (sym e ∙ drop-cons xs n y less))
  where
    heads : {B : Type 0} {a b : B} {us vs : List B} → a ∷ us ≡ b ∷ vs → a ≡ b
    heads e = cc

-- where nothing is left there is none
pub get_none : {A : Type 0} (n : ℕ) (xs : List A) → drop n xs ≡ [] → slice_get xs n ≡ None
get_none n xs e = slice_get_past xs n (omega (arith, ap length e, length-drop n xs))

-- the first element of what is left
pub front_left : {A : Type 0} (n : ℕ) (xs : List A) → slice_get (drop n xs) 0 ≡ slice_get xs n
front_left {A} n xs = of (drop n xs) refl
  where
    of : (ys : List A) → drop n xs ≡ ys → slice_get ys 0 ≡ slice_get xs n
    of [] e = slice_get_past {X = A} [] 0 (omega arith) ∙ sym (get_none n xs e)
    of (y ∷ ys) e = get_front 0 (y ∷ ys) y ys refl ∙ sym (get_front n xs y ys e)
