-- The ends of a range are the first two of its numbers.
use Rattle.std.proofs.Common.{◌≡◌, ◌∙◌, ℕ, true, false, List, [], ◌∷◌, Some, None, refl, sym, ap}
use Rattle.std.specs.Prelude.{fold, if◌then◌else◌}
use Rattle.std.proofs.lemmas.Option.{same_Some}
use Rattle.abnf_parts.specs.Part.{opaque, series, span}
use Rattle.abnf_parts.specs.Leaf.{both_ends, ends_of, has, number_tree, numbers_from, span_of, with_end}

both_stay : (low high : ℕ) (ns : List ℕ) → fold with_end (Some low, Some high) ns ≡ (Some low, Some high)
both_stay low high [] = refl
both_stay low high (n ∷ ns) = both_stay low high ns

first_two : (ns : List ℕ) → both_ends (fold with_end (None, None) ns) ≡ ends_of (span_of ns)
first_two [] = refl
first_two (low ∷ []) = refl
first_two (low ∷ high ∷ rest) = ap both_ends (both_stay low high rest)

-- of digits with `-` among them
pub ends_in : (base : ℕ) (digits : List ℕ) → has 0x2D digits ≡ true → both_ends (fold with_end (None, None) (numbers_from base 0 digits)) ≡ ends_of (number_tree base digits)
ends_in base digits h =
    first_two (numbers_from base 0 digits)
    ∙ sym (ap (λ b. ends_of (if b then span_of (numbers_from base 0 digits) else series (numbers_from base 0 digits))) h)

-- digits without it are no range
pub no_ends : (base : ℕ) (digits : List ℕ) → has 0x2D digits ≡ false → None ≡ ends_of (number_tree base digits)
no_ends base digits h = sym (ap (λ b. ends_of (if b then span_of (numbers_from base 0 digits) else series (numbers_from base 0 digits))) h)

-- numbers are a range where both ends are read, and opaque else
span_of_ends : (ns : List ℕ) (low high : ℕ) → ends_of (span_of ns) ≡ Some (low, high) → span_of ns ≡ span low high
span_of_ends [] low high h = absurd (cc)
span_of_ends (x ∷ []) low high h = absurd (cc)
span_of_ends (x ∷ y ∷ rest) low high h =
    let both : ◌≡◌ {A = ℕ × ℕ} (x, y) (low, high) = same_Some (x, y) (low, high) h in
    (λ i. span (both i).0 (both i).1)

opaque_of_none : (ns : List ℕ) → ends_of (span_of ns) ≡ None → span_of ns ≡ opaque
opaque_of_none [] h = refl
opaque_of_none (x ∷ []) h = refl
opaque_of_none (x ∷ y ∷ rest) h = absurd (cc)

pub span_in : (ns : List ℕ) (low high : ℕ) → both_ends (fold with_end (None, None) ns) ≡ Some (low, high) → span_of ns ≡ span low high
span_in ns low high e = span_of_ends ns low high (sym (first_two ns) ∙ e)

pub opaque_in : (ns : List ℕ) → both_ends (fold with_end (None, None) ns) ≡ None → span_of ns ≡ opaque
opaque_in ns e = opaque_of_none ns (sym (first_two ns) ∙ e)
