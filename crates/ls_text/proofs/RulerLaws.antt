-- Laws of counting on in a line.
use Rattle.std.proofs.Common.{◌≡◌, ℕ, zero, suc, ◌+◌, ◌-◌, ◌≤◌, true, cond, leb, List, [], ◌∷◌, ◌++◌, length, length-append, take, drop, take-append-drop, refl, sym, ap, ◌∙◌, arith}
use Rattle.std.specs.Prelude.{◌&&◌, sum_by}
use Rattle.std.specs.Char.{len_utf8}
use Rattle.std.specs.Str.{chars, IsUtf8, IsCharBoundary, encode_utf8_all as encodes, all_scalars as scalars}
use Rattle.std.proofs.Math.Seq.{take-append_seam, drop-append_seam}
use Rattle.std.proofs.lemmas.List.{append-nil, append_assoc, length-take-le}
use Rattle.std.proofs.lemmas.List.Sums.{sum_by-append}
use Rattle.std.proofs.lemmas.Bool.Decides.{nat_tests}
use Rattle.std.proofs.lemmas.Str.{IsCharBoundary-at_seam, chars-encodes, encodes-append, encodes-chars, length-encode, scalars-chars}
use Rattle.std.proofs.lemmas.Bool.{and_parts}
use Rattle.ls_text.specs.Lines.{fitting}
use Rattle.ls_text.specs.own.Counts.{IsCountedIn}
use Rattle.ls_text.specs.declared.ruler.Counted.{Counted}
use Rattle.ls_text.proofs.OffsetLaws.{fitting_le}

-- ---- the front of a text by so many characters
scalars_parts : (cs : List ℕ) (n : ℕ) → scalars cs ≡ true → (scalars (take n cs) ≡ true) × (scalars (drop n cs) ≡ true)
scalars_parts [] zero s = (refl, refl)
scalars_parts [] (suc n) s = (refl, refl)
scalars_parts (c ∷ cs) zero s = (refl, s)
scalars_parts (c ∷ cs) (suc n) s =
    let parts = and_parts _ _ s in
    let rest = scalars_parts cs n parts.1 in
    (ap (λ b. b && scalars (take n cs)) parts.0 ∙ rest.0, rest.1)

module _ (bs : List ℕ) (u : IsUtf8 bs) (n : ℕ) where
  seam : bs ≡ encodes (take n (chars bs)) ++ encodes (drop n (chars bs))
  seam = sym (encodes-chars bs u) ∙ ap encodes (sym (take-append-drop n (chars bs))) ∙ encodes-append (take n (chars bs)) (drop n (chars bs))

  parts_are : (scalars (take n (chars bs)) ≡ true) × (scalars (drop n (chars bs)) ≡ true)
  parts_are = scalars_parts (chars bs) n (scalars-chars bs u)

  pub front_boundary : IsCharBoundary bs (length (encodes (take n (chars bs))))
  front_boundary = IsCharBoundary-at_seam bs _ _ seam (drop n (chars bs), (parts_are.1, refl))

  pub front_chars : chars (take (length (encodes (take n (chars bs)))) bs) ≡ take n (chars bs)
  front_chars =
      ap (λ t. chars (take (length (encodes (take n (chars bs)))) t)) seam
      ∙ ap chars (take-append_seam (encodes (take n (chars bs))) (encodes (drop n (chars bs))))
      ∙ chars-encodes (take n (chars bs)) parts_are.0

  pub back_chars : chars (drop (length (encodes (take n (chars bs)))) bs) ≡ drop n (chars bs)
  back_chars =
      ap (λ t. chars (drop (length (encodes (take n (chars bs)))) t)) seam
      ∙ ap chars (drop-append_seam (encodes (take n (chars bs))) (encodes (drop n (chars bs))))
      ∙ chars-encodes (drop n (chars bs)) parts_are.1

-- ---- what fits behind a front
le_test : (x y f : ℕ) → x ≤ y → cond (leb x y) (suc f) 0 ≡ suc f
le_test x y f le = grind (arith, nat_tests)

pub fitting_behind : (xs ys : List ℕ) (b : ℕ) → length (encodes xs) ≤ b → fitting len_utf8 (xs ++ ys) b ≡ length xs + fitting len_utf8 ys (b - length (encodes xs))
unfolding fitting
fitting_behind [] ys b le = nothing (omega arith)
  where
    nothing : b ≡ b - length (encodes []) → fitting len_utf8 ([] ++ ys) b ≡ 0 + fitting len_utf8 ys (b - length (encodes []))
    nothing e = omega (arith, ap (fitting len_utf8 ys) e)
fitting_behind (x ∷ xs) ys b le =
    let first : length (encodes (x ∷ [])) ≡ len_utf8 x = ap length (append-nil _) ∙ length-encode x in
    let all : length (encodes (x ∷ xs)) ≡ len_utf8 x + length (encodes xs) = omega (arith, first, ap length (encodes-append (x ∷ []) xs), length-append (encodes (x ∷ [])) (encodes xs)) in
    let left : (b - len_utf8 x) - length (encodes xs) ≡ b - length (encodes (x ∷ xs)) = omega (arith, all) in
    let rest = fitting_behind xs ys (b - len_utf8 x) (omega (arith, all, le)) ∙ ap (λ k. length xs + fitting len_utf8 ys k) left in
    le_test (len_utf8 x) b (fitting len_utf8 (xs ++ ys) (b - len_utf8 x)) (omega (arith, all, le)) ∙ one_more (fitting len_utf8 (xs ++ ys) (b - len_utf8 x)) (length xs) (fitting len_utf8 ys (b - length (encodes (x ∷ xs)))) rest
  where
    one_more : (a l f : ℕ) → a ≡ l + f → suc a ≡ suc l + f
    one_more a l f e = omega (arith, e)

-- ---- counting on: what stood behind the front has a front of its own
module _ (width : ℕ → ℕ) (line : List ℕ) (c : Counted) (is : IsCountedIn width line c) (b : ℕ) (le : c.bytes ≤ b) (n : ℕ) (n_is : n ≡ fitting len_utf8 (chars c.rest.now) (b - c.bytes)) where
  abbrev pub more : List ℕ
  more = take n (chars c.rest.now)

  abbrev pub rest : List ℕ
  rest = drop n (chars c.rest.now)

  pub count_le : n ≤ length (chars c.rest.now)
  count_le = omega (arith, n_is, fitting_le len_utf8 (chars c.rest.now) (b - c.bytes))

  pub line_is : line ≡ (is.front ++ more) ++ rest
  line_is = is.parts ∙ ap (λ t. is.front ++ t) (sym (take-append-drop n (chars c.rest.now))) ∙ sym (append_assoc is.front more rest)

  bytes_sum : length (encodes (is.front ++ more)) ≡ length (encodes is.front) + length (encodes more)
  bytes_sum = ap length (encodes-append is.front more) ∙ length-append (encodes is.front) (encodes more)

  pub small_sum : (length (encodes is.front) + length (encodes more)) + length (encodes rest) ≤ 4_194_304
  small_sum = omega (arith, is.small, ap (λ t. length (encodes t)) line_is, ap length (encodes-append (is.front ++ more) rest), length-append (encodes (is.front ++ more)) (encodes rest), bytes_sum)

  units_sum : sum_by width (is.front ++ more) ≡ sum_by width is.front + sum_by width more
  units_sum = sum_by-append width is.front more

  front_length : length (is.front ++ more) ≡ fitting len_utf8 line b
  front_length =
      let le_front : length (encodes is.front) ≤ b = omega (arith, is.bytes, le) in
      let fit = ap (λ t. fitting len_utf8 t b) is.parts ∙ fitting_behind is.front (chars c.rest.now) b le_front in
      omega (arith, length-append is.front more, length-take-le n (chars c.rest.now) count_le, fit, n_is, ap (λ k. fitting len_utf8 (chars c.rest.now) (b - k)) is.bytes)

  pub taken_is : take (fitting len_utf8 line b) line ≡ is.front ++ more
  taken_is = (λ i. take (sym front_length i) (line_is i)) ∙ take-append_seam (is.front ++ more) rest

  -- so far it has been counted then
  module _ (d : Counted) (rest_is : chars d.rest.now ≡ rest) (bytes_is : d.bytes ≡ c.bytes + length (encodes more)) (units_is : d.units ≡ c.units + sum_by width more) (utf8 : IsUtf8 d.rest.now) where
    pub counted_on : IsCountedIn width line d
    counted_on = record {
      front = is.front ++ more;
      parts = line_is ∙ ap (λ t. (is.front ++ more) ++ t) (sym rest_is);
      bytes = omega (arith, bytes_is, is.bytes, bytes_sum);
      units = omega (arith, units_is, is.units, units_sum);
      utf8 = utf8;
      small = is.small;
    }

    pub units_on : d.units ≡ sum_by width (take (fitting len_utf8 line b) line)
    units_on = omega (arith, units_is, is.units, units_sum, ap (sum_by width) taken_is)
