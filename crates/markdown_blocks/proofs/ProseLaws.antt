-- Laws of lines that are passed over many at once.
use Rattle.std.proofs.Common.{◌≡◌, ℕ, zero, suc, ◌+◌, ◌<◌, ◌≤◌, Bool, true, false, cond, List, [], ◌∷◌, ◌++◌, length, take, drop, get_or, refl, sym, ap, subst, ◌∙◌, ⊎_elim, length-append, length-drop, length-take, take-append-drop, arith}
use Rattle.std.specs.Prelude.{Some}
use Rattle.std.specs.List.{list_any}
use Rattle.std.specs.Str.{chars, IsCharBoundary, IsUtf8, encode_utf8_all}
use Rattle.std.specs.Char.{encode_utf8}
use Rattle.std.proofs.lemmas.Bool.{cases_lt, or_from, or_parts}
use Rattle.std.proofs.lemmas.Bool.Decides.{nat_tests}
use Rattle.std.proofs.lemmas.List.Folds.{list_any-append}
use Rattle.std.proofs.lemmas.Str.{IsCharBoundary-after_ascii, IsCharBoundary-before_ascii, IsCharBoundary-start, IsUtf8-drop, IsUtf8-take, chars-append, chars-nil, encode_ascii, encodes-chars}
use Rattle.std.proofs.lemmas.List.{take-append-le, drop-append-le}
use Rattle.ls_text.specs.Lines.{ends_line}
use Rattle.origins.specs.Origins.{Sourced}
use Rattle.markdown_blocks.specs.declared.reading.Reading.{Reading}
use Rattle.markdown_blocks.specs.declared.reading.Reading.TheVariants.{Text, BehindBlock, BehindAttributes, Comment, Extension, Block}
use Rattle.markdown_blocks.specs.Fences.{is_margin, placed_lines_from}
use Rattle.markdown_blocks.specs.declared.beside.Beside.{Beside}
use Rattle.markdown_blocks.specs.Unread.{all_blocks, no_list}
use Rattle.markdown_blocks.specs.own.Fronts.{are_whole, first_behind, goes_on, may_begin, may_begin_with, may_matter, passes}
use Rattle.markdown_blocks.specs.own.Reading.{line_len}
use Rattle.markdown_blocks.proofs.CutLaws.{chars_le, some_chars}
use Rattle.markdown_blocks.proofs.FenceLaws.{IsOutside, line_len_some, lines_first, text_line}
use Rattle.markdown_blocks.proofs.FrontLaws.{prose_behind, prose_beside}

-- a text without such a character has no line that may matter
plain_front : (line : List ℕ) → list_any may_begin_with line ≡ false → may_matter line ≡ false
plain_front [] e = refl
plain_front (c ∷ t) e =
    let parts = or_parts (may_begin_with c) (list_any may_begin_with t) e in
    by_margin (is_margin true c) parts.0 (plain_front t parts.1)
  where
    by_margin : (b : Bool) → may_begin_with c ≡ false → may_matter t ≡ false → may_begin (cond b (first_behind true t) (Some c)) ≡ false
    by_margin true here more = more
    by_margin false here more = here

-- nor has a front of it
plain_take : (n : ℕ) (t : List ℕ) → list_any may_begin_with t ≡ false → list_any may_begin_with (take n t) ≡ false
plain_take zero t e = refl
plain_take (suc n) [] e = refl
plain_take (suc n) (c ∷ t) e =
    let parts = or_parts (may_begin_with c) (list_any may_begin_with t) e in
    or_from (may_begin_with c) (list_any may_begin_with (take n t)) parts.0 (plain_take n t parts.1)

-- nor what is behind that
plain_drop : (n : ℕ) (t : List ℕ) → list_any may_begin_with t ≡ false → list_any may_begin_with (drop n t) ≡ false
plain_drop zero t e = e
plain_drop (suc n) [] e = e
plain_drop (suc n) (c ∷ t) e = plain_drop n t (or_parts (may_begin_with c) (list_any may_begin_with t) e).1

-- what is behind a part of whole lines is whole lines
whole_drop : (n : ℕ) (t : List ℕ) → are_whole t ≡ true → are_whole (drop n t) ≡ true
whole_drop zero t e = e
whole_drop (suc n) [] e = e
whole_drop (suc zero) (c ∷ []) e = refl
whole_drop (suc (suc n)) (c ∷ []) e = refl
whole_drop (suc n) (c ∷ d ∷ t) e = whole_drop n (d ∷ t) e

-- the first line of whole lines ends in them
first_in : (a b : List ℕ) → are_whole a ≡ true → 0 < length a → line_len (a ++ b) ≤ length a
unfolding line_len
first_in [] b whole some = absurd (omega (arith, some))
first_in (c ∷ []) b whole some = rw whole (omega arith)
first_in (c ∷ d ∷ a) b whole some = by_end (ends_line c (d ∷ a ++ b)) (first_in (d ∷ a) b whole (omega arith))
  where
    by_end : (e : Bool) → line_len (d ∷ a ++ b) ≤ suc (length a) → cond e 1 (suc (line_len (d ∷ a ++ b))) ≤ suc (suc (length a))
    by_end true le = omega arith
    by_end false le = omega (arith, le)

-- one line of these
module _ (end : ℕ) (b : List ℕ) where
  one_line : (at : ℕ) (a : List ℕ) (content : List Sourced) (reading : Reading) (beside : Beside) → IsOutside reading → goes_on reading ≡ false → are_whole a ≡ true → 0 < length a → list_any may_begin_with a ≡ false
      → all_blocks end reading beside content (placed_lines_from at (a ++ b)) ≡ all_blocks end Text no_list [] (placed_lines_from (at + line_len (a ++ b)) (drop (line_len (a ++ b)) a ++ b))
  one_line at a content reading beside outside goes whole some plain =
      let n = line_len (a ++ b) in
      let le = first_in a b whole some in
      let line = take n (a ++ b) in
      let here : may_matter line ≡ false = ap may_matter (take-append-le n a b le) ∙ plain_front (take n a) (plain_take n a plain) in
      ap (all_blocks end reading beside content) (lines_first at (a ++ b) (omega (arith, some, length-append a b)))
      ∙ sym (text_line end beside content (at, line) (placed_lines_from (at + n) (drop n (a ++ b))) reading outside)
      ∙ (λ i. all_blocks end (sym (prose_behind reading line goes here) i) (sym (prose_beside reading beside at line goes here) i) [] (placed_lines_from (at + n) (drop-append-le n a b le i)))

  -- and all of them
  rest_lines : (k at : ℕ) (a : List ℕ) → length a ≤ k → are_whole a ≡ true → list_any may_begin_with a ≡ false
      → all_blocks end Text no_list [] (placed_lines_from at (a ++ b)) ≡ all_blocks end Text no_list [] (placed_lines_from (at + length a) b)
  rest_lines k at [] le whole plain = ap (λ n. all_blocks end Text no_list [] (placed_lines_from n b)) (let e : at ≡ at + 0 = omega arith in e)
  rest_lines zero at (c ∷ a) le whole plain = absurd (omega (arith, le))
  rest_lines (suc k) at (c ∷ a) le whole plain =
      let n = line_len (c ∷ a ++ b) in
      let small = first_in (c ∷ a) b whole (omega arith) in
      let some : 0 < n = line_len_some (c ∷ a ++ b) (omega arith) in
      one_line at (c ∷ a) [] Text no_list tt refl whole (omega arith) plain
      ∙ rest_lines k (at + n) (drop n (c ∷ a)) (omega (arith, le, some, small, length-drop n (c ∷ a))) (whole_drop n (c ∷ a) whole) (plain_drop n (c ∷ a) plain)
      ∙ ap (λ m. all_blocks end Text no_list [] (placed_lines_from m b)) (let e : (at + n) + length (drop n (c ∷ a)) ≡ at + length (c ∷ a) = omega (arith, small, length-drop n (c ∷ a)) in e)

  -- and all of them, whatever was read before
  pub prose_lines : (at : ℕ) (a : List ℕ) (content : List Sourced) (reading : Reading) (beside : Beside) → IsOutside reading → goes_on reading ≡ false → are_whole a ≡ true → 0 < length a → list_any may_begin_with a ≡ false
      → all_blocks end reading beside content (placed_lines_from at (a ++ b)) ≡ all_blocks end Text no_list [] (placed_lines_from (at + length a) b)
  prose_lines at a content reading beside outside goes whole some plain =
      let n = line_len (a ++ b) in
      let small = first_in a b whole some in
      one_line at a content reading beside outside goes whole some plain
      ∙ rest_lines (length a) (at + n) (drop n a) (omega (arith, length-drop n a)) (whole_drop n a whole) (plain_drop n a plain)
      ∙ ap (λ m. all_blocks end Text no_list [] (placed_lines_from m b)) (let e : (at + n) + length (drop n a) ≡ at + length a = omega (arith, small, length-drop n a) in e)

-- ---- bytes and characters

-- no byte of these passes, so none of the characters does
plain_below : (bs : List ℕ) (n : ℕ) → ((k : ℕ) → k < n → may_begin_with (get_or bs k 0) ≡ false) → list_any may_begin_with (take n bs) ≡ false
plain_below [] zero h = refl
plain_below [] (suc n) h = refl
plain_below (b ∷ bs) zero h = refl
plain_below (b ∷ bs) (suc n) h = or_from (may_begin_with b) (list_any may_begin_with (take n bs)) (h 0 (omega arith)) (plain_below bs n (λ k lt. h (suc k) (omega (arith, lt))))

-- a character that is not ASCII may not
high : (c : ℕ) → 128 ≤ c → may_begin_with c ≡ false
high c le = grind (arith, nat_tests)

-- a character whose bytes may not
plain_encode : (c : ℕ) → list_any may_begin_with (encode_utf8 c) ≡ false → may_begin_with c ≡ false
plain_encode c h = ⊎_elim (λ low. (or_parts (may_begin_with c) false (sym (ap (list_any may_begin_with) (encode_ascii c low)) ∙ h)).0) (λ le. high c le) (cases_lt c 128)

-- nor do characters whose bytes may not
plain_encodes : (cs : List ℕ) → list_any may_begin_with (encode_utf8_all cs) ≡ false → list_any may_begin_with cs ≡ false
plain_encodes [] h = refl
plain_encodes (c ∷ cs) h =
    let parts = or_parts (list_any may_begin_with (encode_utf8 c)) (list_any may_begin_with (encode_utf8_all cs)) (sym (list_any-append may_begin_with (encode_utf8 c) (encode_utf8_all cs)) ∙ h) in
    or_from (may_begin_with c) (list_any may_begin_with cs) (plain_encode c parts.0) (plain_encodes cs parts.1)

-- one byte more of a list
take_last : (k : ℕ) (xs : List ℕ) → k < length xs → take (suc k) xs ≡ take k xs ++ get_or xs k 0 ∷ []
take_last k [] lt = absurd (omega (arith, lt))
take_last zero (x ∷ xs) lt = refl
take_last (suc k) (x ∷ xs) lt = ap (λ ys. x ∷ ys) (take_last k xs (omega (arith, lt)))

-- a text with LF at its end is whole lines
whole_end : (xs : List ℕ) → are_whole (xs ++ 10 ∷ []) ≡ true
whole_end [] = refl
whole_end (x ∷ []) = refl
whole_end (x ∷ y ∷ xs) = whole_end (y ∷ xs)

-- LF is one character
chars_lf : chars (10 ∷ []) ≡ 10 ∷ []
unfolding chars
chars_lf = refl

module _ (bs : List ℕ) (u : IsUtf8 bs) where
  -- a text may be cut behind LF
  pub prose_cut : (n : ℕ) → n ≤ length bs → ((k : ℕ) → suc k ≡ n → get_or bs k 0 ≡ 10) → IsCharBoundary bs n
  prose_cut zero le last = IsCharBoundary-start bs u
  prose_cut (suc k) le last =
      subst (IsCharBoundary bs) (let e : k + 1 ≡ suc k = omega arith in e) (IsCharBoundary-after_ascii bs k u (omega (arith, le)) (omega (arith, last k refl)))

  -- and is whole lines there
  pub prose_whole : (n : ℕ) → n ≤ length bs → ((k : ℕ) → suc k ≡ n → get_or bs k 0 ≡ 10) → are_whole (chars (take n bs)) ≡ true
  prose_whole zero le last = ap are_whole chars-nil
  prose_whole (suc k) le last =
      let utf8 = IsUtf8-take bs k u (IsCharBoundary-before_ascii bs k (omega (arith, le)) (omega (arith, last k refl))) in
      ap (λ t. are_whole (chars t)) (take_last k bs (omega (arith, le)) ∙ ap (λ c. take k bs ++ c ∷ []) (last k refl))
      ∙ ap are_whole (chars-append (take k bs) (10 ∷ []) utf8 ∙ ap (λ t. chars (take k bs) ++ t) chars_lf)
      ∙ whole_end (chars (take k bs))

  module _ (n : ℕ) (le : n ≤ length bs) (before : (k : ℕ) → k < n → may_begin_with (get_or bs k 0) ≡ false) (last : (k : ℕ) → suc k ≡ n → get_or bs k 0 ≡ 10) (front behind : List ℕ) (front_is : front ≡ take n bs) (behind_is : behind ≡ drop n bs) where
    -- the part before is text
    utf8 : IsUtf8 front
    utf8 = subst IsUtf8 (sym front_is) (IsUtf8-take bs n u (prose_cut n le last))

    -- and so is what follows
    utf8_behind : IsUtf8 behind
    utf8_behind = subst IsUtf8 (sym behind_is) (IsUtf8-drop bs n u (prose_cut n le last))

    -- both make the text
    pub prose_joins : chars bs ≡ chars front ++ chars behind
    prose_joins = ap chars (sym (take-append-drop n bs) ∙ (λ i. sym front_is i ++ sym behind_is i)) ∙ chars-append front behind utf8

    -- nothing may begin in the part before
    pub prose_plain : list_any may_begin_with (chars front) ≡ false
    prose_plain = plain_encodes (chars front) (ap (list_any may_begin_with) (encodes-chars front utf8 ∙ front_is) ∙ plain_below bs n before)

    -- it has characters where it has bytes
    pub prose_some : 0 < length front → 0 < length (chars front)
    prose_some some = some_chars front utf8 some

    -- both have as many characters as bytes where the text has
    pub prose_even : length bs ≡ length (chars bs) → (length front ≡ length (chars front)) × (length behind ≡ length (chars behind))
    prose_even same =
        let lengths = ap length prose_joins in
        let parts = length-append (chars front) (chars behind) in
        let small = chars_le front utf8 in
        let small_behind = chars_le behind utf8_behind in
        let bytes : length front + length behind ≡ length bs = omega (arith, ap length front_is, ap length behind_is, length-take n bs, length-drop n bs, le) in
        (omega (arith, same, lengths, parts, small, small_behind, bytes), omega (arith, same, lengths, parts, small, small_behind, bytes))

-- ---- a reading that passes over prose
-- no block is open
pub passes_outside : (reading : Reading) → passes reading ≡ true → IsOutside reading
passes_outside Text e = tt
passes_outside BehindBlock e = tt
passes_outside BehindAttributes e = tt
passes_outside Comment e = cc
passes_outside Extension e = cc
passes_outside (Block fence) e = cc

-- and no comment, nor what is left out
pub passes_goes : (reading : Reading) → passes reading ≡ true → goes_on reading ≡ false
passes_goes Text e = refl
passes_goes BehindBlock e = refl
passes_goes BehindAttributes e = refl
passes_goes Comment e = cc
passes_goes Extension e = cc
passes_goes (Block fence) e = cc
