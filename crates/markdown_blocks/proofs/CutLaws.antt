-- Laws of the first line of a text.
use Rattle.std.proofs.Common.{◌≡◌, ℕ, zero, suc, ◌+◌, ◌<◌, ◌≤◌, true, List, [], ◌∷◌, ◌++◌, length, take, drop, refl, sym, ap, subst, ◌∙◌, ◌⊎◌, inl, inr, ⊎_elim, append_assoc, length-append, length-drop, length-take, arith}
use Rattle.std.proofs.Math.Seq.{drop-nil}
use Rattle.std.specs.Prelude.{◌==◌}
use Rattle.std.specs.List.{list_any}
use Rattle.std.specs.Str.{chars, IsCharBoundary, IsUtf8, encode_utf8_all}
use Rattle.std.proofs.lemmas.Bool.{or_parts}
use Rattle.std.proofs.lemmas.Str.{IsCharBoundary-from_rest, IsUtf8-drop, IsUtf8-take, chars-append, chars-nil, encodes-chars, length-le-encodes}
use Rattle.ls_text.specs.Lines.{is_break}
use Rattle.ls_text.specs.Cut.{IsCutFrom, IsPlain, end_text, first_end, is_end_before}
use Rattle.ls_text.specs.declared.line_end.LineEnd.{LineEnd}
use Rattle.ls_text.specs.declared.line_end.LineEnd.TheVariants.{Eof, Lf, Cr, CrLf}
use Rattle.ls_text.proofs.CutLaws.{IsFirstBreak, chars_cut, chars_end, end_boundary, first_line_cut, is_end_before_chars, onto_plain}
use Rattle.markdown_blocks.specs.own.Reading.{line_len}
use Rattle.markdown_blocks.proofs.FenceLaws.{line_len_le, line_len_some}

-- a line end, before the rest of the text
line_len_end : (e : LineEnd) (t : List ℕ) → (e ≡ Eof × t ≡ []) ⊎ (is_end_before e t ≡ true) → line_len (end_text e ++ t) ≡ length (end_text e)
unfolding line_len
line_len_end Eof t h = ⊎_elim (λ last. ap line_len last.1) (λ no. cc) h
line_len_end Lf t h = refl
line_len_end Cr t h = ⊎_elim (λ last. cc) (λ ends. rw ends refl) h
line_len_end CrLf t h = refl

-- a plain line, its line end and the rest of the text
line_len_cut : (p : List ℕ) (e : LineEnd) (t : List ℕ) → IsPlain p → (e ≡ Eof × t ≡ []) ⊎ (is_end_before e t ≡ true) → line_len (p ++ (end_text e ++ t)) ≡ length (p ++ end_text e)
unfolding line_len
line_len_cut [] e t plain ends = line_len_end e t ends
line_len_cut (c ∷ p) e t plain ends =
    let first = or_parts (is_break c) (list_any is_break p) plain in
    let breaks = or_parts (c == 10) (c == 13) first.0 in
    rw (breaks.0, breaks.1) (ap suc (line_len_cut p e t first.1 ends))

-- the front of two lists
take_front : (xs ys : List ℕ) → take (length xs) (xs ++ ys) ≡ xs
take_front [] ys = refl
take_front (x ∷ xs) ys = ap (λ zs. x ∷ zs) (take_front xs ys)

-- and what is behind it
drop_front : (xs ys : List ℕ) → drop (length xs) (xs ++ ys) ≡ ys
drop_front [] ys = refl
drop_front (x ∷ xs) ys = drop_front xs ys

-- behind so many, behind more of them
pub drop_both : (n m : ℕ) (bs : List ℕ) → drop m (drop n bs) ≡ drop (n + m) bs
drop_both zero m bs = ap (λ k. drop k bs) (let e : m ≡ 0 + m = omega arith in e)
drop_both (suc n) m [] = drop-nil m ∙ sym (drop-nil (suc n + m))
drop_both (suc n) m (b ∷ bs) = drop_both n m bs ∙ ap (λ k. drop k (b ∷ bs)) (let e : suc (n + m) ≡ suc n + m = omega arith in e)

-- how long the first line is, and what follows it
pub line_lengths : (t line behind : List ℕ) → line ≡ take (line_len t) t → behind ≡ drop (line_len t) t → (length line + length behind ≡ length t) × (length line ≡ line_len t)
line_lengths t line behind line_is behind_is =
    let front : length line ≡ line_len t = omega (arith, ap length line_is, length-take (line_len t) t, line_len_le t) in
    (omega (arith, front, ap length behind_is, length-drop (line_len t) t, line_len_le t), front)

-- a text with bytes has characters
pub some_chars : (bs : List ℕ) → IsUtf8 bs → 0 < length bs → 0 < length (chars bs)
some_chars bs u some = by_chars (chars bs) (encodes-chars bs u)
  where
    by_chars : (cs : List ℕ) → encode_utf8_all cs ≡ bs → 0 < length cs
    by_chars [] e = absurd (omega (arith, ap length e, some))
    by_chars (c ∷ cs) e = omega arith

-- and no more of them than bytes
pub chars_le : (bs : List ℕ) → IsUtf8 bs → length (chars bs) ≤ length bs
chars_le bs u = omega (arith, length-le-encodes (chars bs), ap length (encodes-chars bs u))

-- and one without has none
pub no_chars : (bs : List ℕ) → length bs ≡ 0 → length (chars bs) ≡ 0
no_chars [] e = ap length chars-nil
no_chars (b ∷ bs) e = absurd (omega (arith, e))

module _ {line rest text : List ℕ} {end : LineEnd} (cut : IsCutFrom line end rest text) where
  -- the characters of the text
  whole : chars text ≡ (chars line ++ end_text end) ++ chars rest
  whole = ap chars cut.joins ∙ chars_cut line end rest cut.line_utf8 ∙ sym (append_assoc (chars line) (end_text end) (chars rest))

  -- the line end of the characters
  ends : (end ≡ Eof × chars rest ≡ []) ⊎ (is_end_before end (chars rest) ≡ true)
  unfolding chars
  ends = ⊎_elim (λ last. inl (last.0, ap chars last.1)) (λ more. inr (is_end_before_chars end rest cut.rest_utf8 more)) cut.ends

  -- how long the first line is
  len : line_len (chars text) ≡ length (chars line ++ end_text end)
  len = ap line_len (ap chars cut.joins ∙ chars_cut line end rest cut.line_utf8) ∙ line_len_cut (chars line) end (chars rest) (onto_plain cut) ends

  -- it is the front of the text
  front : (chars line ++ end_text end) ≡ take (line_len (chars text)) (chars text)
  front = sym (take_front (chars line ++ end_text end) (chars rest)) ∙ (λ i. take (sym len i) (sym whole i))

  -- what follows the first line
  pub behind_is : chars rest ≡ drop (line_len (chars text)) (chars text)
  behind_is = sym (drop_front (chars line ++ end_text end) (chars rest)) ∙ (λ i. drop (sym len i) (sym whole i))

  -- the first line
  pub line_is : (bytes : List ℕ) → bytes ≡ line ++ end_text end → chars bytes ≡ take (line_len (chars text)) (chars text)
  line_is bytes is = ap chars is ∙ chars-append line (end_text end) cut.line_utf8 ∙ ap (λ e. chars line ++ e) (chars_end end) ∙ front

  -- its bytes
  pub first_bytes : (n m : ℕ) → n ≡ length line → m ≡ length (end_text end) → take (n + m) text ≡ line ++ end_text end
  first_bytes n m n_is m_is =
      let both : n + m ≡ length (line ++ end_text end) = omega (arith, length-append line (end_text end), n_is, m_is) in
      (λ i. take (both i) ((cut.joins ∙ sym (append_assoc line (end_text end) rest)) i)) ∙ take_front (line ++ end_text end) rest

-- a text that is cut where its first LF or CR stands, and then behind the line end there
module _ (bytes text : List ℕ) (n : ℕ) (value : bytes ≡ text) (u : IsUtf8 text) (first : IsFirstBreak bytes n) (after after_bytes : List ℕ) (m : ℕ) (back : after ≡ drop n text) (after_value : after_bytes ≡ after) (m_is : m ≡ length (end_text (first_end after_bytes))) where
  -- where the line end ends
  ended : IsCharBoundary after m
  ended = end_boundary _ _ _ value u first _ _ _ _ back after_value refl m_is

  -- the two cuts
  cut : IsCutFrom (take n text) (first_end after_bytes) (drop m after) text
  cut = first_line_cut _ _ _ value u first _ _ _ _ back after_value refl m_is _ _ refl refl

  -- the first is in the text
  within : n ≤ length text
  within = omega (arith, first.in_range, ap length value)

  -- and so is the second
  pub both_within : n + m ≤ length text
  both_within = omega (arith, within, ended.0, ap length back, length-drop n text)

  -- where the text may be cut
  pub cut_at : IsCharBoundary text (n + m)
  cut_at = IsCharBoundary-from_rest text n m within (subst (λ t. IsCharBoundary t m) back ended)

  module _ (line behind : List ℕ) (front_is : line ≡ take (n + m) text) (rest_is : behind ≡ drop (n + m) text) where
    -- the characters of the first line
    pub first_chars : chars line ≡ take (line_len (chars text)) (chars text)
    first_chars = line_is cut _ (front_is ∙ first_bytes cut n m (omega (arith, within, length-take n text)) m_is)

    -- those of what follows
    pub behind_chars : chars behind ≡ drop (line_len (chars text)) (chars text)
    behind_chars = ap chars (rest_is ∙ sym (drop_both n m text) ∙ ap (drop m) (sym back)) ∙ behind_is cut

    -- which are fewer
    pub behind_shorter : 0 < length text → length (chars behind) < length (chars text)
    behind_shorter some =
        let lengths = line_lengths (chars text) (chars line) (chars behind) first_chars behind_chars in
        omega (arith, lengths.0, lengths.1, line_len_some (chars text) (some_chars text u some))

    -- where the text has no more bytes than characters, neither has any of the two
    pub evenly : length text ≡ length (chars text) → (length line ≡ length (chars line)) × (length behind ≡ length (chars behind))
    evenly same =
        let lengths = line_lengths (chars text) (chars line) (chars behind) first_chars behind_chars in
        let front = chars_le line (subst IsUtf8 (sym front_is) (IsUtf8-take text (n + m) u cut_at)) in
        let back = chars_le behind (subst IsUtf8 (sym rest_is) (IsUtf8-drop text (n + m) u cut_at)) in
        let front_len : length line ≡ n + m = omega (arith, ap length front_is, length-take (n + m) text, both_within) in
        let back_len : length line + length behind ≡ length text = omega (arith, front_len, ap length rest_is, length-drop (n + m) text, both_within) in
        (omega (arith, same, lengths.0, front, back, back_len), omega (arith, same, lengths.0, front, back, back_len))
