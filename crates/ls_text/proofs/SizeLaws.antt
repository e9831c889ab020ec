-- Laws of the bytes around what is replaced in a text.
use Rattle.std.proofs.Common.{◌≡◌, ℕ, zero, suc, ◌+◌, ◌-◌, ◌<◌, ◌≤◌, List, [], ◌∷◌, ◌++◌, length, take, drop, get_or, refl, sym, ap, ◌∙◌, ⊎_elim, arith, length-append, length-drop, take-append-drop, get_or-drop}
use Rattle.std.specs.Str.{chars, IsUtf8, encode_utf8_all as encodes}
use Rattle.std.proofs.lemmas.List.{length-take-le, take_more}
use Rattle.std.proofs.lemmas.Bool.{cases_lt}
use Rattle.std.proofs.lemmas.Str.{encodes-append, encodes-chars, IsUtf8-take}
use Rattle.ls_text.specs.own.Chunks.{byte_length, IsLineAt}
use Rattle.ls_text.specs.Cut.{Row, line_text, text_of, text_at, end_at, end_text, start_of, AreLines}
use Rattle.ls_text.specs.own.Spots.{IsSpot, bytes_at, front_of, back_of}
use Rattle.ls_text.specs.declared.edit.Spot.{Spot}
use Rattle.ls_text.specs.declared.line_end.LineEnd.{LineEnd}
use Rattle.ls_text.specs.declared.line_end.LineEnd.TheVariants.{Eof, Lf, Cr, CrLf}
use Rattle.ls_text.proofs.ChunkLaws.{byte_length_append, take_join}
use Rattle.ls_text.proofs.HeldLaws.{bytes_push}
use Rattle.ls_text.proofs.SpliceLaws.{take_spot, spot_text, end_last, wanted_text}

bytes_join : (x y : List ℕ) → length (encodes (x ++ y)) ≡ length (encodes x) + length (encodes y)
bytes_join x y = ap length (encodes-append x y) ∙ length-append (encodes x) (encodes y)

module _ (ls : List Row) (s : Spot) (spot : IsSpot ls s) where
  front_bytes : length (encodes (front_of ls s)) ≡ s.bytes
  front_bytes =
      ap length (encodes-chars (take s.bytes (bytes_at ls s.line)) (IsUtf8-take (bytes_at ls s.line) s.bytes spot.utf8 spot.boundary))
      ∙ length-take-le s.bytes (bytes_at ls s.line) spot.boundary.0

  -- the bytes before a spot: those of the lines before its line, and its own
  pub bytes_before : length (encodes (take s.offset (text_of ls))) ≡ byte_length (take s.line ls) + s.bytes
  bytes_before =
      ap (λ t. length (encodes t)) (take_spot ls s spot) ∙ bytes_join (text_of (take s.line ls)) (front_of ls s)
      ∙ ap (λ n. byte_length (take s.line ls) + n) front_bytes

  pub bytes_both : length (encodes (take s.offset (text_of ls))) + length (encodes (drop s.offset (text_of ls))) ≡ byte_length ls
  bytes_both =
      omega (arith, bytes_join (take s.offset (text_of ls)) (drop s.offset (text_of ls)), ap (λ t. length (encodes t)) (take-append-drop s.offset (text_of ls)))

-- the bytes of the lines up to one, and from there up to another
pub bytes_between : (ls : List Row) (from to : ℕ) → from ≤ to → byte_length (take from ls) + byte_length (take (to - from) (drop from ls)) ≡ byte_length (take to ls)
bytes_between ls from to le = omega (arith, byte_length_append (take from ls) (take (to - from) (drop from ls)), ap byte_length (take_join ls from to le))

-- a line begins behind the end of each line before it
start_behind : (ls : List Row) (m n : ℕ) → m < n → n < length ls → start_of ls m + (length (text_at ls m) + length (end_text (end_at ls m))) ≤ start_of ls n
start_behind [] m n lt within = absurd (omega (arith, within))
start_behind (l ∷ ls) zero zero lt within = absurd (omega (arith, lt))
start_behind (l ∷ ls) zero (suc n) lt within = omega arith
start_behind (l ∷ ls) (suc m) zero lt within = absurd (omega (arith, lt))
start_behind (l ∷ ls) (suc m) (suc n) lt within = omega (arith, start_behind ls m n (omega (arith, lt)) (omega (arith, within)))

-- a line with others behind it has a line end
end_inside : (ls : List Row) → AreLines ls → (m n : ℕ) → m < n → n < length ls → 0 < length (end_text (end_at ls m))
end_inside ls h m n lt within = by_end (end_at ls m) refl
  where
    by_end : (e : LineEnd) → end_at ls m ≡ e → 0 < length (end_text e)
    by_end Eof is = absurd (omega (arith, ap length (end_last ls h m (omega (arith, lt, within)) is), length-drop (suc m) ls, lt, within))
    by_end Lf is = omega arith
    by_end Cr is = omega arith
    by_end CrLf is = omega arith

-- of two spots the one with the smaller offset has no later line
pub lines_in_order : (ls : List Row) → AreLines ls → (s t : Spot) → IsSpot ls s → IsSpot ls t → s.offset ≤ t.offset → s.line ≤ t.line
lines_in_order ls h s t at_s at_t le = ⊎_elim (λ later. absurd (behind later)) (λ fine. fine) (cases_lt t.line s.line)
  where
    behind : t.line < s.line → ⊥
    behind later =
        omega (
          arith,
          le,
          at_s.offset_is,
          at_t.offset_is,
          start_behind ls t.line s.line later at_s.line_in_range,
          end_inside ls h t.line s.line later at_s.line_in_range,
          front_le ls t at_t,
        )
      where
        front_le : (ls : List Row) (t : Spot) → IsSpot ls t → length (front_of ls t) ≤ length (text_at ls t.line)
        front_le ls t spot = omega (arith, ap length (spot_text ls t spot), length-append (front_of ls t) (back_of ls t))

-- the bytes of the text that is wanted
pub wanted_bytes : (ls : List Row) (from to : Spot) (new : List ℕ) → length (encodes (wanted_text ls from to new)) ≡ length (encodes (take from.offset (text_of ls))) + (length (encodes new) + length (encodes (drop to.offset (text_of ls))))
wanted_bytes ls from to new =
    bytes_join (take from.offset (text_of ls)) (new ++ drop to.offset (text_of ls))
    ∙ ap (λ n. length (encodes (take from.offset (text_of ls))) + n) (bytes_join new (drop to.offset (text_of ls)))

-- the bytes of the whole, as they are counted
pub counted : (ls : List Row) (from to : Spot) (new : List ℕ) (around : ℕ) → IsUtf8 new → around ≡ length (encodes (take from.offset (text_of ls))) + length (encodes (drop to.offset (text_of ls))) →
    length (encodes (wanted_text ls from to (chars new))) ≡ around + length new
counted ls from to new around utf8 is = omega (arith, is, wanted_bytes ls from to (chars new), ap length (encodes-chars new utf8))

-- one more line
pub between_bytes : (ls : List Row) (from i : ℕ) (l : Row) (start : ℕ) → from ≤ i → IsLineAt ls i l start →
    byte_length (take (i + 1 - from) (drop from ls)) ≡ byte_length (take (i - from) (drop from ls)) + (length (encodes (line_text l)) + length (end_text l.end))
between_bytes ls from i l start le at =
    let place : from + (i - from) ≡ i = omega (arith, le) in
    let one : i + 1 - from ≡ i - from + 1 = omega (arith, le) in
    let here : get_or (drop from ls) (i - from) l ≡ l = get_or-drop from ls (i - from) l ∙ ap (λ n. get_or ls n l) place ∙ sym at.line_is in
    let more : take (i + 1 - from) (drop from ls) ≡ take (i - from) (drop from ls) ++ l ∷ [] =
    ap (λ n. take n (drop from ls)) one ∙ take_more (drop from ls) (i - from) l (omega (arith, le, at.in_range, length-drop from ls)) ∙ ap (λ z. take (i - from) (drop from ls) ++ z ∷ []) here in
    ap byte_length more ∙ bytes_push (take (i - from) (drop from ls)) l

-- no part of the lines has more bytes than all
pub between_le : (ls : List Row) (from k : ℕ) → byte_length (take k (drop from ls)) ≤ byte_length ls
between_le ls from k =
    omega (
      arith,
      byte_length_append (take from ls) (drop from ls),
      ap byte_length (take-append-drop from ls),
      byte_length_append (take k (drop from ls)) (drop k (drop from ls)),
      ap byte_length (take-append-drop k (drop from ls)),
    )
