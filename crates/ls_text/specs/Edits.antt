-- Edits of a text (LSP 3.17, "TextDocumentContentChangeEvent"). The width of a character is a parameter, as in Lines.
use Rattle.std.specs.Prelude.{ℕ, min, if◌then◌else◌, nat_lt, Bool, false, Option, Some, None, List, [], ◌∷◌, ◌++◌, length, take, drop}
use Rattle.std.specs.Str.{chars, encode_utf8_all}
use Rattle.ls_text.specs.Lines.{offset_of, max_bytes}
use Rattle.ls_text.specs.declared.position.Position.{Position}
use Rattle.ls_text.specs.declared.position.Range.{Range}
use Rattle.ls_text.specs.declared.edit.Edit.{Edit}

-- the offset of a position, whose character counts units of this width within its line
abbrev pub position_offset : (ℕ → ℕ) → List ℕ → Position → ℕ
position_offset width t p = offset_of width t p.line p.character

-- the greater of two numbers
abbrev pub greater : ℕ → ℕ → ℕ
greater a b = if nat_lt a b then b else a

-- the text with what stands between two offsets replaced, whichever of them comes first
abbrev pub replaced : List ℕ → ℕ → ℕ → List ℕ → List ℕ
replaced t a b new = take (min a b) t ++ (new ++ drop (greater a b) t)

-- the text after an edit (LSP 3.17, "TextDocumentContentChangeEvent"): what stands before the smaller of its range's two
-- offsets, the new text, and what stands behind the greater one; without a range the new text alone
unfoldable pub edited : (ℕ → ℕ) → List ℕ → Edit → List ℕ
edited width t e = by_range e.range
  where
    by_range : Option Range → List ℕ
    by_range None = chars e.text
    by_range (Some r) = replaced t (position_offset width t r.start) (position_offset width t r.end) (chars e.text)

-- over `max_bytes`, so over 4,194,304 bytes of UTF-8
abbrev pub is_too_large : List ℕ → Bool
is_too_large t = nat_lt max_bytes (length (encode_utf8_all t))

-- the text after the edits, each on the text that the ones before it left, or none where one of these texts is too large,
-- also where a later edit would shrink it
unfoldable pub edited_all : (ℕ → ℕ) → List ℕ → List Edit → Option (List ℕ)
edited_all width t [] = Some t
edited_all width t (e ∷ es) =
    if is_too_large (edited width t e) then None else edited_all width (edited width t e) es

-- whether the text after the first of the edits is too large already
abbrev pub first_is_too_large : (ℕ → ℕ) → List ℕ → List Edit → Bool
first_is_too_large width t [] = false
first_is_too_large width t (e ∷ es) = is_too_large (edited width t e)
