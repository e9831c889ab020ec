-- What is inserted in a draft for lines that are inserted in its grammar.
use Rattle.std.specs.Prelude.{ℕ, Bool, false, suc, ◌&&◌, ◌||◌, ◌+◌, ◌==◌, if◌then◌else◌, is_some, List, [], ◌∷◌, ◌++◌, Option, None, Some, encode_utf8_all}
use Rattle.std.specs.List.{list_all}
use Rattle.std.specs.Str.{chars}
use Rattle.ls_text.specs.Lines.{offset_of, units}
use Rattle.ls_text.specs.Positions.{position_of}
use Rattle.ls_text.specs.declared.position.Encoding.TheVariants.{Utf32}
use Rattle.ls_text.specs.declared.position.Position.{Position}
use Rattle.origins.specs.Origins.{characters, is_blank_char}
use Rattle.draft_grammars.specs.Drafts.{contents_in, has_contents}
use Rattle.draft_grammars.specs.Places.{Mapped, drafted, empty_range, margin_before, outward, grammar_place}
use Rattle.draft_grammars.specs.Renames.{written}
use Rattle.draft_grammars.specs.declared.format.Format.{Format}
use Rattle.draft_grammars.specs.declared.insertion.Inserted.{Inserted}

-- where a line of a text ends, before its line end
abbrev pub line_stop : List ℕ → ℕ → ℕ
line_stop text line = offset_of (units Utf32) text line 0xFFFF_FFFF

-- whether the line of an offset ends in CR LF, the one line end that has two characters
abbrev pub ends_in_crlf : List ℕ → ℕ → Bool
ends_in_crlf text offset =
    let line = (position_of (units Utf32) text offset).line in
    offset_of (units Utf32) text (suc line) 0 == line_stop text line + 2

-- characters with CR LF in the place of each LF
abbrev pub with_crlf : List ℕ → List ℕ
with_crlf [] = []
with_crlf (c ∷ t) = if c == 10 then 13 ∷ 10 ∷ with_crlf t else c ∷ with_crlf t

-- a text in UTF-8 with the line end of the line at an offset of the draft
abbrev pub with_end_at : List ℕ → ℕ → List ℕ → List ℕ
with_end_at draft offset text = if ends_in_crlf draft offset then encode_utf8_all (with_crlf (chars text)) else text

-- This draft and this text are small enough (`written`), and the draft's grammar has the text. The draft has a fault or none, as is said.
abbrev pub are_alike : Format → Bool → Option (List ℕ) → Option (List ℕ) → Bool
are_alike format at_fault None text = false
are_alike format at_fault (Some draft) None = false
are_alike format at_fault (Some draft) (Some text) = has_contents at_fault (contents_in format draft) text

-- a blank, or the `>` (62) of a quote
abbrev pub is_margin_char : ℕ → Bool
is_margin_char c = is_blank_char c || c == 62

-- only such characters stand before an offset of the draft in its line, and so no markup
abbrev pub has_plain_margin : List ℕ → ℕ → Bool
has_plain_margin draft offset = list_all is_margin_char (margin_before draft offset)

-- What is inserted in the draft for these lines, with LF, at the start of a line of the grammar: they come behind the margin of the line
-- that they push down, with its line end, and bring its margin. They are inserted only where that margin has no markup, the grammar of the
-- draft gets the lines and nothing else of it changes, and the draft has a fault then if it has one now. It isn't so in XML, say, where they
-- have `<` or `&` outside of a CDATA section.
abbrev pub insertion_in : Format → Mapped → Position → List ℕ → Option Inserted
insertion_in format of at lines =
    let offset = outward of (grammar_place of at) in
    let own = with_end_at of.draft offset lines in
    let there = drafted of offset in
    let text = own ++ encode_utf8_all (margin_before of.draft offset) in
    if has_plain_margin of.draft offset && are_alike format (is_some of.fault) (written of.encoding of.draft text (empty_range there ∷ [])) (written Utf32 (characters of.grammar) own (empty_range at ∷ []))
    then Some (record { position = there; text = text })
    else None
