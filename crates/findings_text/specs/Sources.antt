-- Where what stands in the text of a grammar stands in the file that it comes from.
use Rattle.std.specs.Prelude.{ℕ, List, [], length, slice_get}
use Rattle.std.specs.Option.{option_map_or}
use Rattle.ls_text.specs.Lines.{offset_of, units}
use Rattle.ls_text.specs.Positions.{position_of}
use Rattle.ls_text.specs.declared.position.Encoding.TheVariants.{Utf32}
use Rattle.ls_text.specs.declared.position.Position.{Position}
use Rattle.origins.specs.Origins.{Sourced}
use Rattle.joined_grammars.specs.declared.repeats.Repeat.{Repeat}
use Rattle.findings_text.specs.declared.source.Source.{Source}
use Rattle.findings_text.specs.declared.source.Source.TheVariants.{Draft, File}
use Rattle.findings_text.specs.Print.{Locator}
use Rattle.findings_text.specs.Unread.{Asides, asides_of, no_asides}

-- the offset in a draft of what has this offset in its grammar; past the grammar's end it is the draft's end
abbrev pub draft_origin : List ℕ → List Sourced → ℕ → ℕ
draft_origin draft grammar o = option_map_or (λ c. c.1) (slice_get grammar o) (length draft)

-- where in the draft stands what has this position in a text that begins with its grammar
abbrev pub position_in_draft : List ℕ → List Sourced → List ℕ → Position → Position
position_in_draft draft grammar text at =
    position_of (units Utf32) draft (draft_origin draft grammar (offset_of (units Utf32) text at.line at.character))

-- where what stands in the text of a source stands in the file: of a text that is the file at the same position
abbrev pub located : Source → List ℕ → Locator
located File text at = at
located (Draft draft grammar repeats ends unread) text at = position_in_draft draft.now grammar.now text at

-- the definitions that repeat others: none in a text that is the file, where each of them is an error
abbrev pub repeats_in : Source → List Repeat
repeats_in File = []
repeats_in (Draft draft grammar repeats ends unread) = repeats.now

-- the lines of the text at which blocks end: none in a text that is the file
abbrev pub ends_in : Source → List ℕ
ends_in File = []
ends_in (Draft draft grammar repeats ends unread) = ends.now

-- what can't be read of the file: nothing of a text that is the file
abbrev pub asides_in : Source → Asides
asides_in File = no_asides
asides_in (Draft draft grammar repeats ends unread) = asides_of draft.now unread.now
