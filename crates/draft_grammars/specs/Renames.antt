-- Whether edits of a draft are edits of its grammar.
use Rattle.std.specs.Prelude.{ℕ, false, if◌then◌else◌, is_some, List, map, Option, None, Some, Result, Ok, Err}
use Rattle.ls_text.specs.Edits.{edited_all}
use Rattle.ls_text.specs.Lines.{units}
use Rattle.ls_text.specs.declared.position.Encoding.{Encoding}
use Rattle.ls_text.specs.declared.position.Encoding.TheVariants.{Utf32}
use Rattle.ls_text.specs.declared.position.Range.{Range}
use Rattle.abnf_rename.specs.Text.{renaming_edits}
use Rattle.origins.specs.Origins.{characters}
use Rattle.draft_grammars.specs.Drafts.{contents_in, has_contents}
use Rattle.draft_grammars.specs.Places.{Mapped, outward_range}
use Rattle.draft_grammars.specs.declared.format.Format.{Format}
use Rattle.draft_grammars.specs.declared.rename.DraftRenameFault.{DraftRenameFault}
use Rattle.draft_grammars.specs.declared.rename.DraftRenameFault.TheVariants.{AtFault, TooLarge, Split}

-- a text with a new one in the place of these ranges, if it stays small enough (`edited_all`)
abbrev pub written : Encoding → List ℕ → List ℕ → List Range → Option (List ℕ)
written encoding text new ranges = edited_all (units encoding) text (renaming_edits new ranges)

-- Why a rename isn't granted that makes this draft and this text of its grammar, if both are small enough: the draft's grammar has another
-- text, or the draft has a fault.
abbrev pub split_fault : Format → Option (List ℕ) → Option (List ℕ) → Option DraftRenameFault
split_fault format None text = Some TooLarge
split_fault format (Some draft) None = Some TooLarge
split_fault format (Some draft) (Some text) = if has_contents false (contents_in format draft) text then None else Some Split

-- Why a new text isn't granted in the place of these ranges of the grammar. In a draft at fault it never is, as what stands behind the
-- fault isn't known. Else it is where the draft, with the new text in the ranges from which these come, has the grammar with the new text,
-- and nothing else of it changes. It isn't so, say, of a name in XML that begins in a CDATA section and ends behind it.
abbrev pub draft_rename_fault : Format → Mapped → List Range → List ℕ → Option DraftRenameFault
draft_rename_fault format of ranges new =
    if is_some of.fault then Some AtFault
    else split_fault format (written of.encoding of.draft new (map (outward_range of) ranges)) (written Utf32 (characters of.grammar) new ranges)

-- ranges, unless there is a fault
abbrev pub ranges_unless : Option DraftRenameFault → List Range → Result (List Range) DraftRenameFault
ranges_unless (Some fault) ranges = Err fault
ranges_unless None ranges = Ok ranges

-- the ranges of the draft from which these ranges of its grammar come, if a new text is granted there
abbrev pub renamed_in : Format → Mapped → List Range → List ℕ → Result (List Range) DraftRenameFault
renamed_in format of ranges new = ranges_unless (draft_rename_fault format of ranges new) (map (outward_range of) ranges)
