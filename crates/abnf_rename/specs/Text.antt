-- The text after a rename, and what is kept of its grammar (LSP 3.17, "Rename Request").
use Rattle.std.specs.Prelude.{◌≡◌, ℕ, Some, IfSome, List, [], ◌∷◌, ◌++◌, map}
use Rattle.std.specs.Str.{chars}
use Rattle.ls_text.specs.Lines.{units}
use Rattle.ls_text.specs.Positions.{place_range}
use Rattle.ls_text.specs.Edits.{replaced, position_offset, edited_all}
use Rattle.ls_text.specs.declared.position.Encoding.{Encoding}
use Rattle.ls_text.specs.declared.position.Range.{Range}
use Rattle.ls_text.specs.declared.edit.Edit.{Edit}
use Rattle.abnf_token.specs.Classes.{Text}
use Rattle.abnf_syntax.specs.Blocks.{line_texts}
use Rattle.abnf_parts.specs.Names.{Name}
use Rattle.abnf_names.specs.Places.{places_of_name}
use Rattle.abnf_names.specs.Rules.{Grammar, IsGrammar}
use Rattle.abnf_rename.specs.Lines.{AreRenamedLines, HaveRenamedTokens}
use Rattle.abnf_rename.specs.Rules.{AreSameRules, KeepsNames}

-- The text with these characters in the place of each range. Each is a range of the text as it was: the last is written first, so that
-- the ranges before it stay where they are. The width of a character is a parameter, as for positions.
abbrev pub with_ranges : (ℕ → ℕ) → List ℕ → List ℕ → List Range → List ℕ
with_ranges width text new [] = text
with_ranges width text new (r ∷ rs) =
    replaced (with_ranges width text new rs) (position_offset width text r.start) (position_offset width text r.end) new

-- the text with the new one in each of these ranges, whose positions count the units of this encoding, written from the last
-- to the first
abbrev pub text_renamed : Encoding → List ℕ → Text → List Range → List ℕ
text_renamed encoding text new ranges = with_ranges (units encoding) text (chars new) ranges

-- the edit that puts the new text in the place of a range
abbrev pub renaming_edit : Text → Range → Edit
renaming_edit new range = record { range = Some range; text = new }

-- the edits that put the new text into these ranges, from the last to the first
abbrev pub renaming_edits : Text → List Range → List Edit
renaming_edits new [] = []
renaming_edits new (r ∷ rs) = renaming_edits new rs ++ (renaming_edit new r ∷ [])

-- The edits of a rename, made one after another, each on the text that the ones before it left, give the text with the new
-- one in these ranges, wherever no text on the way is too large.
abbrev pub EditsGive : Encoding → List ℕ → Text → List Range → Type 0
EditsGive encoding text new ranges =
    IfSome (edited_all (units encoding) text (renaming_edits new ranges)) (λ edited. edited ≡ text_renamed encoding text new ranges)

-- the ranges of the places of a name, in the order of the text
abbrev pub name_ranges : Encoding → Grammar → Name → List Range
name_ranges encoding g name = map (λ named. place_range (units encoding) g.text named.place) (places_of_name name g.places)

-- What a rename of this name keeps, of the text after its edits.
--
-- The edits give this text, made one after another from the last to the first.
--
-- The lines are the renamed lines. Line by line, the tokens have the same kinds and texts, but that each place of the name
-- has the new text; no line comes or goes. And each grammar of the text after the edits has the same rules but for that name,
-- generates the same strings from each name, and leads to opaque parts from the same names, the old one as the new one.
pub record KeepsTheGrammar (encoding : Encoding) (old : Name) (new : Text) (before : Grammar) (ranges : List Range) : Type 0 where
  pub edits : EditsGive encoding before.text new ranges
  pub lines : AreRenamedLines old new (line_texts before.text) (line_texts (text_renamed encoding before.text new ranges))
  pub tokens : HaveRenamedTokens old new (line_texts before.text) (line_texts (text_renamed encoding before.text new ranges))
  pub rules : (after : Grammar) → IsGrammar after → after.text ≡ text_renamed encoding before.text new ranges → AreSameRules old new before after
  pub names : (after : Grammar) → IsGrammar after → after.text ≡ text_renamed encoding before.text new ranges → KeepsNames old new before after
