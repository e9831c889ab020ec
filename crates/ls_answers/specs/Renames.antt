-- What gives the name at a position another text (LSP 3.17, "Rename Request").
use Rattle.std.specs.Prelude.{◌≡◌, ℕ, List, map, not, ◌&&◌, Option, Some, None, if◌then◌else◌}
use Rattle.std.specs.Str.{bytes_eq}
use Rattle.abnf_token.specs.Classes.{is_name}
use Rattle.abnf_token.specs.Folded.{lowercase}
use Rattle.ls_text.specs.declared.position.Position.{Position}
use Rattle.ls_text.specs.declared.position.Encoding.{Encoding}
use Rattle.abnf_parts.specs.Names.{Name}
use Rattle.abnf_names.specs.Places.{Named, is_defined}
use Rattle.abnf_names.specs.Rules.{Grammar, IsGrammar}
use Rattle.abnf_rename.specs.Rules.{is_in_use}
use Rattle.ls_answers.specs.Places.{name_at, name_range, places_alike}
use Rattle.ls_answers.specs.declared.answer.Answer.{Answer}
use Rattle.ls_answers.specs.declared.answer.Answer.TheVariants as answer
use Rattle.ls_answers.specs.declared.answer.RenameFault.{RenameFault}
use Rattle.ls_answers.specs.declared.answer.RenameFault.TheVariants.{NotAName, NothingToRename, NameInUse}

-- Why the name isn't given this new text. It may be its own in another case, since names are compared without case (RFC 5234, section
-- 2.1); another name must be new.
abbrev pub fault_of_name : Grammar → Name → List ℕ → Option RenameFault
fault_of_name g old new =
    if not (is_defined g.places old) then Some NothingToRename
    else (if not (bytes_eq (lowercase new) old) && is_in_use g (lowercase new) then Some NameInUse else None)

-- The same of what is found at a position: where no name stands there is nothing to rename.
abbrev pub fault_there : Grammar → Option Named → List ℕ → Option RenameFault
fault_there g None new = Some NothingToRename
fault_there g (Some named) new = fault_of_name g (lowercase named.text) new

-- The first cause that holds: the new text isn't a name (RFC 5234, section 2.1), there is nothing to rename, or the new name is in use,
-- that of a place in the text or of a core rule.
abbrev pub rename_fault : Encoding → Grammar → Position → List ℕ → Option RenameFault
rename_fault encoding g at new = if not (is_name new) then Some NotAName else fault_there g (name_at encoding g at) new

-- the refusal, or else each place of the name with the new text as it was given
abbrev pub rename_answer : Encoding → Grammar → Position → List ℕ → Option RenameFault → Answer
rename_answer encoding g at new (Some fault) = answer.Refused fault
rename_answer encoding g at new None = answer.Edits (map (name_range encoding g.text) (places_alike g (name_at encoding g at))) new

-- This is answered to a rename of the name at the position: the refusal by the first cause that holds, and else the range of each place of
-- the name, in the order of the text, and the new text as it was given.
pub record IsRename (encoding : Encoding) (text : List ℕ) (at : Position) (new : List ℕ) (answer : Answer) : Type 0 where
  pub grammar : Grammar
  pub of_text : grammar.text ≡ text
  pub right : IsGrammar grammar
  pub answer_is : answer ≡ rename_answer encoding grammar at new (rename_fault encoding grammar at new)
