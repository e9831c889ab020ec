-- What a rename that is granted keeps (LSP 3.17, "Rename Request"; RFC 5234, section 2).
use Rattle.std.specs.Prelude.{◌≡◌, ℕ, List, Some}
use Rattle.abnf_token.specs.Folded.{lowercase}
use Rattle.ls_text.specs.declared.position.Position.{Position}
use Rattle.ls_text.specs.declared.position.Range.{Range}
use Rattle.ls_text.specs.declared.position.Encoding.{Encoding}
use Rattle.abnf_names.specs.Places.{Named}
use Rattle.abnf_names.specs.Rules.{Grammar, IsGrammar}
use Rattle.abnf_rename.specs.Text.{KeepsTheGrammar}
use Rattle.ls_answers.specs.Places.{name_at}
use Rattle.ls_answers.specs.declared.ask.Ask.{Ask}
use Rattle.ls_answers.specs.declared.ask.Ask.TheVariants as ask
use Rattle.ls_answers.specs.declared.answer.Answer.{Answer}
use Rattle.ls_answers.specs.declared.answer.Answer.TheVariants as answer

-- Where the ranges are written anew, from the last to the first, the text has the same grammar but for the name that stands at the
-- position, which is the new one (`KeepsTheGrammar`): line by line the same tokens but at the places of that name, and of each grammar of
-- the text after the edits the same rules, which generate the same strings and reach opaque parts where they did.
pub record RenameKeeps (encoding : Encoding) (text : List ℕ) (at : Position) (new : List ℕ) (ranges : List Range) : Type 0 where
  pub grammar : Grammar
  pub of_text : grammar.text ≡ text
  pub right : IsGrammar grammar
  pub named : Named
  pub found : name_at encoding grammar at ≡ Some named
  pub keeps : KeepsTheGrammar encoding (lowercase named.text) new grammar ranges

-- This holds of the ranges and the text that are the answer to a rename in a grammar, and the text is the new one of the question. Of other
-- questions and of refusals nothing is said.
abbrev pub KeepsIfRenamedInGrammar : Encoding → List ℕ → Ask → Answer → Type 0
KeepsIfRenamedInGrammar encoding text (ask.Rename at new) (answer.Edits ranges given) = RenameKeeps encoding text at given ranges × (given ≡ new)
KeepsIfRenamedInGrammar encoding text _ _ = Unit {0}
