-- A rename to what is no name.
use Rattle.std.proofs.Common.{◌≡◌, ℕ, ◌<◌, ◌^◌, false, List, length, refl}
use Rattle.abnf_token.specs.Classes.{is_name}
use Rattle.ls_text.specs.declared.position.Encoding.{Encoding}
use Rattle.ls_text.specs.declared.position.Position.{Position}
use Rattle.abnf_names.proofs.Exist.{some_grammar}
use Rattle.abnf_names.specs.Rules.{Grammar}
use Rattle.ls_answers.specs.Renames.{IsRename, rename_answer, rename_fault}
use Rattle.ls_answers.specs.declared.answer.Answer.TheVariants as answer
use Rattle.ls_answers.specs.declared.answer.RenameFault.TheVariants.{NotAName}

refused : (encoding : Encoding) (g : Grammar) (at : Position) (new : List ℕ) → is_name new ≡ false → answer.Refused NotAName ≡ rename_answer encoding g at new (rename_fault encoding g at new)
refused encoding g at new other = rw other refl

-- It is refused as that, in whatever text.
pub no_name : (encoding : Encoding) (text : List ℕ) (at : Position) (new : List ℕ) → length text < 2 ^ 62 → is_name new ≡ false → IsRename encoding text at new (answer.Refused NotAName)
no_name encoding text at new small other =
    let g = some_grammar text small in
    record { grammar = g.0; of_text = g.1; right = g.2; answer_is = refused encoding g.0 at new other }
