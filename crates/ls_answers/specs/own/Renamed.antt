-- What is answered to the rename of a name, whatever its place. Only a contract of a private function speaks of it.
use Rattle.std.specs.Prelude.{ℕ, List, map, Option, Some, None}
use Rattle.ls_text.specs.declared.position.Encoding.{Encoding}
use Rattle.abnf_parts.specs.Names.{Name}
use Rattle.abnf_names.specs.Places.{places_of_name}
use Rattle.abnf_names.specs.Rules.{Grammar}
use Rattle.ls_answers.specs.Places.{name_range}
use Rattle.ls_answers.specs.declared.answer.Answer.{Answer}
use Rattle.ls_answers.specs.declared.answer.Answer.TheVariants as answer
use Rattle.ls_answers.specs.declared.answer.RenameFault.{RenameFault}

-- the refusal, or else each place of the name with the new text
abbrev pub answer_for_name : Encoding → Grammar → Name → List ℕ → Option RenameFault → Answer
answer_for_name encoding g old new (Some fault) = answer.Refused fault
answer_for_name encoding g old new None = answer.Edits (map (name_range encoding g.text) (places_of_name old g.places)) new
