use Rattle.ls_plain.proofs.Outputs.{some_output, one_output}
use Rattle.ls_plain.proofs.laws.inputs_have_one_output.Goals as goal

pub returns-clause-some : goal.returns-clause-some
returns-clause-some c = some_output

pub returns-clause-one : goal.returns-clause-one
returns-clause-one c = one_output
