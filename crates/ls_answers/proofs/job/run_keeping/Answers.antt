use Rattle.std.proofs.Common.{rules}
use Rattle.std.specs.Prelude.{All, IfOk}
use Rattle.std.specs.Arc.{arc_value}
use Rattle.std.specs.Char.{IsScalar}
use Rattle.ls_answers.specs.Answers.{IsAnswer}
use Rattle.ls_answers.proofs.Documents.{result_keeps}
use Rattle.ls_answers.proofs.job.run_keeping.Goals as goal

pub invariant_of-result : goal.invariant_of-result
invariant_of-result c = c.answer_of-answer.ensures.answer

pub returns-clause-keeps : goal.returns-clause-keeps
returns-clause-keeps c =
    let scalars : All IsScalar (arc_value c.args.job.snapshot) = search rules in
    let right : IfOk c.answer_of-answer.result (λ answer. IsAnswer c.args.job.encoding (arc_value c.args.job.snapshot) c.args.job.ask answer) = c.answer_of-answer.ensures.answer in
    result_keeps c.args.job.encoding (arc_value c.args.job.snapshot) c.args.job.ask c.answer_of-answer.result scalars right
