use Rattle.std.proofs.Common.{rules}
use Rattle.std.specs.Prelude.{All}
use Rattle.std.specs.Char.{IsScalar}
use Rattle.ls_answers.specs.Answers.{IsAnswer}
use Rattle.ls_answers.proofs.Documents.{document_keeps}
use Rattle.ls_answers.proofs.job.Done.answer.Goals as goal

pub returns-in-Ok-clause-keeps : goal.returns-in-Ok-clause-keeps
returns-in-Ok-clause-keeps c =
    let scalars : All IsScalar c.args.self.now.text = search rules in
    let right : IsAnswer c.args.self.now.encoding c.args.self.now.text c.args.self.now.ask c.in-Ok.answer = search rules in
    document_keeps c.args.self.now.encoding c.args.self.now.text c.args.self.now.ask c.in-Ok.answer scalars right
