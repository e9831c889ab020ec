use Rattle.ls_answers.proofs.WalkLaws.{reported_given}
use Rattle.ls_answers.proofs.semantic_tokens.reported.Goals as goal

pub returns : goal.returns
returns c = reported_given c.args.encoding c.args.grammar.now c.told.result c.told.ensures.grammar c.told.ensures.told
