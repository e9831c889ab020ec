use Rattle.ls_answers.proofs.InsertionLaws.{at_some}
use Rattle.ls_answers.proofs.insertion.insertion.Goals as goal

pub returns-in-Some : goal.returns-in-Some
returns-in-Some c =
    at_some c.args.encoding c.args.grammar.now c.args.range c.source.result.now c.start_of.result (c.in-Some.field-0-0, c.in-Some.name.0.now) c.insertion_of_name.result c.source.ensures.grammar c.source.ensures.text
    c.start_of.ensures c.in-Some.ensures c.insertion_of_name.ensures
