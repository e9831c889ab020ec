use Rattle.ls_answers.proofs.RenameLaws.{name_answered, nothing_there}
use Rattle.ls_answers.proofs.rename.rename.Goals as goal

pub returns-in-Some : goal.returns-in-Some
returns-in-Some c =
    name_answered c.args.encoding c.args.grammar.now c.args.at c.args.new.now c.source-snapshot.ensures.grammar c.requires c.source-snapshot.result.now c.offset_of.result (c.in-Some.field-0-0, c.in-Some.old.0.now) c.answer_for_name.result
    c.source-snapshot.ensures.text c.offset_of.ensures c.in-Some.ensures c.answer_for_name.ensures

pub returns-in-None : goal.returns-in-None
returns-in-None c =
    nothing_there c.args.encoding c.args.grammar.now c.args.at c.args.new.now c.source-snapshot.ensures.grammar c.requires c.source-snapshot.result.now c.offset_of.result c.source-snapshot.ensures.text c.offset_of.ensures c.in-None.ensures
