use Rattle.ls_answers.proofs.HoverLaws.{hover_some, hover_none}
use Rattle.ls_answers.proofs.hovers.hover.Goals as goal

pub returns-in_ok-hover_of_name-in-Some : goal.returns-in_ok-hover_of_name-in-Some
returns-in_ok-hover_of_name-in-Some c = hover_some c.args.encoding c.args.grammar.now c.args.at c.source-snapshot.result.now c.offset_of.result (c.in-Some.place, c.in-Some.name.0.now) c.range_of-range.result c.in_ok-hover_of_name-in-Some.field-0
    c.source-snapshot.ensures.grammar c.source-snapshot.ensures.text c.offset_of.ensures
    c.in-Some.ensures c.range_of-range.ensures.range c.in_ok-hover_of_name-in-Some.ensures

pub returns-in-None : goal.returns-in-None
returns-in-None c = hover_none c.args.encoding c.args.grammar.now c.args.at c.source-snapshot.result.now c.offset_of.result
    c.source-snapshot.ensures.grammar c.source-snapshot.ensures.text c.offset_of.ensures c.in-None.ensures
