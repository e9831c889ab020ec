use Rattle.ls_answers.proofs.Definitions.{ranges_named, ranges_none}
use Rattle.ls_answers.proofs.places.ranges_at.Goals as goal

pub returns-in-Some : goal.returns-in-Some
returns-in-Some c =
    ranges_named c.args.encoding c.args.wanted c.args.at c.args.snapshot.now c.offset_of-offset.result c.in_ok-name.field-0 c.in-Some.field-0-0 c.in-Some.name c.ranges_of_name.result c.in_ok-name.ensures.name c.in-Some.is
    c.offset_of-offset.ensures c.ranges_of_name.ensures

pub returns-in-None : goal.returns-in-None
returns-in-None c =
    ranges_none c.args.encoding c.args.wanted c.args.at c.args.snapshot.now c.offset_of-offset.result c.in_ok-name.field-0 c.new.result c.in_ok-name.ensures.name c.in-None.is c.offset_of-offset.ensures c.new.ensures
