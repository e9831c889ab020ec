use Rattle.ls_frame.proofs.Fills.{too_short, long_enough, open_quiet}
use Rattle.ls_frame.proofs.front.front_of.Goals as goal

pub returns-in-Open : goal.returns-in-Open
returns-in-Open c = open_quiet c.args.bytes.now c.in-Open.ensures

pub returns-then-bytes-end : goal.returns-then-bytes-end
returns-then-bytes-end c = too_short c.args.bytes.now c.in-Whole.header c.in-Whole.content c.in-Whole.ensures c.if-bytes-end.true

pub returns-else-bytes-end : goal.returns-else-bytes-end
returns-else-bytes-end c = long_enough c.args.bytes.now c.in-Whole.header c.in-Whole.content c.in-Whole.ensures c.if-bytes-end.false
