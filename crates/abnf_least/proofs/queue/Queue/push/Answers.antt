use Rattle.abnf_least.proofs.Rows.{joins_heap, joins_row}
use Rattle.abnf_least.proofs.queue.Queue.push.Goals as goal

pub returns-then-takes : goal.returns-then-takes
returns-then-takes c = joins_row c.push.result c.args.self.now c.self.inside.row c.push.new.self c.self.inside.heap c.args.candidate c.self.view_is c.push.ensures

pub returns-else-takes : goal.returns-else-takes
returns-else-takes c =
    joins_heap c.push-else-takes.result c.args.self.now c.self.inside.row c.self.inside.heap c.push-else-takes.new.self c.args.candidate c.self.view_is c.push-else-takes.ensures

pub push-requires : goal.push-requires
push-requires c = c.takes.ensures.0 c.if-takes.true
