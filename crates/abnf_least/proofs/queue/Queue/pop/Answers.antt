use Rattle.std.proofs.Common.{sym, ◌∙◌}
use Rattle.abnf_least.proofs.Rows.{ahead, behind, leaves_heap, leaves_row}
use Rattle.abnf_least.proofs.queue.Queue.pop.Goals as goal

pub returns-then-comes_before-clause-some : goal.returns-then-comes_before-clause-some
returns-then-comes_before-clause-some c =
    leaves_heap c.pop-then-comes_before.result c.args.self.now c.self.inside.row c.self.inside.heap c.pop-then-comes_before.new.self c.in-Some-first.other c.self.view_is c.in-Some-first.ensures.some.0
    (ahead c.self.inside.row c.in-Some.first c.in-Some-first.other c.in-Some.ensures.some (sym c.comes_before.ensures ∙ c.if-comes_before.true)) c.pop-then-comes_before.ensures.some

pub returns-else-comes_before-clause-some : goal.returns-else-comes_before-clause-some
returns-else-comes_before-clause-some c =
    leaves_row c.pop-else-comes_before.result c.args.self.now c.self.inside.row c.pop-else-comes_before.new.self c.self.inside.heap c.in-Some.first c.self.view_is c.in-Some.ensures.some
    (behind c.self.inside.heap c.in-Some.first c.in-Some-first.other c.in-Some-first.ensures.some (sym c.comes_before.ensures ∙ c.if-comes_before.false)) c.pop-else-comes_before.ensures.some
