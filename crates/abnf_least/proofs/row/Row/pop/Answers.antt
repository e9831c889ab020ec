use Rattle.std.proofs.Common.{IfSome, List, subst}
use Rattle.abnf_least.specs.declared.candidate.Candidate.{Candidate}
use Rattle.abnf_least.specs.own.Queue.{LeavesQueue}
use Rattle.abnf_least.proofs.Rows.{row_left}
use Rattle.abnf_least.proofs.row.Row.pop.Goals as goal

pub returns-clause-some : goal.returns-clause-some
returns-clause-some c =
    subst (λ (old : List Candidate). IfSome c.pop_front.result (λ x. LeavesQueue old x c.pop_front.new.self.items)) c.self.view_is
    (row_left c.self.inside.candidates.items c.pop_front.new.self.items c.pop_front.result c.self.invariant c.pop_front.ensures.items)
