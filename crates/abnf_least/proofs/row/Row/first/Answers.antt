use Rattle.std.proofs.Common.{List, subst}
use Rattle.abnf_least.specs.declared.candidate.Candidate.{Candidate}
use Rattle.abnf_least.specs.own.Queue.{IsFirstCandidate}
use Rattle.abnf_least.proofs.Rows.{row_first}
use Rattle.abnf_least.proofs.row.Row.first.Goals as goal

pub returns-in-Some-clause-some : goal.returns-in-Some-clause-some
returns-in-Some-clause-some c =
    subst (λ (all : List Candidate). IsFirstCandidate all c.in-Some.first.now) c.self.view_is
    (row_first c.self.inside.candidates.items c.in-Some.first.now c.self.invariant c.in-Some.ensures.item.3.0 c.in-Some.ensures.lookup)
