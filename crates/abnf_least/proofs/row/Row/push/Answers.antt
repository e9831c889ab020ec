use Rattle.std.proofs.Common.{List, subst, sym}
use Rattle.abnf_least.specs.declared.candidate.Candidate.{Candidate}
use Rattle.abnf_least.specs.own.Queue.{ComesLast, JoinsQueue}
use Rattle.abnf_least.proofs.Rows.{row_joins, row_more}
use Rattle.abnf_least.proofs.row.Row.push.Goals as goal

pub invariant_of-self-2 : goal.invariant_of-self-2
invariant_of-self-2 c =
    row_more c.self.inside.candidates.items c.push_back.new.self.items c.args.candidate c.self.invariant
    (subst (λ (all : List Candidate). ComesLast all c.args.candidate) (sym c.self.view_is) c.requires) c.in_ok-push_back.ensures.items

pub returns : goal.returns
returns c =
    subst (λ (all : List Candidate). JoinsQueue all c.args.candidate c.push_back.new.self.items) c.self.view_is
    (row_joins c.self.inside.candidates.items c.push_back.new.self.items c.args.candidate c.in_ok-push_back.ensures.items)
