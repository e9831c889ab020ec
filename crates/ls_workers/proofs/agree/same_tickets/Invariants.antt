use Rattle.std.proofs.Common.{◌≤◌, length}
use Rattle.ls_machine.specs.Client.{sent_ticket}
use Rattle.ls_workers.proofs.Beside.{Rest}
use Rattle.ls_workers.proofs.agree.same_tickets.Given as goal

abbrev pub invariant-loop-at : goal.invariant-loop-at
invariant-loop-at l = record { rest : Rest sent_ticket l.journal l.tickets l.at l.count; within : l.count ≤ length l.tickets }
