use Rattle.std.proofs.Common.{◌≤◌, length}
use Rattle.ls_machine.specs.Client.{client_event}
use Rattle.ls_workers.proofs.Beside.{Rest}
use Rattle.ls_workers.proofs.agree.same_events.Given as goal

abbrev pub invariant-loop-at : goal.invariant-loop-at
invariant-loop-at l = record { rest : Rest client_event l.journal l.list l.at l.count; within : l.count ≤ length l.list }
