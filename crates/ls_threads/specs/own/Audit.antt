-- What the audit of a run shows.
use Rattle.std.specs.Prelude.{◌≡◌, ℕ, List, Bool, true, false, Result}
use Rattle.ls_session.specs.declared.turn.Status.{Status}
use Rattle.ls_devices.specs.declared.fault.ServeFault.{ServeFault}
use Rattle.ls_desk.specs.Stands.{IsSound, Seen}
use Rattle.ls_workers.specs.Count.{Counts}
use Rattle.ls_workers.specs.Jobs.{HasLimits}
use Rattle.ls_workers.specs.Seats.{Agrees, HasCause, AuditLog, since}
use Rattle.ls_workers.specs.declared.board_state.SeatFault.{SeatFault}
use Rattle.ls_threads.specs.Ends.{has_failed, has_met_full_session, result_of}
use Rattle.ls_threads.specs.Settled.{is_settled}
use Rattle.ls_devices.specs.declared.reading.ReaderEnd.{ReaderEnd}
use Rattle.ls_threads.specs.declared.ending.Early.{Early}
use Rattle.ls_threads.specs.declared.ending.Worked.{Worked}
use Rattle.ls_threads.specs.declared.ending.Wrote.{Wrote}

-- what the threads of a run leave: how they ended, how many events of each kind their seats counted, what the client's seat knows, and what
-- the writer's was given since the last checkpoint that it has seen
pub record WhatThreadsLeft : Type 0 where
  pub heard : ReaderEnd Early
  pub wrote : Wrote
  pub worked : Worked
  pub client : ℕ
  pub took : ℕ
  pub returned : ℕ
  pub finished : ℕ
  pub sent : ℕ
  pub audit_log : AuditLog
  pub seen : ℕ
  pub tickets : List ℕ

-- by how the threads ended, how many events of each kind were counted, and what the client's seat and the writer's seat know
abbrev pub left_by_threads : ReaderEnd Early × Wrote × Worked → ℕ × ℕ × ℕ × ℕ × ℕ → AuditLog → ℕ × List ℕ → WhatThreadsLeft
left_by_threads (heard, wrote, worked) (client, took, returned, finished, sent) audit_log (seen, tickets) = record {
  heard = heard;
  wrote = wrote;
  worked = worked;
  client = client;
  took = took;
  returned = returned;
  finished = finished;
  sent = sent;
  audit_log = audit_log;
  seen = seen;
  tickets = tickets;
}

-- A desk had as many events of each kind as the seats counted, and has these limits.
abbrev pub HasCounts : ℕ → ℕ → WhatThreadsLeft → Seen → Type 0
HasCounts journal events left desk = Counts left.client left.took left.returned left.finished left.sent desk × HasLimits journal events desk

-- The desk stands for what its legal journal leads to. There were as many events of each kind as the seats counted. Since the last
-- checkpoint the client's events, with their answers, and the tickets that were sent are what the seats know.
pub record IsAudited (journal events : ℕ) (left : WhatThreadsLeft) (desk : Seen) : Type 0 where
  pub sound : IsSound desk
  pub counts : HasCounts journal events left desk
  pub agrees : Agrees desk.journal left.audit_log.list (since desk.base.checkpoints left.seen left.tickets)

-- What a run answers whose threads could all be made, and why: by how they ended (`result_of`), with the writer's end that of the rest of
-- the replies where the session was full; by whether the board could be closed with these seats, and if not, what the cause is; and by
-- whether its audited desk is as such ends leave it (`is_settled`).
pub record IsAnswered (AreOwn : Type 0) (journal events : ℕ) (left : WhatThreadsLeft) (failed : Bool) (answer : Result Status ServeFault) : Type 0 where
  pub wrote : Wrote
  pub audited : Bool
  pub settled : Bool
  pub answer_is : answer ≡ result_of left.heard wrote left.worked audited settled
  pub failed_is : failed ≡ has_failed wrote
  pub wrote_is : has_met_full_session left.heard left.worked ≡ false → wrote ≡ left.wrote
  pub cause : audited ≡ false → (fault : SeatFault) × HasCause AreOwn (HasCounts journal events left) left.audit_log left.seen left.tickets fault
  pub desk : audited ≡ true → (desk : Seen) × IsAudited journal events left desk × (is_settled events left.heard left.worked desk ≡ settled)
