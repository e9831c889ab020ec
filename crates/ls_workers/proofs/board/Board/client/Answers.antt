use Rattle.std.proofs.Common.{◌∙◌, ap, sym}
use Rattle.ls_history.specs.History.{replay_entries}
use Rattle.ls_history.specs.Places.{beginning}
use Rattle.ls_workers.specs.Seats.{logged_by}
use Rattle.ls_workers.proofs.Logging.{is_logged, knows_refused}
use Rattle.ls_workers.proofs.board.Board.client.Goals as goal

pub returns-clause-logged : goal.returns-clause-logged
returns-clause-logged g c =
    let was = c.deref_mut.result.now in
    let new = c.client-result.new.self in
    let seat = c.client-result.new.seat in
    let said = c.client-result.ensures in
    is_logged c.args.event c.client-result.result g.C.Crew.max_journal g.C.Crew.max_events was.desk new.desk was.history seat.front (logged_by c.args.seat.now.audit_log) (logged_by c.prepare_note-note.new.self) (logged_by seat.audit_log)
    said.added was.led (new.led ∙ sym (ap (replay_entries beginning) said.all)) was.limits c.prepare_note-note.ensures.kept said.logged

pub returns-clause-err : goal.returns-clause-err
returns-clause-err g c =
    knows_refused c.client-result.result _ (logged_by c.args.seat.now.audit_log) (logged_by c.prepare_note-note.new.self) (logged_by c.client-result.new.seat.audit_log) c.prepare_note-note.ensures.kept c.client-result.ensures.err
