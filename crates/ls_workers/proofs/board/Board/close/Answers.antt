use Rattle.std.proofs.Common.{rules}
use Rattle.ls_workers.proofs.board.Board.close.Goals as goal

pub returns-clause-err : goal.returns-clause-err
returns-clause-err g c =
    let client = c.audit_seats.ensures.client in
    let writer = c.audit_seats.ensures.writer in (
      search rules,
      (rw (client.0, c.audit_seats.ensures.sent) at c.in-Err.ensures.counted, c.in-Err.ensures.limited),
      rw (client.1, writer.0, writer.1) at c.in-Err.ensures.err,
    )
