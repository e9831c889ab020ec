use Rattle.std.proofs.Common.{◌∙◌, ℕ, List, subst, sym}
use Rattle.ls_history.specs.declared.history_entry.HistoryEntry.{HistoryEntry}
use Rattle.ls_history.specs.History.{IsLegalHistory}
use Rattle.ls_history.specs.Told.{LieBeside}
use Rattle.ls_history.proofs.Histories.{beside_heard, beside_outs}
use Rattle.ls_workers.specs.Seats.{AgreesAll, HasAgreed, logged_by}
use Rattle.ls_workers.proofs.board_state.BoardState.closed.Goals as goal

pub returns-then-strays-clause-err : goal.returns-then-strays-clause-err
returns-then-strays-clause-err g c =
    let audit_log = c.args.client.audit_log in
    subst (λ (tickets : List ℕ). HasAgreed (logged_by audit_log) × AgreesAll c.audited-desk.result.0 (logged_by audit_log) c.args.writer.checkpoints tickets → ⊥) c.deref.ensures.value
    (c.strays.ensures.some c.if-strays.true)

pub returns-clause-history : goal.returns-clause-history
returns-clause-history g c =
    let log = c.audited-desk.result.1 in
    let client = c.args.client in
    let writer = c.args.writer in (
      log,
      record { legal = subst IsLegalHistory c.front-front.ensures c.legal.ensures; led = c.audited-desk.ensures.led },
      beside_heard client.front log (subst (λ (log : List HistoryEntry). LieBeside client.front log) c.front-front.ensures c.beside.ensures) (sym c.audited-desk.ensures.heard ∙ client.all_heard),
      beside_outs writer.front log (subst (λ (log : List HistoryEntry). LieBeside writer.front log) c.front-front.ensures c.beside-2.ensures) (sym c.audited-desk.ensures.sent ∙ writer.all_left),
    )
