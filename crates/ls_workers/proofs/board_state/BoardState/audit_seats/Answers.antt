use Rattle.std.proofs.Common.{◌∙◌, List, subst, sym}
use Rattle.ls_history.specs.declared.history_entry.HistoryEntry.{HistoryEntry}
use Rattle.ls_history.specs.History.{IsLegalHistory}
use Rattle.ls_history.specs.Told.{LieBeside}
use Rattle.ls_history.proofs.Histories.{beside_heard, beside_outs}
use Rattle.ls_workers.proofs.board_state.BoardState.audit_seats.Goals as goal

pub returns-clause-history : goal.returns-clause-history
returns-clause-history g c =
    let state = c.args.self.now in
    let client = c.args.client.now in
    let writer = c.args.writer.now in (
      state.history,
      subst IsLegalHistory c.front-front.ensures c.legal.ensures,
      beside_heard client.front state.history (subst (λ (log : List HistoryEntry). LieBeside client.front log) c.front-front.ensures c.beside.ensures) (sym (c.audit.ensures.whole client.whole_heard ∙ state.hears) ∙ client.all_heard),
      beside_outs writer.front state.history (subst (λ (log : List HistoryEntry). LieBeside writer.front log) c.front-front.ensures c.beside-2.ensures) (sym (c.audit-2.ensures.whole writer.whole ∙ state.leaves) ∙ writer.all_left),
    )
