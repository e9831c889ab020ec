use Rattle.std.proofs.Common.{List, subst, sym}
use mathlib.Core.List.{IsPrefix}
use Rattle.ls_history.specs.declared.history_entry.HistoryEntry.{HistoryEntry}
use Rattle.ls_history.specs.History.{IsLegalHistory}
use Rattle.ls_history.specs.Places.{beginning}
use Rattle.ls_history.proofs.Histories.{legal_before}
use Rattle.ls_history.proofs.book.Front.legal.Goals as goal

pub returns : goal.returns
returns g c =
    let seen = c.args.self.now in
    let known = c.learn.new.self.log in
    let begins = subst (λ (log : List HistoryEntry). IsPrefix log known) c.self.view_is c.learn.ensures.3 in
    legal_before beginning seen begins.0 (subst IsLegalHistory (sym begins.1) c.learn.ensures.4.1.legal)
