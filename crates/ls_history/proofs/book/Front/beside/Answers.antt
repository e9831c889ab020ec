use Rattle.std.proofs.Common.{◌∙◌, List, ap, subst}
use mathlib.Core.List.{IsPrefix}
use Rattle.ls_history.specs.declared.history_entry.HistoryEntry.{HistoryEntry}
use Rattle.ls_history.proofs.Fronts.{prefix_either}
use Rattle.ls_history.proofs.book.Front.beside.Goals as goal

pub returns : goal.returns
returns g c =
    let known = c.learn.new.self.log in
    let mine = subst (λ (log : List HistoryEntry). IsPrefix log known) (ap (λ s. s.log) c.again-known.ensures ∙ c.self.view_is) c.learn.ensures.2 in
    let others = subst (λ (log : List HistoryEntry). IsPrefix log known) c.other.view_is c.learn.ensures.3 in prefix_either c.args.self.now c.args.other.now known mine others
