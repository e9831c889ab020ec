use Rattle.std.proofs.Common.{◌≤◌, List, length, subst, arith}
use Rattle.std.proofs.lemmas.Bool.Decides.{nat_tests}
use mathlib.Core.List.{IsPrefix}
use Rattle.ls_history.specs.declared.history_entry.HistoryEntry.{HistoryEntry}
use Rattle.ls_history.proofs.Fronts.{shorter_begins}
use Rattle.ls_history.proofs.book.Front.follow.Goals as goal

pub returns-then-is_within-clause-grows : goal.returns-then-is_within-clause-grows
returns-then-is_within-clause-grows g c =
    let all = c.history.inside.front in
    let within : length c.loop.self ≤ length all = grind (arith, nat_tests) in
    let grows = subst (λ (log : List HistoryEntry). IsPrefix log all) c.loop.invariant (shorter_begins c.loop.self all c.beside.ensures within) in
    subst (λ (log : List HistoryEntry). IsPrefix c.args.self.now log) c.history.view_is grows
