use Rattle.std.proofs.Common.{◌≡◌, [], rules, sym}
use Rattle.ls_workers.proofs.Compared.{entry_goes, entry_missing, other_goes}
use Rattle.ls_workers.proofs.ended.Ended.compare_last.Goals as goal

pub returns-in_default-client_event : goal.returns-in_default-client_event
returns-in_default-client_event c =
    let now = c.args.self.now in
    other_goes now.journal.items c.pop.new.self.items now.list.items c.in-Some.last c.in-Some.ensures.items (sym c.in_default-client_event.ensures)

pub returns-in_default-pop : goal.returns-in_default-pop
returns-in_default-pop c =
    let now = c.args.self.now in
    let none : now.list.items ≡ [] = search rules in
    entry_missing now.journal.items c.pop.new.self.items now.list.items c.pop-2.new.self.items c.in-Some.last c.in-Some-client_event.event.now c.in-Some.ensures.items (sym c.in-Some-client_event.ensures) none

pub returns : goal.returns
returns c =
    let now = c.args.self.now in
    entry_goes now.journal.items c.pop.new.self.items now.list.items c.pop-2.new.self.items c.in-Some.last c.in-Some-client_event.event.now c.in-Some-pop.entry c.same_event.result
    c.in-Some.ensures.items (sym c.in-Some-client_event.ensures) c.in-Some-pop.ensures.items c.same_event.ensures
