use Rattle.std.proofs.Common.{◌≡◌, ◌++◌, ◌∷◌, [], ◌∙◌, List, ap, arith, subst, sym}
use Rattle.ls_machine.specs.Counts.{no_events}
use Rattle.ls_machine.specs.declared.base.Counts.{Counts}
use Rattle.ls_desk.specs.Stands.{IsSound, Seen, counts_of}
use Rattle.ls_history.specs.declared.history_entry.HistoryEntry.{HistoryEntry}
use Rattle.ls_history.specs.History.{AreSmall, IsDesk, MayHappen, replay_entries}
use Rattle.ls_history.specs.Places.{beginning}
use Rattle.ls_history.proofs.Leads.{leads_led, leads_may}
use Rattle.ls_history.proofs.book.History.add.Goals as goal

-- what the calls of a desk say of it
is_desk : (d : Seen) (counts : Counts) → IsSound d → counts ≡ counts_of d → (d.journal ≡ [] → counts ≡ no_events) → AreSmall counts → IsDesk d
is_desk d counts sound value none small = record { sound = sound; none = λ empty. sym value ∙ none empty; small = subst AreSmall value small }

pub add-requires-clause-possible : goal.add-requires-clause-possible
add-requires-clause-possible g c =
    let desk = c.args.desk.now in
    let counts = c.counts-counts.ensures in
    let small : AreSmall c.counts-counts.result = record { client = omega arith; took = omega arith; returned = omega arith; finished = omega arith; sent = omega arith } in
    let is = is_desk desk c.counts-counts.result c.journal-sound.ensures.sound counts.value counts.none small in
    let entry = g.M.Plain.ask c.args.about.now in
    let may = leads_may c.args.self.now entry desk (c.requires.leads is) is.sound in
    subst (λ (log : List HistoryEntry). MayHappen (replay_entries beginning log) entry) (sym c.self.view_is) may

pub returns-clause-led : goal.returns-clause-led
returns-clause-led g c =
    let desk = c.args.desk.now in
    let counts = c.counts-counts.ensures in
    let small : AreSmall c.counts-counts.result = record { client = omega arith; took = omega arith; returned = omega arith; finished = omega arith; sent = omega arith } in
    let is = is_desk desk c.counts-counts.result c.journal-sound.ensures.sound counts.value counts.none small in
    let entry = g.M.Plain.ask c.args.about.now in
    let added = c.add.ensures ∙ ap (λ (log : List HistoryEntry). log ++ entry ∷ []) c.self.view_is in
    leads_led c.args.self.now c.add.new.self entry desk (c.requires.leads is) added

pub returns-clause-desk : goal.returns-clause-desk
returns-clause-desk g c =
    let counts = c.counts-counts.ensures in
    let small : AreSmall c.counts-counts.result = record { client = omega arith; took = omega arith; returned = omega arith; finished = omega arith; sent = omega arith } in
    is_desk c.args.desk.now c.counts-counts.result c.journal-sound.ensures.sound counts.value counts.none small
