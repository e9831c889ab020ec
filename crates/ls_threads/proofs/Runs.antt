-- Runs that ended well.
use Rattle.std.proofs.Common.{◌≡◌, ◌∙◌, List, [], ◌∷◌, Some, refl, sym, ap, subst}
use Rattle.ls_machine.specs.declared.event.Out.{Out}
use Rattle.ls_machine.specs.declared.state.OutboxEntry.{OutboxEntry}
use Rattle.ls_desk.specs.Stands.{AreOutsFor, state_of}
use Rattle.ls_history.specs.Laws.{IsJournal}
use Rattle.ls_history.specs.Places.{Place}
use Rattle.ls_history.proofs.Journals.{histories_journals}
use Rattle.ls_threads.proofs.Answered.{history_answers}
use Rattle.ls_threads.specs.Laws.{RequestsAreAnsweredOnce, RunsAreJournals}

pub runs_journals : RunsAreJournals
runs_journals journal events status input left old new served =
    let desk = served.desk in
    let led = served.history.led in
    let limit = sym (ap (λ (p : Place). p.limit) led) ∙ ap Some served.limits.events_is in
    subst (IsJournal events served.log) (sym led) (histories_journals events served.log served.history.legal limit)

none_unsent : (es : List OutboxEntry) (outs : List Out) → outs ≡ [] → AreOutsFor es outs → es ≡ []
unfolding AreOutsFor
none_unsent [] outs q h = refl
none_unsent (e ∷ es) [] q h = absurd h
none_unsent (e ∷ es) (o ∷ outs) q h = absurd (cc)

pub requests_once : RequestsAreAnsweredOnce
requests_once journal events status input left old new served waiting =
    let desk = served.desk in
    let led = served.history.led in
    let limit = sym (ap (λ (p : Place). p.limit) led) in
    let unsent = none_unsent (state_of desk).unsent desk.outbox served.settled.sent served.sound.outs in
    history_answers desk.max_events served.log served.history.legal limit (sym (ap (λ (p : Place). p.state.waiting) led) ∙ waiting)
    (sym (ap (λ (p : Place). p.state.unsent) led) ∙ unsent)
