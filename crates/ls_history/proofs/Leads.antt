-- What a call of the desk is for the history.
use Rattle.std.proofs.Common.{◌≡◌, ◌+◌, ◌≤◌, length, arith, length-append, ◌∙◌, ◌++◌, ◌∷◌, [], IfOk, IfErr, subst, ℕ, List, Option, Some, Result, Ok, Err, refl, ap, sym, inl, inr, true}
use Rattle.ls_machine.specs.Machine.{start, step}
use Rattle.ls_machine.specs.Counts.{counted_with, no_events, total}
use Rattle.ls_machine.specs.Journal as journal
use Rattle.ls_machine.specs.Journal.{IsLegalFrom, IsPast, replay_from}
use Rattle.ls_machine.proofs.Replays.{past_legal, past_length, past_state, total_counted}
use Rattle.ls_machine.specs.declared.base.Base.{Base}
use Rattle.ls_machine.specs.declared.base.Counts.{Counts}
use Rattle.ls_machine.specs.declared.client.ClientAnswer.{ClientAnswer}
use Rattle.ls_machine.specs.declared.client.ClientEvent.{ClientEvent}
use Rattle.ls_machine.specs.declared.client.ClientEvent.TheVariants.{DidOpen, DidChange, DidClose, Request, Cancel, Say}
use Rattle.ls_machine.specs.declared.event.DeskFault.{DeskFault}
use Rattle.ls_machine.specs.declared.event.Event.{Event}
use Rattle.ls_machine.specs.declared.event.Event.TheVariants.{Sent, Took}
use Rattle.ls_machine.specs.declared.event.Out.{Out}
use Rattle.ls_machine.specs.declared.state.State.{State}
use Rattle.ls_answers.specs.declared.job.Job.{Job}
use Rattle.ls_desk.specs.Door.{Admits, client_fault, entered_at}
use Rattle.ls_desk.specs.Faults.{Refuses, Takes}
use Rattle.ls_desk.specs.Stands.{Enters, IsSound, Seen, Sends, counts_of, state_of, ticket_of_out}
use Rattle.ls_history.specs.declared.history_entry.HistoryEntry.{HistoryEntry}
use Rattle.ls_history.specs.declared.history_entry.HistoryEntry.TheVariants.{Began, Heard, Left, Stopped, Worked}
use Rattle.ls_history.specs.History.{HasLedTo, IsDesk, IsHistoryOf, IsReply, IsRoomy, IsNextEntry, LeadsOn, MayHappen, is_workers, replay_entries}
use Rattle.ls_history.specs.Places.{Place, beginning, desk_at, place_behind, happens, place_of_desk}
use Rattle.ls_history.specs.Laws.{HistoriesBegin, HistoriesGoOn, IsDone}
use Rattle.ls_history.proofs.Histories.{led_more, legal_more}

abbrev place : Option ℕ → State → Counts → Place
place limit state counts = record { limit = limit; state = state; counts = counts }

place_is : (limit limit' : Option ℕ) (state state' : State) (counts counts' : Counts) → limit ≡ limit' → state ≡ state' → counts ≡ counts' → place limit state counts ≡ place limit' state' counts'
place_is limit limit' state state' counts counts' l s c =
    ap (λ (x : Option ℕ). place x state counts) l ∙ (ap (λ (x : State). place limit' x counts) s ∙ ap (λ (x : Counts). place limit' state' x) c)

-- where a desk stands that an event has entered
entered_is : (old new : Seen) (e : Event) → Enters old new e → place_of_desk new ≡ place_behind (place_of_desk old) (Some e)
entered_is old new e enters = place_is (Some new.max_events) (Some old.max_events) _ _ _ _ (ap (λ (n : ℕ). Some n) enters.most) enters.state enters.counts

-- what is against an event is so by where the desk stands
fault_same : (d : Seen) (e : ClientEvent) → client_fault (desk_at (place_of_desk d)) e ≡ client_fault d e
unfolding replay_from counted_with
fault_same d (DidOpen uri label text encoding) = refl
fault_same d (DidChange uri label edits) = refl
fault_same d (DidClose uri) = refl
fault_same d (Request id uri question links) = refl
fault_same d (Cancel id) = refl
fault_same d (Say body) = refl

-- what a call of `enter` answers
abbrev pub Replies : ClientEvent → Result ClientAnswer DeskFault → Seen → Seen → Type 0
Replies e (Ok answer) old new = Admits e answer old new
Replies e (Err fault) old new = Refuses (client_fault old e) old new fault

pub reply_led : (e : ClientEvent) (reply : Result ClientAnswer DeskFault) (old new : Seen) → Replies e reply old new → place_of_desk new ≡ happens (place_of_desk old) (Heard e reply)
reply_led e (Ok answer) old new admits = entered_is old new (entered_at (state_of old) e) admits.accepts.enters ∙ sym (ap (place_behind (place_of_desk old)) admits.answer_is)
reply_led e (Err fault) old new refuses = ap place_of_desk refuses.same

pub reply_may : (e : ClientEvent) (reply : Result ClientAnswer DeskFault) (old new : Seen) → Replies e reply old new → IsReply (place_of_desk old) e reply
reply_may e (Ok answer) old new admits = (fault_same old e ∙ admits.accepts.none, admits.accepts.enters.possible, admits.answer_is)
reply_may e (Err fault) old new refuses = elim refuses.cause [ inl here ↦ inr (fault_same old e ∙ here) | inr short ↦ inl short.1 ]

-- what a call of `enter` ensures
replies_from : (e : ClientEvent) (reply : Result ClientAnswer DeskFault) (old new : Seen) → IfOk reply (λ answer. Admits e answer old new)
    → IfErr reply (λ fault. Refuses (client_fault old e) old new fault) → Replies e reply old new
replies_from e (Ok answer) old new ok err = ok
replies_from e (Err fault) old new ok err = err

heard_goes : (e told : ClientEvent) (reply : Result ClientAnswer DeskFault) (old new : Seen) → e ≡ told → IfOk reply (λ answer. Admits e answer old new)
    → IfErr reply (λ fault. Refuses (client_fault old e) old new fault) → place_of_desk new ≡ happens (place_of_desk old) (Heard told reply)
heard_goes e told reply old new same ok err =
    reply_led e reply old new (replies_from e reply old new ok err) ∙ ap (λ (x : ClientEvent). happens (place_of_desk old) (Heard x reply)) same

-- ---- room

legal_bound : (most n : ℕ) (s : State) (es : List Event) → n + length s.unsent ≤ most → IsLegalFrom most n s es → n + length es + length (replay_from s es).unsent ≤ most
unfolding replay_from IsLegalFrom
legal_bound most n s [] fits legal = omega (arith, fits)
legal_bound most n s (e ∷ es) fits legal = let more = legal_bound most (n + 1) (step s e) es legal.1 legal.2 in omega (arith, more)

pub sound_roomy : (d : Seen) → IsSound d → IsRoomy (place_of_desk d)
sound_roomy d sound =
    let past = sound.past.0 in
    let whole : journal.IsLegal d.max_events (past ++ d.journal) = past_legal d.max_events d.base past d.journal sound.past.1 sound.legal in
    let bound = legal_bound d.max_events 0 start (past ++ d.journal) (omega arith) whole in
    let same = ap (λ (s : State). length s.unsent) (past_state d.max_events d.base past d.journal sound.past.1) in
    omega (arith, bound, same, past_length d.max_events d.base past sound.past.1, total_counted d.base.counts d.journal, length-append past d.journal)

-- what may happen where a desk stands may happen behind the history that led there
pub may_more : (before : Place) (after : Seen) (log : List HistoryEntry) (h : HistoryEntry) → before ≡ replay_entries beginning log → place_of_desk after ≡ happens before h → IsNextEntry before h → IsSound after
    → MayHappen (replay_entries beginning log) h
may_more before after log h led goes may sound =
    (subst (λ (p : Place). IsNextEntry p h) led may, subst IsRoomy (goes ∙ ap (λ (p : Place). happens p h) led) (sound_roomy after sound))

pub sends_led : (old new : Seen) (out : Out) → Sends old new out → place_of_desk new ≡ happens (place_of_desk old) (Left out)
sends_led old new out sends = entered_is old new (Sent (ticket_of_out out)) sends.enters

pub sends_may : (old new : Seen) (out : Out) → Sends old new out → IsNextEntry (place_of_desk old) (Left out)
sends_may old new out sends = (sends.enters.possible, sends.stands_for)

pub takes_led : (worker : ℕ) (old new : Seen) (o : Option Job) (job : Job) → o ≡ Some job → Takes worker old new o → place_of_desk new ≡ happens (place_of_desk old) (Worked (Took worker))
takes_led worker old new o job is takes = entered_is old new (Took worker) (subst (λ (p : Option Job). Takes worker old new p) is takes).3.enters

pub takes_may : (worker : ℕ) (old new : Seen) (o : Option Job) (job : Job) → o ≡ Some job → Takes worker old new o → IsNextEntry (place_of_desk old) (Worked (Took worker))
takes_may worker old new o job is takes = ((subst (λ (p : Option Job). Takes worker old new p) is takes).3.enters.possible, refl)

-- the same of any event that isn't the client's
pub worked_led : (old new : Seen) (event : Event) → Enters old new event → place_of_desk new ≡ happens (place_of_desk old) (Worked event)
worked_led = entered_is

pub worked_may : (old new : Seen) (event : Event) → Enters old new event → is_workers event ≡ true → IsNextEntry (place_of_desk old) (Worked event)
worked_may old new event enters is = (enters.possible, is)

-- where a desk stands on which nothing has happened
no_past : (most : ℕ) (past : List Event) (base : Base) → past ≡ [] → IsPast most base past → base.state ≡ start
unfolding replay_from
no_past most past base none past_is =
    sym (past_state most base past [] past_is) ∙ ap (λ (es : List Event). replay_from start (es ++ [])) none

none_of : (es : List Event) → length es ≡ 0 → es ≡ []
none_of [] is = refl
none_of (e ∷ es) is = absurd (omega arith)

state_on : (d : Seen) → d.journal ≡ [] → state_of d ≡ d.base.state
unfolding replay_from
state_on d none = ap (λ (es : List Event). replay_from d.base.state es) none

counts_on : (d : Seen) → d.journal ≡ [] → counts_of d ≡ d.base.counts
unfolding counted_with
counts_on d none = ap (λ (es : List Event). counted_with d.base.counts es) none

pub begins_led : (d : Seen) → d.journal ≡ [] → counts_of d ≡ no_events → IsSound d → place_of_desk d ≡ happens beginning (Began d.max_events)
begins_led d journal counts sound =
    let past = sound.past.0 in
    let base_none : d.base.counts ≡ no_events = sym (counts_on d journal) ∙ counts in
    let none : past ≡ [] = none_of past (sym (past_length d.max_events d.base past sound.past.1) ∙ ap total base_none) in
    let state : state_of d ≡ start = state_on d journal ∙ no_past d.max_events past d.base none sound.past.1 in
    place_is (Some d.max_events) (Some d.max_events) (state_of d) start (counts_of d) no_events refl state counts

-- ---- a history with one entry more

pub more_may : (old new : Seen) (log : List HistoryEntry) (h : HistoryEntry) → HasLedTo old log → place_of_desk new ≡ happens (place_of_desk old) h → IsNextEntry (place_of_desk old) h → IsSound new → MayHappen (replay_entries beginning log) h
more_may old new log h led goes next sound = may_more (place_of_desk old) new log h led goes next sound

pub more_led : (old new : Seen) (log more : List HistoryEntry) (h : HistoryEntry) → HasLedTo old log → more ≡ log ++ h ∷ [] → place_of_desk new ≡ happens (place_of_desk old) h → HasLedTo new more
more_led old new log more h led added goes = led_more (place_of_desk old) (place_of_desk new) log more h led added goes

heard_next : (e told : ClientEvent) (reply : Result ClientAnswer DeskFault) (old new : Seen) → e ≡ told → IfOk reply (λ answer. Admits e answer old new)
    → IfErr reply (λ fault. Refuses (client_fault old e) old new fault) → IsNextEntry (place_of_desk old) (Heard told reply)
heard_next e told reply old new same ok err =
    subst (λ (x : ClientEvent). IsReply (place_of_desk old) x reply) same (reply_may e reply old new (replies_from e reply old new ok err))

pub heard_may : (e told : ClientEvent) (reply : Result ClientAnswer DeskFault) (old new : Seen) (log : List HistoryEntry) → e ≡ told → HasLedTo old log
    → IfOk reply (λ answer. Admits e answer old new) → IfErr reply (λ fault. Refuses (client_fault old e) old new fault) → IsSound new → MayHappen (replay_entries beginning log) (Heard told reply)
heard_may e told reply old new log same led ok err sound =
    more_may old new log (Heard told reply) led (heard_goes e told reply old new same ok err) (heard_next e told reply old new same ok err) sound

pub heard_led : (e told : ClientEvent) (reply : Result ClientAnswer DeskFault) (old new : Seen) (log more : List HistoryEntry) → e ≡ told → HasLedTo old log
    → IfOk reply (λ answer. Admits e answer old new) → IfErr reply (λ fault. Refuses (client_fault old e) old new fault) → more ≡ log ++ Heard told reply ∷ [] → HasLedTo new more
heard_led e told reply old new log more same led ok err added =
    more_led old new log more (Heard told reply) led added (heard_goes e told reply old new same ok err)

-- ---- what a desk did

done_led : (old new : Seen) (h : HistoryEntry) → IsDone h old new → place_of_desk new ≡ happens (place_of_desk old) h
done_led old new (Began most) done = absurd done
done_led old new (Heard e (Ok answer)) done = reply_led e (Ok answer) old new done
done_led old new (Heard e (Err fault)) done = elim done [ inl refuses ↦ reply_led e (Err fault) old new refuses | inr short ↦ ap place_of_desk short.1 ]
done_led old new (Left out) done = sends_led old new out done
done_led old new (Worked event) done = worked_led old new event done.0
done_led old new (Stopped stop) done = ap place_of_desk done

done_next : (old new : Seen) (h : HistoryEntry) → IsDone h old new → IsNextEntry (place_of_desk old) h
done_next old new (Began most) done = absurd done
done_next old new (Heard e (Ok answer)) done = reply_may e (Ok answer) old new done
done_next old new (Heard e (Err fault)) done = elim done [ inl refuses ↦ reply_may e (Err fault) old new refuses | inr short ↦ inl short.0 ]
done_next old new (Left out) done = sends_may old new out done
done_next old new (Worked event) done = worked_may old new event done.0 done.1
done_next old new (Stopped stop) done = tt

-- so the history may have an entry more of it
pub done_leads : (old new : Seen) (log : List HistoryEntry) (h : HistoryEntry) → HasLedTo old log → IsDone h old new → LeadsOn log h new
done_leads old new log h led done = record {
  next = subst (λ (p : Place). IsNextEntry p h) led (done_next old new h done);
  led = done_led old new h done ∙ ap (λ (p : Place). happens p h) led;
}

-- which is legal, and leads to where the desk stands
pub leads_may : (log : List HistoryEntry) (h : HistoryEntry) (d : Seen) → LeadsOn log h d → IsSound d → MayHappen (replay_entries beginning log) h
leads_may log h d leads sound = may_more (replay_entries beginning log) d log h refl leads.led leads.next sound

pub leads_led : (log new : List HistoryEntry) (h : HistoryEntry) (d : Seen) → LeadsOn log h d → new ≡ log ++ h ∷ [] → HasLedTo d new
leads_led log new h d leads added = led_more (replay_entries beginning log) (place_of_desk d) log new h refl added leads.led

pub begins_leads : (d : Seen) (log : List HistoryEntry) → log ≡ [] → d.journal ≡ [] → IsDesk d → LeadsOn log (Began d.max_events) d
begins_leads d log none journal is =
    let led = begins_led d journal (is.none journal) is.sound in
    subst (λ (l : List HistoryEntry). LeadsOn l (Began d.max_events) d) (sym none) (record { next = refl; led = led })

-- what a desk answered or refused
pub reply_done : (e : ClientEvent) (reply : Result ClientAnswer DeskFault) (old new : Seen) → IfOk reply (λ answer. Admits e answer old new)
    → IfErr reply (λ fault. Refuses (client_fault old e) old new fault) → IsDone (Heard e reply) old new
reply_done e (Ok answer) old new ok err = ok
reply_done e (Err fault) old new ok err = inl err

pub begins_history : (d : Seen) → IsSound d → d.journal ≡ [] → counts_of d ≡ no_events → IsHistoryOf d (Began d.max_events ∷ [])
begins_history d sound journal counts =
    let led = begins_led d journal counts sound in
    record { legal = (may_more beginning d [] (Began d.max_events) refl led refl sound, tt); led = led }

pub histories_begin : HistoriesBegin
histories_begin = begins_history

pub histories_go_on : HistoriesGoOn
histories_go_on old new log h was sound done =
    let goes = done_led old new h done in
    record {
      legal = legal_more beginning log h was.legal (more_may old new log h was.led goes (done_next old new h done) sound);
      led = more_led old new log (log ++ h ∷ []) h was.led refl goes;
    }
