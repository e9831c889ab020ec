-- The events that each act enters.
use Rattle.std.proofs.Common.{◌≡◌, ℕ, Bool, true, false, cond, List, [], ◌∷◌, ◌++◌, Option, Some, None, refl, sym, ap, subst, ◌∙◌, append_assoc}
use Rattle.std.proofs.lemmas.List.{append-nil}
use Rattle.std.specs.Prelude.{find, is_some, slice_get, if◌then◌else◌}
use Rattle.ls_answers.specs.Told.{Told}
use Rattle.ls_answers.specs.declared.answer.Answer.{Answer}
use Rattle.ls_machine.specs.declared.base.Counts.{Counts}
use Rattle.ls_machine.specs.declared.event.Event.{Event}
use Rattle.ls_machine.specs.declared.event.Event.TheVariants.{Finished, Took, Said, Sent}
use Rattle.ls_machine.specs.declared.event.DeskFault.{DeskFault}
use Rattle.ls_machine.specs.declared.event.DeskFault.TheVariants as fault
use Rattle.ls_machine.specs.declared.state.OutboxEntry.{OutboxEntry}
use Rattle.ls_machine.specs.declared.state.State.{State}
use Rattle.ls_machine.specs.declared.state.Waiting.{Waiting}
use Rattle.ls_machine.specs.Counts.{counted_with, is_client, no_events}
use Rattle.ls_machine.specs.Journal.{replay, replay_from}
use Rattle.ls_machine.specs.Machine.{is_queued, start}
use Rattle.ls_machine.proofs.Replays.{counted_append, counted_none, replay_append, replay_none}
use Rattle.ls_desk.specs.Anew.{base_after, journal_after}
use Rattle.ls_desk.specs.Faults.{finish_fault, full_fault, take_fault}
use Rattle.ls_desk.specs.Stands.{Seen, counts_of, is_long, state_of}
use Rattle.ls_rpc.specs.Message.{message_of}
use Rattle.ls_rpc.specs.declared.message.Id.{Id}
use Rattle.ls_session.specs.Session.{turn_of}
use Rattle.ls_session.specs.declared.turn.Turn.{Turn}
use Rattle.ls_session.specs.declared.turn.Turn.TheVariants.{Nothing, Event as Happens, Exit}
use Rattle.ls_machine.specs.declared.client.ClientEvent.{ClientEvent}
use Rattle.ls_machine.specs.Client.{asker_of}
use Rattle.ls_desk.specs.Door.{client_fault, entered_at}
use Rattle.ls_session.specs.Bodies.{refusal_to}
use Rattle.ls_steps.specs.Runs.{Act, Going, Held, IsSent, Left, Runs, Steps, begun, break_off, desk_of, finish_job, finished_by, hear, heard, is_filled, met, on_turn, ran, left_by_refusal, runs, said_by, send, state_at, take_job, takes, tells, took}
use Rattle.ls_steps.specs.Comes.{ComesTo, EndWith, after, come}

-- a desk with what is left of its base and journal
abbrev with_left : Seen → Left → Seen
with_left d left = record d { base = left.base; journal = left.journal }

-- what is left follows by events
abbrev Follows : Seen → Seen → Type 0
Follows d k = (events : List Event) × (k ≡ come d events)

none_comes : (d : Seen) → Follows d d
unfolding come
none_comes d = ([], refl)

one_comes : (d : Seen) (e : Event) → Follows d (after d e)
unfolding come
one_comes d e = (e ∷ [], refl)

-- ---- a message

said_comes : (d : Seen) (body : List ℕ) (o : Option DeskFault) → Follows d (with_left d (said_by d body o))
said_comes d body None = one_comes d (Said body)
said_comes d body (Some f) = none_comes d

told_comes : (d : Seen) (o : Option (List ℕ)) → Follows d (with_left d (tells d o))
told_comes d None = none_comes d
told_comes d (Some body) = said_comes d body (full_fault d 2)

refused_comes : (d : Seen) (id : Option Id) (f : DeskFault) → Follows d (with_left d (left_by_refusal d id f))
refused_comes d id fault.SessionFull = none_comes d
refused_comes d id fault.NotOpen = told_comes d (refusal_to id fault.NotOpen)
refused_comes d id fault.AlreadyOpen = told_comes d (refusal_to id fault.AlreadyOpen)
refused_comes d id fault.TooManyDocuments = told_comes d (refusal_to id fault.TooManyDocuments)
refused_comes d id fault.TooManyWaiting = told_comes d (refusal_to id fault.TooManyWaiting)
refused_comes d id fault.IdInUse = told_comes d (refusal_to id fault.IdInUse)
refused_comes d id fault.TooLarge = told_comes d (refusal_to id fault.TooLarge)
refused_comes d id fault.UnknownTicket = told_comes d (refusal_to id fault.UnknownTicket)
refused_comes d id fault.OtherText = told_comes d (refusal_to id fault.OtherText)
refused_comes d id fault.Memory = told_comes d (refusal_to id fault.Memory)

met_comes : (d : Seen) (event : ClientEvent) (o : Option DeskFault) → Follows d (with_left d (met d event o))
met_comes d event None = one_comes d (entered_at (state_of d) event)
met_comes d event (Some f) = refused_comes d (asker_of event) f

turn_comes : (g : Going) (turn : Turn) → Follows (desk_of g) (desk_of (on_turn g turn))
turn_comes g Nothing = none_comes (desk_of g)
turn_comes g (Happens event) = met_comes (desk_of g) event (client_fault (desk_of g) event)
turn_comes g (Exit status) = none_comes (desk_of g)

-- ---- jobs

took_comes : (g : Going) (w : Waiting) (o : Option DeskFault) → Follows (desk_of g) (desk_of (took g w o))
took_comes g w None = one_comes (desk_of g) (Took 0)
took_comes g w (Some f) = none_comes (desk_of g)

takes_comes : (g : Going) (o : Option Waiting) → Follows (desk_of g) (desk_of (takes g o))
takes_comes g None = none_comes (desk_of g)
takes_comes g (Some w) = took_comes g w (take_fault (desk_of g))

finished_comes : (d : Seen) (done : Told) (o : Option DeskFault) → Follows d (with_left d (finished_by d done o))
finished_comes d done None = one_comes d (Finished done.ticket _)
finished_comes d done (Some fault.SessionFull) = none_comes d
finished_comes d done (Some fault.NotOpen) = none_comes d
finished_comes d done (Some fault.AlreadyOpen) = none_comes d
finished_comes d done (Some fault.TooManyDocuments) = none_comes d
finished_comes d done (Some fault.TooManyWaiting) = none_comes d
finished_comes d done (Some fault.IdInUse) = none_comes d
finished_comes d done (Some fault.TooLarge) = none_comes d
finished_comes d done (Some fault.UnknownTicket) = none_comes d
finished_comes d done (Some fault.OtherText) = none_comes d
finished_comes d done (Some fault.Memory) = none_comes d

runs_comes : (g : Going) (k : ℕ) (answer : Option Answer) (job : Option Held) → Follows (desk_of g) (desk_of (runs g k answer job))
runs_comes g k answer None = none_comes (desk_of g)
runs_comes g k answer (Some job) = finished_comes (desk_of g) (ran job answer) (finish_fault (desk_of g) (ran job answer))

-- ---- acts

if_comes : (d : Seen) (b : Bool) (g k : Going) → Follows d (desk_of g) → Follows d (desk_of k) → Follows d (desk_of (if b then g else k))
if_comes d true g k p q = p
if_comes d false g k p q = q

same_comes : (d : Seen) (g h : Going) → h ≡ g → Follows d (desk_of g) → Follows d (desk_of h)
same_comes d g h is p = subst (λ (x : Going). Follows d (desk_of x)) (sym is) p

sent_comes : (g h : Going) (es : List OutboxEntry) (bytes : List ℕ) → IsSent g es h bytes → Follows (desk_of g) (desk_of h)
sent_comes g h [] bytes s = same_comes (desk_of g) g h s.0 (none_comes (desk_of g))
sent_comes g h (e ∷ es) bytes s = same_comes (desk_of g) _ h s.0 (one_comes (desk_of g) (Sent _))

step_comes : (f : Bool) (g h : Going) (act : Act) (bytes : List ℕ) → Steps f g act h bytes → Follows (desk_of g) (desk_of h)
unfolding Steps
step_comes f g h (hear body) bytes s =
    let turn = turn_of g.stage (message_of body) in
    same_comes (desk_of g) _ h s.0 (if_comes (desk_of g) (is_some g.status) g (heard g body) (none_comes (desk_of g)) (turn_comes (record g { stage = turn.1 }) turn.0))
step_comes f g h (break_off fault) bytes s = same_comes (desk_of g) _ h s.0 (if_comes (desk_of g) (is_some g.status) g _ (none_comes (desk_of g)) (none_comes (desk_of g)))
step_comes f g h take_job bytes s =
    same_comes (desk_of g) _ h s.0 (if_comes (desk_of g) (is_filled g.status) g _ (none_comes (desk_of g)) (takes_comes g (find is_queued (state_at g).waiting)))
step_comes f g h (finish_job k) bytes s =
    same_comes (desk_of g) _ h s.2 (if_comes (desk_of g) (is_filled g.status) g _ (none_comes (desk_of g)) (runs_comes g k s.0 (slice_get g.held k)))
step_comes f g h send bytes s = sent_comes g h (state_at g).unsent bytes s

come_append : (d : Seen) (es fs : List Event) → come d (es ++ fs) ≡ come (come d es) fs
unfolding come
come_append d [] fs = refl
come_append d (e ∷ es) fs = come_append (after d e) es fs

run_comes : (f : Bool) (g h : Going) (acts : List Act) (bytes : List ℕ) → Runs f g acts h bytes → Follows (desk_of g) (desk_of h)
unfolding Runs
run_comes f g h [] bytes r = same_comes (desk_of g) g h r.0 (none_comes (desk_of g))
run_comes f g h (act ∷ acts) bytes r =
    let first = step_comes f g r.0 act r.1 r.3.0 in
    let rest = run_comes f r.0 h acts r.2 r.3.1 in
    (first.0 ++ rest.0, rest.1 ∙ (ap (λ (d : Seen). come d rest.0) first.1 ∙ sym (come_append (desk_of g) first.0 rest.0)))

-- ---- what the events end with

end_by : (events : List Event) (d : Seen) (e : Event) (b c : Bool) → EndWith events d
    → EndWith (events ++ e ∷ []) (record d { base = base_after (cond b (cond c (Some (state_of d)) None) None) (counts_of d) d.base; journal = journal_after (cond b (cond c (Some (state_of d)) None) None) d.journal ++ e ∷ [] })
end_by events d e false c end = record {
  past = end.past;
  events_are = ap (λ (es : List Event). es ++ e ∷ []) end.events_are ∙ append_assoc end.past d.journal (e ∷ []);
  state_is = end.state_is;
  counts_are = end.counts_are;
}
end_by events d e true false end = record {
  past = end.past;
  events_are = ap (λ (es : List Event). es ++ e ∷ []) end.events_are ∙ append_assoc end.past d.journal (e ∷ []);
  state_is = end.state_is;
  counts_are = end.counts_are;
}
end_by events d e true true end = record {
  past = events;
  events_are = refl;
  state_is = ap replay end.events_are ∙ (replay_append start end.past d.journal ∙ ap (λ (s : State). replay_from s d.journal) end.state_is);
  counts_are = ap (counted_with no_events) end.events_are ∙ (counted_append no_events end.past d.journal ∙ ap (λ (c : Counts). counted_with c d.journal) end.counts_are);
}

end_after : (events : List Event) (d : Seen) (e : Event) → EndWith events d → EndWith (events ++ e ∷ []) (after d e)
end_after events d e end = end_by events d e (is_client e) (is_long d) end

end_come : (events : List Event) (d : Seen) (es : List Event) → EndWith events d → EndWith (events ++ es) (come d es)
unfolding come
end_come events d [] end = subst (λ (l : List Event). EndWith l d) (sym (append-nil events)) end
end_come events d (e ∷ es) end =
    subst (λ (l : List Event). EndWith l (come (after d e) es)) (append_assoc events (e ∷ []) es) (end_come (events ++ e ∷ []) (after d e) es (end_after events d e end))

pub run_events : (f : Bool) (acts : List Act) (h : Going) (bytes : List ℕ) → Runs f begun acts h bytes → (events : List Event) × ComesTo begun events h × EndWith events (desk_of h)
run_events f acts h bytes r =
    let all = run_comes f begun h acts bytes r in
    let start_end : EndWith [] (desk_of begun) = record { past = []; events_are = refl; state_is = replay_none start; counts_are = counted_none no_events } in
    (all.0, all.1, subst (λ (d : Seen). EndWith all.0 d) (sym all.1) (end_come [] (desk_of begun) all.0 start_end))
