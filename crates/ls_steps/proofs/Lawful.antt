-- What every step of a session keeps: its events are legal, and its texts short. So the text of each entry was current when it was asked.
use Rattle.std.proofs.Common.{◌≡◌, ℕ, ℤ, ◌+◌, ◌≤◌, Bool, true, false, not, ◌&&◌, cond, List, [], ◌∷◌, ◌++◌, length, Option, Some, None, refl, sym, ap, subst, ◌∙◌, length-append, arith}
use Rattle.std.specs.Prelude.{find, is_none, is_some, nat_le, nat_lt, slice_get, if◌then◌else◌}
use Rattle.std.specs.Str.{chars, encode_utf8_all}
use Rattle.std.proofs.lemmas.Bool.{not-false, leb-false, ltb-false}
use Rattle.ls_text.specs.Lines.{max_bytes}
use Rattle.ls_text.specs.Positions.{Measured}
use Rattle.ls_rpc.specs.Message.{message_of}
use Rattle.ls_rpc.specs.declared.message.Id.{Id}
use Rattle.ls_answers.specs.Told.{Told}
use Rattle.ls_answers.specs.declared.answer.Answer.{Answer}
use Rattle.ls_answers.specs.declared.ask.Ask.{Ask}
use Rattle.ls_machine.specs.declared.base.Base.{Base}
use Rattle.ls_machine.specs.declared.event.Event.{Event}
use Rattle.ls_machine.specs.declared.event.Event.TheVariants.{Finished, Said, Sent, Took}
use Rattle.ls_machine.specs.declared.event.DeskFault.{DeskFault}
use Rattle.ls_machine.specs.declared.event.DeskFault.TheVariants as fault
use Rattle.ls_machine.specs.declared.state.Document.{Document}
use Rattle.ls_machine.specs.declared.state.OutboxEntry.{OutboxEntry}
use Rattle.ls_machine.specs.declared.state.OutboxEntry.TheVariants.{Body}
use Rattle.ls_machine.specs.declared.state.State.{State}
use Rattle.ls_machine.specs.declared.state.Waiting.{Waiting}
use Rattle.ls_machine.specs.Counts.{counted_with, is_client, total}
use Rattle.ls_machine.specs.Journal.{replay_from, IsLegalFrom, IsPast}
use Rattle.ls_machine.specs.Laws.{WasEntryCurrent, WereEntriesCurrent}
use Rattle.ls_machine.specs.Machine.{IsPossible, step, ask_at, asks_with, close_text, document_of, edited_at, ends, id_waits, is_held, is_open, is_queued, first_ticket, left_at, put_text, request_cancelled, requests, rest, ticket_of, told_if_found}
use Rattle.ls_machine.proofs.Ordered.{ordered}
use Rattle.ls_machine.proofs.Replays.{counted_push, legal_none, legal_push, past_first, past_legal, past_more, past_state, replay_push, total_counted, total_one}
use Rattle.ls_machine.specs.declared.client.ClientEvent.{ClientEvent}
use Rattle.ls_machine.specs.declared.client.ClientEvent.TheVariants.{DidOpen, DidChange, DidClose, Request, Cancel, Say}
use Rattle.ls_machine.specs.Client.{asker_of}
use Rattle.ls_machine.specs.Same.{is_for}
use Rattle.ls_desk.specs.Anew.{base_after, journal_after}
use Rattle.ls_desk.specs.Faults.{finish_fault, full_fault, is_session_full, or_else, take_fault}
use Rattle.ls_desk.specs.Stands.{Seen, WasCurrentAt, counts_of, is_long, state_of}
use Rattle.ls_session.specs.Session.{turn_of}
use Rattle.ls_session.specs.declared.turn.Turn.{Turn}
use Rattle.ls_session.specs.declared.turn.Turn.TheVariants.{Nothing, Event as Happens, Exit}
use Rattle.ls_desk.specs.Door.{client_fault, entered_at}
use Rattle.ls_session.specs.Bodies.{refusal_to}
use Rattle.ls_steps.specs.Runs.{Act, Going, Held, IsSent, Left, Runs, Steps, begun, break_off, desk_of, entered, finish_job, finished_by, hear, heard, is_filled, met, on_turn, ran, left_by_refusal, runs, said_by, send, state_at, take_job, takes, tells, took}
use Rattle.ls_steps.proofs.Entered.{entered_state}
use Rattle.ls_machine.proofs.ShortTexts.{AreShort, IsFine, IsShortEvent, short_chars_of, short_step}

-- Some legal list of events led to the base, from there on the journal is legal, and there was room for all.
pub record IsLawful (most : ℕ) (base : Base) (journal : List Event) : Type 0 where
  pub past : (past : List Event) × IsPast most base past
  pub legal : IsLegalFrom most (total base.counts) base.state journal
  pub fits : total (counted_with base.counts journal) + length (replay_from base.state journal).unsent ≤ most

-- beside that the texts are short
pub record IsGood (most : ℕ) (base : Base) (journal : List Event) : Type 0 where
  pub lawful : IsLawful most base journal
  pub short : IsFine base.state journal

abbrev pub Good : Going → Type 0
Good g = IsGood g.max_events g.base g.journal

abbrev GoodAt : Seen → Type 0
GoodAt d = IsGood d.max_events d.base d.journal

abbrev GoodLeft : ℕ → Left → Type 0
GoodLeft most left = IsGood most left.base left.journal

-- ---- an event comes

lawful_pushed : (most : ℕ) (base : Base) (journal : List Event) (e : Event) → IsLawful most base journal → IsPossible (replay_from base.state journal) e
    → total (counted_with base.counts journal) + 1 + length (step (replay_from base.state journal) e).unsent ≤ most → IsLawful most base (journal ++ e ∷ [])
lawful_pushed most base journal e law possible room =
    let count = total_counted base.counts journal in
    let one = ap total (counted_push base.counts journal e) ∙ total_one (counted_with base.counts journal) e in
    record {
      past = law.past;
      legal = legal_push most (total base.counts) base.state journal e law.legal possible (omega (arith, count, room));
      fits = subst (λ (s : State). total (counted_with base.counts (journal ++ e ∷ [])) + length s.unsent ≤ most) (sym (replay_push base.state journal e)) (omega (arith, one, room));
    }

-- the journal begins anew
lawful_anew : (most : ℕ) (base : Base) (journal : List Event) (n : ℕ) → IsLawful most base journal
    → IsLawful most (record { state = replay_from base.state journal; counts = counted_with base.counts journal; checkpoints = n }) []
unfolding counted_with replay_from
lawful_anew most base journal n law = record {
  past = (law.past.0 ++ journal, past_more most base law.past.0 journal n law.past.1 law.legal);
  legal = legal_none most (total (counted_with base.counts journal)) (replay_from base.state journal);
  fits = law.fits;
}

lawful_by : (d : Seen) (e : Event) (b c : Bool) → IsLawful d.max_events d.base d.journal → IsPossible (state_of d) e → total (counts_of d) + 1 + length (step (state_of d) e).unsent ≤ d.max_events
    → IsLawful d.max_events (base_after (cond b (cond c (Some (state_of d)) None) None) (counts_of d) d.base) (journal_after (cond b (cond c (Some (state_of d)) None) None) d.journal ++ e ∷ [])
unfolding counted_with replay_from
lawful_by d e false c law possible room = lawful_pushed d.max_events d.base d.journal e law possible room
lawful_by d e true false law possible room = lawful_pushed d.max_events d.base d.journal e law possible room
lawful_by d e true true law possible room =
    lawful_pushed d.max_events (record { state = state_of d; counts = counts_of d; checkpoints = d.base.checkpoints + 1 }) [] e
    (lawful_anew d.max_events d.base d.journal (d.base.checkpoints + 1) law) possible room

good_entered : (d : Seen) (e : Event) → GoodAt d → IsPossible (state_of d) e → total (counts_of d) + 1 + length (step (state_of d) e).unsent ≤ d.max_events → IsShortEvent e
    → GoodLeft d.max_events (entered d e)
good_entered d e good possible room short = record {
  lawful = lawful_by d e (is_client e) (is_long d) good.lawful possible room;
  short = subst AreShort (sym (entered_state d e)) (short_step (state_of d) e good.short short);
}

-- ---- refusals

or_none : (b : Bool) (f : DeskFault) (next : Option DeskFault) → or_else b f next ≡ None → (b ≡ false) × (next ≡ None)
or_none true f next e = absurd (cc)
or_none false f next e = (refl, e)

room_for : (d : Seen) (need : ℕ) → full_fault d need ≡ None → total (counts_of d) + length (state_of d).unsent + need ≤ d.max_events
room_for d need e = ltb-false d.max_events (total (counts_of d) + length (state_of d).unsent + need) (or_none (is_session_full d need) fault.SessionFull None e).0

-- ---- a client's event

pub record Fits (d : Seen) (e : Event) : Type 0 where
  pub possible : IsPossible (state_of d) e
  pub room : total (counts_of d) + 1 + length (step (state_of d) e).unsent ≤ d.max_events
  pub short : IsShortEvent e

unsent_put : (s : State) (uri : List ℕ) (label : ℤ) (o : Option Measured) → (put_text s uri label o).unsent ≡ s.unsent
unsent_put s uri label None = refl
unsent_put s uri label (Some m) = refl

unsent_asked : (s : State) (id : Id) (o : Option Document) (ask : Ask) (links : Bool) → (ask_at s id o ask links).unsent ≡ s.unsent
unsent_asked s id None ask links = refl
unsent_asked s id (Some document) ask links = refl

fits_entry : (d : Seen) (event : ClientEvent) → client_fault d event ≡ None → Fits d (entered_at (state_of d) event)
unfolding IsPossible step
fits_entry d (DidOpen uri label text encoding) e =
    let s = state_of d in
    let shut = or_none (is_open uri s.documents) fault.AlreadyOpen _ e in
    let many = or_none (nat_le 256 (length s.documents)) fault.TooManyDocuments _ shut.1 in
    let large = or_none (nat_lt max_bytes (length (encode_utf8_all (chars text)))) fault.TooLarge _ many.1 in
    record {
      possible = (shut.0, leb-false 256 (length s.documents) many.0, large.0, refl);
      room = omega (arith, room_for d 1 large.1);
      short = short_chars_of (chars text) large.0;
    }
fits_entry d (DidChange uri label edits) e =
    let s = state_of d in
    let shut = or_none (not (is_open uri s.documents)) fault.NotOpen _ e in
    let unsent = ap length (unsent_put (close_text s uri) uri label (edited_at (document_of uri s.documents) edits)) ∙ length-append s.unsent (ends uri s.waiting) in
    record {
      possible = (not-false (is_open uri s.documents) shut.0, refl);
      room = omega (arith, unsent, room_for d (1 + length (ends uri s.waiting)) shut.1);
      short = tt;
    }
fits_entry d (DidClose uri) e =
    let s = state_of d in
    let shut = or_none (not (is_open uri s.documents)) fault.NotOpen _ e in
    record {
      possible = not-false (is_open uri s.documents) shut.0;
      room = omega (arith, length-append s.unsent (ends uri s.waiting), room_for d (1 + length (ends uri s.waiting)) shut.1);
      short = tt;
    }
fits_entry d (Request id uri ask links) e =
    let s = state_of d in
    let shut = or_none (not (is_open uri s.documents)) fault.NotOpen _ e in
    let many = or_none (nat_le 1024 (requests s.waiting)) fault.TooManyWaiting _ shut.1 in
    let used = or_none (id_waits id s.waiting) fault.IdInUse _ many.1 in
    record {
      possible = (not-false (is_open uri s.documents) shut.0, leb-false 1024 (requests s.waiting) many.0, used.0, refl);
      room = omega (arith, ap length (unsent_asked s id (document_of uri s.documents) ask links), room_for d 1 used.1);
      short = tt;
    }
fits_entry d (Cancel id) e =
    let s = state_of d in
    let told = told_if_found request_cancelled (find (asks_with id) s.waiting) in
    record { possible = refl; room = omega (arith, length-append s.unsent told, room_for d (1 + length told) e); short = tt }
fits_entry d (Say body) e =
    let s = state_of d in
    record { possible = tt; room = omega (arith, length-append s.unsent (Body body ∷ []), room_for d 2 e); short = tt }

good_said : (d : Seen) (body : List ℕ) (o : Option DeskFault) → full_fault d 2 ≡ o → GoodAt d → GoodLeft d.max_events (said_by d body o)
good_said d body None e good =
    let fits = fits_entry d (Say body) e in good_entered d (Said body) good fits.possible fits.room tt
good_said d body (Some f) e good = good

good_told : (d : Seen) (o : Option (List ℕ)) → GoodAt d → GoodLeft d.max_events (tells d o)
good_told d None good = good
good_told d (Some body) good = good_said d body (full_fault d 2) refl good

good_refused : (d : Seen) (id : Option Id) (f : DeskFault) → GoodAt d → GoodLeft d.max_events (left_by_refusal d id f)
good_refused d id fault.SessionFull good = good
good_refused d id fault.NotOpen good = good_told d (refusal_to id fault.NotOpen) good
good_refused d id fault.AlreadyOpen good = good_told d (refusal_to id fault.AlreadyOpen) good
good_refused d id fault.TooManyDocuments good = good_told d (refusal_to id fault.TooManyDocuments) good
good_refused d id fault.TooManyWaiting good = good_told d (refusal_to id fault.TooManyWaiting) good
good_refused d id fault.IdInUse good = good_told d (refusal_to id fault.IdInUse) good
good_refused d id fault.TooLarge good = good_told d (refusal_to id fault.TooLarge) good
good_refused d id fault.UnknownTicket good = good_told d (refusal_to id fault.UnknownTicket) good
good_refused d id fault.OtherText good = good_told d (refusal_to id fault.OtherText) good
good_refused d id fault.Memory good = good_told d (refusal_to id fault.Memory) good

good_met : (d : Seen) (event : ClientEvent) (o : Option DeskFault) → client_fault d event ≡ o → GoodAt d → GoodLeft d.max_events (met d event o)
good_met d event None e good =
    let fits = fits_entry d event e in good_entered d (entered_at (state_of d) event) good fits.possible fits.room fits.short
good_met d event (Some f) e good = good_refused d (asker_of event) f good

good_turn : (g : Going) (turn : Turn) → Good g → Good (on_turn g turn)
good_turn g Nothing good = good
good_turn g (Happens event) good = good_met (desk_of g) event (client_fault (desk_of g) event) refl good
good_turn g (Exit status) good = good

-- ---- jobs

some_found : (ws : Option Waiting) (w : Waiting) → ws ≡ Some w → is_some ws ≡ true
some_found ws w e = ap is_some e

none_full : (a b : Bool) → a ≡ true → a && b ≡ false → b ≡ false
none_full true b e f = f
none_full false b e f = absurd (cc)

good_took : (g : Going) (w : Waiting) (o : Option DeskFault) → find is_queued (state_at g).waiting ≡ Some w → take_fault (desk_of g) ≡ o → Good g → Good (took g w o)
unfolding IsPossible step
good_took g w None found e good =
    let d = desk_of g in
    let queued = some_found (find is_queued (state_at g).waiting) w found in
    let free = none_full (is_some (find is_queued (state_of d).waiting)) (is_session_full d 1) queued (or_none (is_some (find is_queued (state_of d).waiting) && is_session_full d 1) fault.SessionFull None e).0 in
    let room = ltb-false d.max_events (total (counts_of d) + length (state_of d).unsent + 1) free in
    good_entered d (Took 0) good queued (omega (arith, room)) tt
good_took g w (Some f) found e good = good

good_takes : (g : Going) (o : Option Waiting) → find is_queued (state_at g).waiting ≡ o → Good g → Good (takes g o)
good_takes g None found good = good
good_takes g (Some w) found good = good_took g w (take_fault (desk_of g)) found refl good

none-some : (o : Option Waiting) → is_none o ≡ false → is_some o ≡ true
none-some None e = absurd (cc)
none-some (Some w) e = refl

good_finished : (d : Seen) (done : Told) (o : Option DeskFault) → finish_fault d done ≡ o → GoodAt d → GoodLeft d.max_events (finished_by d done o)
unfolding IsPossible step
good_finished d done None e good =
    let s = state_of d in
    let w = find (is_held done.ticket) s.waiting in
    let held = or_none (is_none w) fault.UnknownTicket _ e in
    let same = or_none (not (is_for w done)) fault.OtherText _ held.1 in
    let left = left_at (is_none done.answer) w in
    good_entered d (Finished done.ticket (is_none done.answer)) good (none-some w held.0)
    (omega (arith, length-append s.unsent left, room_for d (1 + length left) same.1)) tt
good_finished d done (Some fault.SessionFull) e good = good
good_finished d done (Some fault.NotOpen) e good = good
good_finished d done (Some fault.AlreadyOpen) e good = good
good_finished d done (Some fault.TooManyDocuments) e good = good
good_finished d done (Some fault.TooManyWaiting) e good = good
good_finished d done (Some fault.IdInUse) e good = good
good_finished d done (Some fault.TooLarge) e good = good
good_finished d done (Some fault.UnknownTicket) e good = good
good_finished d done (Some fault.OtherText) e good = good
good_finished d done (Some fault.Memory) e good = good

good_runs : (g : Going) (k : ℕ) (answer : Option Answer) (o : Option Held) → Good g → Good (runs g k answer o)
good_runs g k answer None good = good
good_runs g k answer (Some job) good = good_finished (desk_of g) (ran job answer) (finish_fault (desk_of g) (ran job answer)) refl good

-- ---- what leaves

good_sent : (g h : Going) (es : List OutboxEntry) (bytes : List ℕ) → (state_at g).unsent ≡ es → IsSent g es h bytes → Good g → Good h
unfolding IsPossible step
good_sent g h [] bytes u s good = subst Good (sym s.0) good
good_sent g h (e ∷ es) bytes u s good =
    let room = good.lawful.fits in
    let left = ap (λ xs. length (rest xs)) u in
    subst Good (sym s.0)
    (good_entered (desk_of g) (Sent (ticket_of e)) good (ap first_ticket u) (omega (arith, room, ap length u, left)) tt)

-- ---- acts

good_if : (b : Bool) (g k : Going) → Good g → Good k → Good (if b then g else k)
good_if true g k p q = p
good_if false g k p q = q

pub good_step : (f : Bool) (g h : Going) (act : Act) (bytes : List ℕ) → Steps f g act h bytes → Good g → Good h
unfolding Steps
good_step f g h (hear body) bytes s good =
    let turn = turn_of g.stage (message_of body) in
    subst Good (sym s.0) (good_if (is_some g.status) g (heard g body) good (good_turn (record g { stage = turn.1 }) turn.0 good))
good_step f g h (break_off x) bytes s good = subst Good (sym s.0) (good_if (is_some g.status) g _ good good)
good_step f g h take_job bytes s good =
    subst Good (sym s.0) (good_if (is_filled g.status) g _ good (good_takes g (find is_queued (state_at g).waiting) refl good))
good_step f g h (finish_job k) bytes s good =
    subst Good (sym s.2) (good_if (is_filled g.status) g _ good (good_runs g k s.0 (slice_get g.held k) good))
good_step f g h send bytes s good = good_sent g h (state_at g).unsent bytes refl s good

pub good_run : (f : Bool) (g h : Going) (acts : List Act) (bytes : List ℕ) → Runs f g acts h bytes → Good g → Good h
unfolding Runs
good_run f g h [] bytes r good = subst Good (sym r.0) good
good_run f g h (act ∷ acts) bytes r good = good_run f r.0 h acts r.2 r.3.1 (good_step f g r.0 act r.1 r.3.0 good)

pub good_begun : Good begun
unfolding counted_with replay_from
good_begun = record {
  lawful = record { past = ([], past_first 18446744073709551614); legal = legal_none 18446744073709551614 0 begun.base.state; fits = omega arith };
  short = record { documents = tt; waiting = tt; unsent = tt };
}

-- ---- what was current

current_in : (most : ℕ) (base : Base) (journal past : List Event) → IsPast most base past → IsLegalFrom most (total base.counts) base.state journal
    → WereEntriesCurrent (past ++ journal) (replay_from base.state journal).unsent
current_in most base journal past is legal =
    subst (λ (s : State). WereEntriesCurrent (past ++ journal) s.unsent) (past_state most base past journal is) (ordered most (past ++ journal) (past_legal most base past journal is legal)).unsent

first_of : (journal : List Event) (e : OutboxEntry) (es : List OutboxEntry) → WereEntriesCurrent journal (e ∷ es) → WasEntryCurrent journal e
unfolding WereEntriesCurrent
first_of journal e es h = h.0

-- the text of the first entry was current when it was asked
pub first_current : (d : Seen) (e : OutboxEntry) (es : List OutboxEntry) → IsLawful d.max_events d.base d.journal → (state_of d).unsent ≡ e ∷ es → WasCurrentAt d e
first_current d e es law u =
    let past = law.past in
    (past.0, past.1, first_of (past.0 ++ d.journal) e es (subst (WereEntriesCurrent (past.0 ++ d.journal)) u (current_in d.max_events d.base d.journal past.0 past.1 law.legal)))
