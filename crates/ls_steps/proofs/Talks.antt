-- What each method of a session does, from what the calls in it ensure.
use Rattle.std.proofs.Common.{◌≡◌, ◌<◌, ◌≤◌, arith, ℕ, zero, suc, List, [], ◌∷◌, ◌++◌, length, map, take, drop, get_or, Bool, true, false, Option, Some, None, option_map, inl, inr, refl, sym, ap, subst, ◌∙◌}
use Rattle.std.specs.Prelude.{◌≢◌, ◌⊎◌, ◌&&◌, find, is_some, remove, slice_get, if◌then◌else◌}
use Rattle.std.proofs.lemmas.List.{drop-map, map-append, take-map}
use Rattle.std.proofs.lemmas.Option.{slice_get-map, slice_get_read}
use Rattle.std.specs.Arc.{arc_value}
use Rattle.ls_frame.specs.Frames.{frame_of}
use Rattle.ls_rpc.specs.Message.{message_of}
use Rattle.ls_answers.specs.Asks.{IsToNoName}
use Rattle.ls_answers.specs.Told.{Told}
use Rattle.ls_answers.specs.declared.answer.Answer.{Answer}
use Rattle.ls_answers.specs.declared.answer.Answer.TheVariants.{Hover}
use Rattle.ls_answers.specs.declared.job.Job.{Job}
use Rattle.ls_machine.specs.declared.event.Event.TheVariants.{Sent}
use Rattle.ls_machine.specs.declared.event.Out.{Out}
use Rattle.ls_machine.specs.declared.event.DeskFault.{DeskFault}
use Rattle.ls_machine.specs.declared.event.DeskFault.TheVariants as fault
use Rattle.ls_machine.specs.declared.state.OutboxEntry.{OutboxEntry}
use Rattle.ls_machine.specs.declared.state.Waiting.{Waiting}
use Rattle.ls_machine.specs.Counts.{first}
use Rattle.ls_machine.specs.Journal.{IsCutAt, IsLegalFrom, replay_from}
use Rattle.ls_machine.proofs.Replays.{past_first}
use Rattle.ls_machine.specs.Machine.{IsPossible, first_ticket, is_queued, ticket_of}
use Rattle.ls_desk.specs.Stands.{AreOutsFor, IsSound, Seen, Sends, state_of, ticket_of_out}
use Rattle.ls_desk.specs.Faults.{IsFirstCause, IsJobOf, Refuses, Takes, is_session_full, or_else, take_fault}
use Rattle.ls_session.specs.Bodies.{body_of}
use Rattle.ls_session.specs.Session.{turn_of}
use Rattle.ls_machine.specs.declared.client.ClientEvent.{ClientEvent}
use Rattle.ls_machine.specs.declared.client.ClientEvent.TheVariants as event
use Rattle.ls_session.specs.declared.turn.Status.{Status}
use Rattle.ls_session.specs.declared.turn.Status.TheVariants.{Full}
use Rattle.ls_session.specs.declared.turn.Turn.{Turn}
use Rattle.ls_session.specs.declared.turn.Turn.TheVariants.{Event as Happens}
use Rattle.ls_session.specs.declared.session.Stage.{Stage}
use Rattle.ls_steps.specs.Runs.{Going, Held, IsSent, NeedsNoMemory, Steps, desk_of, finish_job, finishes, hear, held_as, held_of, is_filled, leaving, meets, ran, runs, send, state_at, status_by, take_job, takes, took, turned}
use Rattle.ls_steps.specs.own.Leaves.{IsLeft}

-- ---- desks

sound_start : (longest most : ℕ) → IsSound (record { base = first; journal = []; outbox = []; max_journal = longest; max_events = most; ended = [] })
unfolding IsLegalFrom IsCutAt replay_from AreOutsFor
sound_start longest most = record { past = ([], past_first most); first_is = λ h. refl; legal = tt; cut = tt; outs = tt }

outs_none : (es : List OutboxEntry) → AreOutsFor es [] → es ≡ []
unfolding AreOutsFor
outs_none [] h = refl
outs_none (e ∷ es) h = absurd h

pub nothing_unsent : (d : Seen) → IsSound d → d.outbox ≡ [] → (state_of d).unsent ≡ []
nothing_unsent d s e = outs_none _ (let P : List Out → Type 0 = λ os. AreOutsFor (state_of d).unsent os in subst P e s.outs)

-- a session over this desk
abbrev pub over : Stage → Seen → List Held → Option Status → Going
over stage d held status = record { stage = stage; base = d.base; journal = d.journal; max_journal = d.max_journal; max_events = d.max_events; held = held; status = status }

-- ---- hear

unheard : (g : Going) (body : List ℕ) → is_some g.status ≡ true → Steps true g (hear body) g []
unfolding Steps
unheard g body e = (let P : Bool → Type 0 = λ b. g ≡ (if b then g else turned g (turn_of g.stage (message_of body))) in subst P (sym e) refl, refl)

heard_turn : (g h : Going) (body : List ℕ) (turn : Turn × Stage) → is_some g.status ≡ false → turn ≡ turn_of g.stage (message_of body) → h ≡ turned g turn → Steps true g (hear body) h []
unfolding Steps
heard_turn g h body turn e t s = (
  (let P : Bool → Type 0 = λ b. h ≡ (if b then g else turned g (turn_of g.stage (message_of body))) in subst P (sym e) (s ∙ ap (turned g) t)),
  refl,
)

-- what the desk does doesn't depend on what is said
meets_alike : (d : Seen) (e : ClientEvent) → meets (record { base = d.base; journal = d.journal; outbox = []; max_journal = d.max_journal; max_events = d.max_events; ended = [] }) e ≡ meets d e
meets_alike d (event.DidOpen uri label text encoding) = refl
meets_alike d (event.DidChange uri label edits) = refl
meets_alike d (event.DidClose uri) = refl
meets_alike d (event.Request id uri ask links) = refl
meets_alike d (event.Cancel id) = refl
meets_alike d (event.Say body) = refl

heard_event : (stage later : Stage) (d new : Seen) (held : List Held) (status : Option Status) (body : List ℕ) (e : ClientEvent) (full : Bool)
    → is_some status ≡ false → (Happens e, later) ≡ turn_of stage (message_of body) → IsLeft (meets d e) full d new
    → Steps true (over stage d held status) (hear body) (over later new held (status_by status full)) []
heard_event stage later d new held status body e full none turn left =
    heard_turn (over stage d held status) (over later new held (status_by status full)) body (Happens e, later) none turn
    (λ i. record {
      stage = later;
      base = (left.base ∙ sym (ap (λ l. l.base) (meets_alike d e))) i;
      journal = (left.journal ∙ sym (ap (λ l. l.journal) (meets_alike d e))) i;
      max_journal = left.most_journal i;
      max_events = left.most i;
      held = held;
      status = (ap (status_by status) (left.full_is ∙ sym (ap (λ l. l.full) (meets_alike d e)))) i;
    })

-- ---- take

untaken : (g : Going) → is_filled g.status ≡ true → Steps true g take_job g []
unfolding Steps
untaken g e = (let P : Bool → Type 0 = λ b. g ≡ (if b then g else takes g (find is_queued (state_at g).waiting)) in subst P (sym e) refl, refl)

takes_then : (g h : Going) → is_filled g.status ≡ false → h ≡ takes g (find is_queued (state_at g).waiting) → Steps true g take_job h []
unfolding Steps
takes_then g h e t = (let P : Bool → Type 0 = λ b. h ≡ (if b then g else takes g (find is_queued (state_at g).waiting)) in subst P (sym e) t, refl)

takes_none : (stage : Stage) (d new : Seen) (held : List Held) (status : Option Status) → is_filled status ≡ false
    → Takes 0 d new None → Steps true (over stage d held status) take_job (over stage new held status) []
takes_none stage d new held status e t =
    takes_then (over stage d held status) (over stage new held status) e
    (ap (λ (s : Seen). over stage s held status) t.1 ∙ sym (ap (takes (over stage d held status)) t.0))

job_held : (w : Waiting) (job : Job) → IsJobOf w job → held_as job ≡ held_of w
job_held w job j = λ i. record { ticket = j.ticket i; text = j.text i; encoding = j.encoding i; ask = j.ask i }

takes_one : (stage : Stage) (d new : Seen) (held : List Held) (status : Option Status) (job : Job) → is_filled status ≡ false
    → Takes 0 d new (Some job) → Steps true (over stage d held status) take_job (over stage new (held ++ held_as job ∷ []) status) []
takes_one stage d new held status job e t =
    let g = over stage d held status in
    let a = t.3 in
    let one : over stage new (held ++ held_as job ∷ []) status ≡ took g t.0 None
    = λ i. record { stage = stage; base = a.enters.base i; journal = a.enters.journal i; max_journal = a.enters.most_journal i; max_events = a.enters.most i; held = held ++ job_held t.0 job t.2 i ∷ []; status = status } in
    takes_then g (over stage new (held ++ held_as job ∷ []) status) e
    (one ∙ (sym (ap (took g t.0) a.none) ∙ sym (ap (takes g) t.1)))

-- memory aside, a refusal is the first whose cause holds
first_of : (cause : Option DeskFault) (x : DeskFault) → x ≢ fault.Memory → IsFirstCause cause x → cause ≡ Some x
first_of cause x n (inl e) = e
first_of cause x n (inr e) = absurd (n e.1)

takes_full_at : (g : Going) (o : Option Waiting) (b : Bool) (x : DeskFault) → or_else (is_some o && b) fault.SessionFull None ≡ Some x → take_fault (desk_of g) ≡ Some x
    → takes g o ≡ record g { status = Some Full }
takes_full_at g None b x e f = absurd (cc)
takes_full_at g (Some w) b x e f = ap (took g w) f

takes_full : (stage : Stage) (d new : Seen) (held : List Held) (status : Option Status) (x : DeskFault) → is_filled status ≡ false → x ≢ fault.Memory
    → Refuses (take_fault d) d new x → Steps true (over stage d held status) take_job (over stage new held (Some Full)) []
takes_full stage d new held status x e n r =
    let g = over stage d held status in
    let f = first_of (take_fault d) x n r.cause in
    takes_then g (over stage new held (Some Full)) e
    (ap (λ (s : Seen). over stage s held (Some Full)) r.same ∙ sym (takes_full_at g (find is_queued (state_of d).waiting) (is_session_full d 1) x f f))

-- ---- finish

-- an answer, where none is kept
abbrev some : Option Answer
some = Some (Hover None)

pub unfinished : (g : Going) (at : ℕ) → is_filled g.status ≡ true → Steps true g (finish_job at) g []
unfolding Steps
unfinished g at e = (some, (λ f. refl), (let P : Bool → Type 0 = λ b. g ≡ (if b then g else runs g at some (slice_get g.held at)) in subst P (sym e) refl), refl)

if_same : (g : Going) (b : Bool) → g ≡ (if b then g else g)
if_same g true = refl
if_same g false = refl

-- there is no such job
pub no_job : (g : Going) (at : ℕ) → slice_get g.held at ≡ None → Steps true g (finish_job at) g []
unfolding Steps
no_job g at e = (some, (λ f. refl), (let P : Option Held → Type 0 = λ o. g ≡ (if is_filled g.status then g else runs g at some o) in subst P (sym e) (if_same g (is_filled g.status))), refl)

-- nothing but want of memory leaves a job without an answer, and a rename to what is no name needs none
answered_by : (held : List Held) (at : ℕ) (job : Held) (answer : Option Answer) → slice_get held at ≡ Some job → (IsToNoName job.ask → is_some answer ≡ true)
    → (true ≡ false) ⊎ NeedsNoMemory (slice_get held at) → is_some answer ≡ true
answered_by held at job answer found sure (inl e) = absurd (cc)
answered_by held at job answer found sure (inr none) = sure (subst NeedsNoMemory found none)

finished : (stage : Stage) (d new : Seen) (held : List Held) (status : Option Status) (at : ℕ) (job : Held) (done : Told) (full : Bool)
    → is_filled status ≡ false → slice_get held at ≡ Some job → (IsToNoName job.ask → is_some done.answer ≡ true) → done ≡ ran job done.answer → IsLeft (finishes d done) full d new
    → Steps true (over stage d held status) (finish_job at) (over stage new (remove held at) (status_by status full)) []
unfolding Steps
finished stage d new held status at job done full e found sure r left =
    let g = over stage d held status in
    let h = over stage new (remove held at) (status_by status full) in
    let one : h ≡ leaving (record g { held = remove held at }) (finishes d done)
    = λ i. record { stage = stage; base = left.base i; journal = left.journal i; max_journal = left.most_journal i; max_events = left.most i; held = remove held at; status = status_by status (left.full_is i) } in
    let P : Told → Type 0 = λ t. h ≡ leaving (record g { held = remove held at }) (finishes d t) in
    let Q : Option Held → Type 0 = λ o. h ≡ runs g at done.answer o in
    let R : Bool → Type 0 = λ b. h ≡ (if b then g else runs g at done.answer (slice_get held at)) in
    (done.answer, answered_by held at job done.answer found sure, subst R (sym e) (subst Q (sym found) (subst P r one)), refl)

map_remove : (jobs : List Job) (at : ℕ) → map held_as (remove jobs at) ≡ remove (map held_as jobs) at
map_remove jobs at =
    map-append held_as (take at jobs) (drop (suc at) jobs) ∙ (λ j. sym (take-map held_as at jobs) j ++ sym (drop-map held_as (suc at) jobs) j)

finished_job : (stage : Stage) (d new : Seen) (jobs left : List Job) (status : Option Status) (at : ℕ) (job : Job) (done : Told) (full : Bool)
    → is_filled status ≡ false → at < length jobs → job ≡ get_or jobs at job → left ≡ remove jobs at → (IsToNoName job.ask → is_some done.answer ≡ true) → done ≡ ran (held_as job) done.answer → IsLeft (finishes d done) full d new
    → Steps true (over stage d (map held_as jobs) status) (finish_job at) (over stage new (map held_as left) (status_by status full)) []
finished_job stage d new jobs left status at job done full e within is gone sure r l =
    let found : slice_get (map held_as jobs) at ≡ Some (held_as job)
    = slice_get-map held_as jobs at ∙ ap (option_map held_as) (slice_get_read jobs (length jobs) at job refl within is) in
    let P : List Held → Type 0 = λ hs. Steps true (over stage d (map held_as jobs) status) (finish_job at) (over stage new hs (status_by status full)) [] in
    subst P (sym (ap (map held_as) gone ∙ map_remove jobs at)) (finished stage d new (map held_as jobs) status at (held_as job) done full e found sure r l)

-- the job at a place of those held has run, and the session is full by it or not
pub finished_as : (g : Going) (stage : Stage) (d new : Seen) (jobs left : List Job) (status : Option Status) (at : ℕ) (job : Job) (done : Told) (said full filled : Bool)
    → over stage d (map held_as jobs) status ≡ g → filled ≡ is_filled g.status → filled ≡ false → at < length jobs → job ≡ get_or jobs at job → left ≡ remove jobs at
    → done.ticket ≡ job.ticket → done.text ≡ arc_value job.snapshot → done.encoding ≡ job.encoding → done.ask ≡ job.ask → (IsToNoName job.ask → is_some done.answer ≡ true) → said ≡ full → IsLeft (finishes d done) said d new
    → Steps true g (finish_job at) (over stage new (map held_as left) (status_by status full)) []
finished_as g stage d new jobs left status at job done said full filled view f e within is gone ticket text encoding ask sure s l =
    let P : Going → Type 0 = λ x. Steps true x (finish_job at) (over stage new (map held_as left) (status_by status full)) [] in
    let Q : Bool → Type 0 = λ b. IsLeft (finishes d done) b d new in
    subst P view
    (finished_job stage d new jobs left status at job done full (ap (λ (x : Going). is_filled x.status) view ∙ (sym f ∙ e)) within is gone sure
    (λ i. record { ticket = ticket i; text = text i; encoding = encoding i; ask = ask i; answer = done.answer }) (subst Q s l))

-- ---- send

pub sends_none : (stage : Stage) (d new : Seen) (held : List Held) (status : Option Status) → IsSound d → d.outbox ≡ [] → new ≡ d
    → Steps true (over stage d held status) send (over stage new held status) []
unfolding Steps
sends_none stage d new held status sound empty same =
    let g = over stage d held status in
    let P : List OutboxEntry → Type 0 = λ es. IsSent g es (over stage new held status) [] in
    subst P (sym (nothing_unsent d sound empty)) (ap (λ (s : Seen). over stage s held status) same, refl)

first_is_holds : (es rest : List OutboxEntry) (e : OutboxEntry) (ticket : ℕ) → first_ticket es ≡ Some ticket → es ≡ e ∷ rest → ticket_of e ≡ ticket
first_is_holds es rest e ticket f s =
    let P : List OutboxEntry → Type 0 = λ l. first_ticket l ≡ Some ticket in
    let h : Some (ticket_of e) ≡ Some ticket = subst P s f in cc

pub sends_one : (stage : Stage) (d new : Seen) (held : List Held) (status : Option Status) (out : Out) (body frame : List ℕ)
    → Sends d new out → Some body ≡ body_of out → frame ≡ frame_of body → Steps true (over stage d held status) send (over stage new held status) frame
unfolding Steps IsPossible
sends_one stage d new held status out body frame s b f =
    let g = over stage d held status in
    let e = s.stands_for.0 in
    let t : ticket_of e ≡ ticket_of_out out = first_is_holds _ s.stands_for.1 e _ s.enters.possible s.stands_for.2 in
    let j : new.journal ≡ d.journal ++ Sent (ticket_of e) ∷ [] = s.enters.journal ∙ ap (λ n. d.journal ++ Sent n ∷ []) (sym t) in
    let P : List OutboxEntry → Type 0 = λ es. IsSent g es (over stage new held status) frame in
    let same : over stage new held status ≡ record g { journal = d.journal ++ Sent (ticket_of e) ∷ [] }
    = λ i. record { stage = stage; base = s.enters.base i; journal = j i; max_journal = s.enters.most_journal i; max_events = s.enters.most i; held = held; status = status } in
    subst P (sym s.stands_for.2) (same, s.was_current, (out, body, s.stands_for.3, sym b, f))

pub first_left : (d new : Seen) (out : Out) → Sends d new out → is_some (first_ticket (state_of d).unsent) ≡ true
first_left d new out s = ap (λ es. is_some (first_ticket es)) s.stands_for.2

none_there : {A : Type 0} (xs : List A) (at : ℕ) → length xs ≤ at → slice_get xs at ≡ None
none_there [] at h = refl
none_there (x ∷ xs) zero h = absurd (omega (arith, h))
none_there (x ∷ xs) (suc at) h = none_there xs at (omega (arith, h))

-- past the jobs that are held there is none
pub none_held : (jobs : List Job) (at : ℕ) → length jobs ≤ at → slice_get (map held_as jobs) at ≡ None
none_held jobs at h = slice_get-map held_as jobs at ∙ ap (option_map held_as) (none_there jobs at h)
