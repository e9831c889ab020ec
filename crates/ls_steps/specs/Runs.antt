-- The session of one client over a desk, step by step: what each step enters into the desk's journal, and the bytes that it writes.
use Rattle.std.specs.Prelude.{◌≡◌, ◌⊎◌, ℕ, List, [], ◌∷◌, ◌++◌, drop, remove, slice_get, find, is_none, is_some, Bool, true, false, Option, Some, None, Result, Vec, if◌then◌else◌}
use Rattle.std.specs.declared.alloc.Global.{Global}
use Rattle.std.specs.Arc.{arc_value}
use Rattle.std.specs.Result.{result_err}
use Rattle.ls_frame.specs.Frames.{Stream, frame_of}
use Rattle.ls_frame.specs.Faults.{fault_of}
use Rattle.ls_frame.specs.Feeds.{EndIs}
use Rattle.ls_frame.specs.declared.fault.FrameFault.{FrameFault}
use Rattle.ls_rpc.specs.Message.{message_of}
use Rattle.ls_rpc.specs.declared.message.Id.{Id}
use Rattle.ls_text.specs.declared.position.Encoding.{Encoding}
use Rattle.ls_answers.specs.Asks.{IsToNoName}
use Rattle.ls_answers.specs.Told.{Told}
use Rattle.ls_answers.specs.declared.ask.Ask.{Ask}
use Rattle.ls_answers.specs.declared.answer.Answer.{Answer}
use Rattle.ls_answers.specs.declared.job.Job.{Job}
use Rattle.ls_machine.specs.declared.event.Event.{Event}
use Rattle.ls_machine.specs.declared.event.Event.TheVariants.{Said, Took, Finished, Sent}
use Rattle.ls_machine.specs.declared.event.Out.{Out}
use Rattle.ls_machine.specs.declared.event.DeskFault.{DeskFault}
use Rattle.ls_machine.specs.declared.event.DeskFault.TheVariants.{SessionFull}
use Rattle.ls_machine.specs.declared.state.Waiting.{Waiting}
use Rattle.ls_machine.specs.declared.state.OutboxEntry.{OutboxEntry}
use Rattle.ls_machine.specs.declared.state.State.{State}
use Rattle.ls_machine.specs.Machine.{is_queued, ticket_of}
use Rattle.ls_machine.specs.declared.base.Base.{Base}
use Rattle.ls_machine.specs.declared.base.Counts.{Counts}
use Rattle.ls_machine.specs.Counts.{counted_with, first}
use Rattle.ls_machine.specs.Journal.{replay_from}
use Rattle.ls_desk.specs.Anew.{base_after, journal_after}
use Rattle.ls_desk.specs.Stands.{Seen, IsOutFor, WasCurrentAt, counts_of, fresh_for, state_of}
use Rattle.ls_desk.specs.Door.{client_fault, entered_at}
use Rattle.ls_desk.specs.Faults.{full_fault, take_fault, finish_fault}
use Rattle.ls_session.specs.Bodies.{body_of, refusal_to}
use Rattle.ls_session.specs.Session.{turn_of}
use Rattle.ls_machine.specs.declared.client.ClientEvent.{ClientEvent}
use Rattle.ls_machine.specs.Client.{asker_of}
use Rattle.ls_session.specs.declared.turn.Turn.{Turn}
use Rattle.ls_session.specs.declared.turn.Turn.TheVariants.{Nothing, Event as Happens, Exit}
use Rattle.ls_session.specs.declared.turn.Status.{Status}
use Rattle.ls_session.specs.declared.turn.Status.TheVariants.{Clean, Unclean, BadFrame, Full}
use Rattle.ls_session.specs.declared.session.Stage.{Stage}
use Rattle.ls_session.specs.declared.session.Stage.TheVariants.{BeforeInitialize}
use Rattle.ls_steps.specs.declared.steps.Step.{Step}
use Rattle.ls_steps.specs.declared.steps.Step.TheVariants as step

-- ---- where a session stands

-- a job that the worker holds: its ticket, text, encoding and question
pub record Held : Type 0 where
  pub ticket : ℕ
  pub text : List ℕ
  pub encoding : Encoding
  pub ask : Ask

-- a waiting job, as the worker holds it
abbrev pub held_of : Waiting → Held
held_of w = record { ticket = w.ticket; text = w.text; encoding = w.encoding; ask = w.ask }

-- what the worker was given of a job
abbrev pub held_as : Job → Held
held_as job = record { ticket = job.ticket; text = arc_value job.snapshot; encoding = job.encoding; ask = job.ask }

-- A session that goes on: its stage, the desk's base, journal and limits, the jobs that its worker holds, and how it ended, if it has.
pub record Going : Type 0 where
  pub stage : Stage
  -- the desk's base and journal, and its limits
  pub base : Base
  pub journal : List Event
  pub max_journal : ℕ
  pub max_events : ℕ
  -- the worker's jobs, in the order in which they were taken
  pub held : List Held
  pub status : Option Status

-- where a session begins: nothing has come. Its journal has at most 1,000,000 events where a client's event comes to it, and the events and
-- unsent replies are at most 18,446,744,073,709,551,614 together
abbrev pub begun : Going
begun = record { stage = BeforeInitialize; base = first; journal = []; max_journal = 1000000; max_events = 18446744073709551614; held = []; status = None }

-- the desk, as far as its refusals go: they don't depend on what is said of the entries
abbrev pub desk_of : Going → Seen
desk_of g = record { base = g.base; journal = g.journal; outbox = []; max_journal = g.max_journal; max_events = g.max_events; ended = [] }

-- the state that the desk is in
abbrev pub state_at : Going → State
state_at g = replay_from g.base.state g.journal

-- how many events of each kind there were over the session
abbrev pub counts_at : Going → Counts
counts_at g = counted_with g.base.counts g.journal

-- ---- what a step leaves at the desk: its base and journal, and whether the session is full

-- what a step leaves at the desk: its base and journal, and whether the session is full
pub record Left : Type 0 where
  pub base : Base
  pub journal : List Event
  pub full : Bool

-- An event is entered. A client's event that finds the journal as long as it may be makes a checkpoint.
abbrev pub entered : Seen → Event → Left
entered d e = record { base = base_after (fresh_for d e) (counts_of d) d.base; journal = journal_after (fresh_for d e) d.journal ++ e ∷ []; full = false }

-- Nothing has changed.
abbrev pub unchanged : Seen → Left
unchanged d = record { base = d.base; journal = d.journal; full = false }

-- Nothing has changed, and the session is full.
abbrev pub left_full : Seen → Left
left_full d = record { base = d.base; journal = d.journal; full = true }

-- ---- a client's event

-- A body is said, where nothing stands against it; else the session is full.
abbrev pub said_by : Seen → List ℕ → Option DeskFault → Left
said_by d body None = entered d (Said body)
said_by d body (Some fault) = left_full d

-- A refused request is answered by this body, where there is room for that; where there is no body nothing changes.
abbrev pub tells : Seen → Option (List ℕ) → Left
tells d None = unchanged d
tells d (Some body) = said_by d body (full_fault d 2)

-- What a refusal leaves. Where there is no room the session is full. Else a refused request is answered by its error, and all other refused
-- events are dropped.
abbrev pub left_by_refusal : Seen → Option Id → DeskFault → Left
left_by_refusal d id SessionFull = left_full d
left_by_refusal d id fault = tells d (refusal_to id fault)

-- what an event of the client leaves at the desk, by what stands against it, if something does
abbrev pub met : Seen → ClientEvent → Option DeskFault → Left
met d event None = entered d (entered_at (state_of d) event)
met d event (Some fault) = left_by_refusal d (asker_of event) fault

-- what an event of the client leaves at the desk: it is entered where nothing stands against it
abbrev pub meets : Seen → ClientEvent → Left
meets d event = met d event (client_fault d event)

-- ---- a job that has run

-- the run of a job, with its answer, or with none where memory was refused in it
abbrev pub ran : Held → Option Answer → Told
ran job answer = record { ticket = job.ticket; text = job.text; encoding = job.encoding; ask = job.ask; answer = answer }

-- What a run leaves, by what stands against it, if something does: where there is no room the session is full, and one whose ticket waits
-- no longer is dropped.
abbrev pub finished_by : Seen → Told → Option DeskFault → Left
finished_by d done None = entered d (Finished done.ticket (is_none done.answer))
finished_by d done (Some SessionFull) = left_full d
finished_by d done (Some fault) = unchanged d

-- what a job leaves at the desk that has run: it is handed in, or dropped where its ticket waits no longer
abbrev pub finishes : Seen → Told → Left
finishes d done = finished_by d done (finish_fault d done)

-- ---- acts

-- What a step does. A body is heard, or the fault that stands in its place ends the session; a job is taken; one of those that are held,
-- counted from 0, is run and handed in; the first reply leaves.
pub data Act : Type 0 where
  hear : List ℕ → Act
  break_off : FrameFault → Act
  take_job : Act
  finish_job : ℕ → Act
  send : Act

-- how the session has ended: as it had, or that it is full
abbrev pub status_by : Option Status → Bool → Option Status
status_by status full = if full then Some Full else status

-- the session with what a step leaves at its desk
abbrev pub leaving : Going → Left → Going
leaving g left = record g { base = left.base; journal = left.journal; status = status_by g.status left.full }

-- the session after a turn: its event goes to the desk, and an exit ends it
abbrev pub on_turn : Going → Turn → Going
on_turn g Nothing = g
on_turn g (Happens event) = leaving g (meets (desk_of g) event)
on_turn g (Exit status) = record g { status = Some status }

-- the session after a turn and at the stage behind it
abbrev pub turned : Going → Turn × Stage → Going
turned g turn = on_turn (record g { stage = turn.1 }) turn.0

-- the session once a body has been heard: the turn on it is done
abbrev pub heard : Going → List ℕ → Going
heard g body = turned g (turn_of g.stage (message_of body))

-- The job is taken, and the worker holds it; where there is no room the session is full. The worker's number is 0.
abbrev pub took : Going → Waiting → Option DeskFault → Going
took g w None = record g { journal = g.journal ++ Took 0 ∷ []; held = g.held ++ held_of w ∷ [] }
took g w (Some fault) = record g { status = Some Full }

-- The first queued job is taken, where there is one.
abbrev pub takes : Going → Option Waiting → Going
takes g None = g
takes g (Some w) = took g w (take_fault (desk_of g))

-- The job that is held at this place, if one is, is run with this answer and handed in.
abbrev pub runs : Going → ℕ → Option Answer → Option Held → Going
runs g k answer None = g
runs g k answer (Some job) = leaving (record g { held = remove g.held k }) (finishes (desk_of g) (ran job answer))

-- The first unsent entry leaves, and the frame of a reply that stands for it is written: its answer is right for the job's text, which was
-- current when it was asked about. Where none is unsent nothing happens.
abbrev pub IsSent : Going → List OutboxEntry → Going → List ℕ → Type 0
IsSent g [] h bytes = (h ≡ g) × (bytes ≡ [])
IsSent g (e ∷ es) h bytes = (h ≡ record g { journal = g.journal ++ Sent (ticket_of e) ∷ [] })
    × WasCurrentAt (desk_of g) e
    × ((out : Out) × (body : List ℕ) × IsOutFor e out × (body_of out ≡ Some body) × (bytes ≡ frame_of body))

-- What reads does nothing once the session has ended, or is full.
abbrev pub while_open : Option Status → Going → Going → Going
while_open status g h = if is_some status then g else h

-- The session is full.
abbrev pub is_filled : Option Status → Bool
is_filled None = false
is_filled (Some Clean) = false
is_filled (Some Unclean) = false
is_filled (Some (BadFrame fault)) = false
is_filled (Some Full) = true

-- Once the session is full, only what is kept is sent.
abbrev pub unless_full : Option Status → Going → Going → Going
unless_full status g h = if is_filled status then g else h

-- the bytes of a frame, where there is one
abbrev pub bytes_in : Option (Vec ℕ Global) → List ℕ
bytes_in None = []
bytes_in (Some frame) = frame.items

-- There is such a job, and it is answered without memory: a rename to what is no name.
abbrev pub NeedsNoMemory : Option Held → Type 0
NeedsNoMemory None = ⊥
NeedsNoMemory (Some job) = IsToNoName job.ask

-- One act, the session after it and the bytes that it writes. A body is heard, unless the session has ended; the queued job with the least
-- ticket is taken, and one that is held is run and handed in, both unless the session is full; the first unsent entry leaves, and its frame
-- is written.
--
-- Only where `may_fail` is true may a job that is run be refused memory, and never one that needs none. All else is a function.
unfoldable pub Steps : Bool → Going → Act → Going → List ℕ → Type 0
Steps may_fail g (hear body) h bytes = (h ≡ while_open g.status g (heard g body)) × (bytes ≡ [])
Steps may_fail g (break_off fault) h bytes = (h ≡ while_open g.status g (record g { status = Some (BadFrame fault) })) × (bytes ≡ [])
Steps may_fail g take_job h bytes = (h ≡ unless_full g.status g (takes g (find is_queued (state_at g).waiting))) × (bytes ≡ [])
Steps may_fail g (finish_job k) h bytes = (answer : Option Answer) × ((may_fail ≡ false) ⊎ NeedsNoMemory (slice_get g.held k) → is_some answer ≡ true) × (h ≡ unless_full g.status g (runs g k answer (slice_get g.held k))) × (bytes ≡ [])
Steps may_fail g send h bytes = IsSent g (state_at g).unsent h bytes

-- These acts, one after the other, lead from `g` to `h`, and write these bytes.
unfoldable pub Runs : Bool → Going → List Act → Going → List ℕ → Type 0
Runs may_fail g [] h bytes = (h ≡ g) × (bytes ≡ [])
Runs may_fail g (act ∷ acts) h bytes = (mid : Going) × (now : List ℕ) × (later : List ℕ) × (Steps may_fail g act mid now × Runs may_fail mid acts h later × (bytes ≡ now ++ later))

-- ---- a run on an input

-- what a Message does where these bodies are left to be read: behind the last one stands the fault, or nothing
abbrev pub next_act : List (List ℕ) → Option FrameFault → List Act
next_act (body ∷ bodies) fault = hear body ∷ []
next_act [] (Some fault) = break_off fault ∷ []
next_act [] None = []

-- what the steps do on these bodies and this fault behind them: each Message hears the next body
abbrev pub acts_of : List (List ℕ) → Option FrameFault → List Step → List Act
acts_of bodies fault [] = []
acts_of bodies fault (step.Message ∷ steps) = next_act bodies fault ++ acts_of (drop 1 bodies) fault steps
acts_of bodies fault (step.Take ∷ steps) = take_job ∷ acts_of bodies fault steps
acts_of bodies fault (step.Finish k ∷ steps) = finish_job k ∷ acts_of bodies fault steps
acts_of bodies fault (step.Send ∷ steps) = send ∷ acts_of bodies fault steps

-- The run of these steps on the frames of the input gives these bytes, and leaves the session so. The fault that stands behind its last
-- whole frame, where one does, is the one by which the stream ends there.
pub record IsRun (input : List ℕ) (steps : List Step) (h : Going) (bytes : List ℕ) : Type 0 where
  pub contents : List (List ℕ)
  pub rest : List ℕ
  pub stream : Stream input contents rest
  pub end : Result Unit FrameFault
  pub ends : EndIs (fault_of rest) rest end
  pub runs : Runs true begun (acts_of contents (result_err end) steps) h bytes
