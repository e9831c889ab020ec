-- What the reader makes of the messages that it hears.
use Rattle.std.specs.Prelude.{◌≡◌, ◌⊎◌, ◌++◌, ◌∷◌, ℕ, List, [], false, Option, Some, None, Result, Ok, Err}
use Rattle.ls_rpc.specs.Message.{message_of}
use Rattle.ls_machine.specs.Client.{asker_of}
use Rattle.ls_machine.specs.declared.client.ClientAnswer.{ClientAnswer}
use Rattle.ls_machine.specs.declared.client.ClientEvent.{ClientEvent}
use Rattle.ls_machine.specs.declared.client.ClientEvent.TheVariants.{Say}
use Rattle.ls_machine.specs.declared.event.DeskFault.{DeskFault}
use Rattle.ls_session.specs.Bodies.{refusal_to}
use Rattle.ls_session.specs.Session.{turn_of}
use Rattle.ls_session.specs.declared.turn.Status.{Status}
use Rattle.ls_session.specs.declared.turn.Turn.{Turn}
use Rattle.ls_session.specs.declared.turn.Turn.TheVariants.{Nothing, Event, Exit}
use Rattle.ls_session.specs.declared.session.Stage.{Stage}
use Rattle.ls_workers.specs.Refusals.{is_shortage}

-- the client's events, each with its answer or its refusal, in their order
abbrev pub HeardReplies : Type 0
HeardReplies = List (ClientEvent × Result ClientAnswer DeskFault)

-- The event had an answer.
abbrev pub IsEntered : ClientEvent → HeardReplies → HeardReplies → Type 0
IsEntered e old new = (answer : ClientAnswer) × (new ≡ old ++ (e, Ok answer) ∷ [])

-- A refusal is said by its body, where it has one, and otherwise nothing is entered.
abbrev pub IsTold : Option (List ℕ) → HeardReplies → HeardReplies → Type 0
IsTold None old new = new ≡ old
IsTold (Some body) old new = IsEntered (Say body) old new

-- An event of the client had an answer; or it was refused by a fault after which the reader goes on, and that was said to whoever asked, by
-- its body. That there was cause for the refusal, a legal history says.
abbrev pub IsMet : ClientEvent → HeardReplies → HeardReplies → Type 0
IsMet e old new = IsEntered e old new
    ⊎ ((fault : DeskFault) × ((is_shortage fault ≡ false) × IsTold (refusal_to (asker_of e) fault) (old ++ (e, Err fault) ∷ []) new))

-- what a turn leaves of the client's events, and the status of an exit
abbrev pub LeavesAtSeat : Turn → HeardReplies → Option Status → HeardReplies → Type 0
LeavesAtSeat Nothing old status new = (status ≡ None) × (new ≡ old)
LeavesAtSeat (Event e) old status new = (status ≡ None) × IsMet e old new
LeavesAtSeat (Exit s) old status new = (status ≡ Some s) × (new ≡ old)

-- What the reader is between two messages: the stage of its session, and the client's events so far.
abbrev pub ReaderPlace : Type 0
ReaderPlace = Stage × HeardReplies

-- A message is heard by its body: the session's turn on it, and what that leaves.
abbrev pub Hears : List ℕ → ReaderPlace → Option Status → ReaderPlace → Type 0
Hears body at status next = (turn : Turn) × (((turn, next.0) ≡ turn_of at.0 (message_of body)) × LeavesAtSeat turn at.1 status next.1)

-- ---- where the reader breaks off

-- What should say that there was a refusal was refused itself: by a shortage, as a legal history says.
abbrev pub IsUntold : Option (List ℕ) → HeardReplies → HeardReplies → Type 0
IsUntold None old new = ⊥
IsUntold (Some body) old new = (fault : DeskFault) × (new ≡ old ++ (Say body, Err fault) ∷ [])

-- The event was refused, and nothing was said to whoever asked; or what should say it was refused too.
abbrev pub IsLost : ClientEvent → HeardReplies → HeardReplies → Type 0
IsLost e old new = (fault : DeskFault) × ((new ≡ old ++ (e, Err fault) ∷ [])
    ⊎ ((is_shortage fault ≡ false) × IsUntold (refusal_to (asker_of e) fault) (old ++ (e, Err fault) ∷ []) new))

-- Within a message: nothing was heard of it, or it has an event, which was lost.
abbrev pub BreaksOffAt : List ℕ → ReaderPlace → ReaderPlace → Type 0
BreaksOffAt body at next = (next.1 ≡ at.1) ⊎ ((e : ClientEvent) × (after : Stage) × (((Event e, after) ≡ turn_of at.0 (message_of body)) × IsLost e at.1 next.1))
