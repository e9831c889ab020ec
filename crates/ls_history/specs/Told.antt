-- What a history says of each kind of entry.
use Rattle.std.specs.Prelude.{◌⊎◌, List, [], ◌∷◌, filter_map, Option, Some, None, Result, Ok, Err}
use mathlib.Core.List.{IsPrefix}
use Rattle.ls_machine.specs.Client.{entry_of}
use Rattle.ls_machine.specs.declared.client.ClientAnswer.{ClientAnswer}
use Rattle.ls_machine.specs.declared.client.ClientEvent.{ClientEvent}
use Rattle.ls_machine.specs.declared.event.DeskFault.{DeskFault}
use Rattle.ls_machine.specs.declared.event.Event.{Event}
use Rattle.ls_machine.specs.declared.event.Event.TheVariants.{Sent}
use Rattle.ls_machine.specs.declared.event.Out.{Out}
use Rattle.ls_desk.specs.Stands.{ticket_of_out}
use Rattle.ls_history.specs.declared.history_entry.HistoryEntry.{HistoryEntry}
use Rattle.ls_history.specs.declared.history_entry.HistoryEntry.TheVariants.{Began, Heard, Left, Stopped, Worked}

-- the client's event of an entry, with its answer or its refusal, if the entry is one of these
abbrev pub heard_of_one : HistoryEntry → Option (ClientEvent × Result ClientAnswer DeskFault)
heard_of_one (Heard e reply) = Some (e, reply)
heard_of_one _ = None

-- the client's events, each with its answer or its refusal, in their order
abbrev pub heard_of : List HistoryEntry → List (ClientEvent × Result ClientAnswer DeskFault)
heard_of log = filter_map heard_of_one log

-- the reply that left with an entry, if one did
abbrev pub out_of_one : HistoryEntry → Option Out
out_of_one (Left out) = Some out
out_of_one _ = None

-- the replies that left, in their order
abbrev pub outs_of : List HistoryEntry → List Out
outs_of log = filter_map out_of_one log

-- what the machine entered for a client's event: nothing where it was refused
abbrev pub event_of_reply : ClientEvent → Result ClientAnswer DeskFault → Option Event
event_of_reply e (Ok answer) = entry_of e answer
event_of_reply e (Err fault) = None

-- the machine's event that an entry stands for, if there is one
abbrev pub machine_event_of : HistoryEntry → Option Event
machine_event_of (Began most) = None
machine_event_of (Heard e reply) = event_of_reply e reply
machine_event_of (Left out) = Some (Sent (ticket_of_out out))
machine_event_of (Worked event) = Some event
machine_event_of (Stopped stop) = None

-- these events, and before them one more, if there is one
abbrev pub with_event : Option Event → List Event → List Event
with_event None events = events
with_event (Some e) events = e ∷ events

-- the machine's events of a history, one behind the other
abbrev pub events_of : List HistoryEntry → List Event
events_of [] = []
events_of (h ∷ hs) = with_event (machine_event_of h) (events_of hs)

-- Of two lists one begins the other, as two beginnings of one history do.
abbrev pub LieBeside : List HistoryEntry → List HistoryEntry → Type 0
LieBeside xs ys = IsPrefix xs ys ⊎ IsPrefix ys xs
