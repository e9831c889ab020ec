-- Where a history has led, and where each entry leads from there.
use Rattle.std.specs.Prelude.{ℕ, [], Option, Some, None, Result, Ok, Err, unwrap_or}
use Rattle.ls_machine.specs.Counts.{count_one, no_events}
use Rattle.ls_machine.specs.Client.{entry_of}
use Rattle.ls_machine.specs.Machine.{start, step}
use Rattle.ls_machine.specs.declared.base.Counts.{Counts}
use Rattle.ls_machine.specs.declared.client.ClientAnswer.{ClientAnswer}
use Rattle.ls_machine.specs.declared.client.ClientEvent.{ClientEvent}
use Rattle.ls_machine.specs.declared.event.DeskFault.{DeskFault}
use Rattle.ls_machine.specs.declared.event.Event.{Event}
use Rattle.ls_machine.specs.declared.event.Event.TheVariants.{Sent}
use Rattle.ls_machine.specs.declared.state.State.{State}
use Rattle.ls_desk.specs.Stands.{Seen, counts_of, state_of, ticket_of_out}
use Rattle.ls_history.specs.declared.history_entry.HistoryEntry.{HistoryEntry}
use Rattle.ls_history.specs.declared.history_entry.HistoryEntry.TheVariants.{Began, Heard, Left, Stopped, Worked}

-- Where a history has led: how many events and unsent replies there may be together, once there is a desk; the state that the desk is in;
-- and how many events of each kind there were.
pub record Place : Type 0 where
  pub limit : Option ℕ
  pub state : State
  pub counts : Counts

-- nothing has happened, and there is no desk yet
abbrev pub beginning : Place
beginning = record { limit = None; state = start; counts = no_events }

-- where a desk stands
abbrev pub place_of_desk : Seen → Place
place_of_desk d = record { limit = Some d.max_events; state = state_of d; counts = counts_of d }

-- a desk that stands there, whose journal begins there: what is against an event is asked of it
abbrev pub desk_at : Place → Seen
desk_at p = record { base = record { state = p.state; counts = p.counts; checkpoints = 0 }; journal = []; outbox = []; max_journal = 0; max_events = unwrap_or p.limit 0; ended = [] }

-- where the machine's event leads, if there is one: to its next state, with one event more
abbrev pub place_behind : Place → Option Event → Place
place_behind p None = p
place_behind p (Some e) = record { limit = p.limit; state = step p.state e; counts = count_one p.counts e }

-- where a client's event leads: an answer stands for what the machine entered with it, and a refusal leaves all as it is
abbrev pub heard_at : Place → ClientEvent → Result ClientAnswer DeskFault → Place
heard_at p e (Ok answer) = place_behind p (entry_of e answer)
heard_at p e (Err fault) = p

-- Where an entry leads. The beginning sets the limit, and an end that is asked for changes nothing of this.
abbrev pub happens : Place → HistoryEntry → Place
happens p (Began most) = record { limit = Some most; state = p.state; counts = p.counts }
happens p (Heard e reply) = heard_at p e reply
happens p (Left out) = place_behind p (Some (Sent (ticket_of_out out)))
happens p (Worked event) = place_behind p (Some event)
happens p (Stopped stop) = p
