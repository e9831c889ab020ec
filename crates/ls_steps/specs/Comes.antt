-- The events of a session: all that a run enters, of which the desk's journal is the end.
use Rattle.std.specs.Prelude.{◌≡◌, ℕ, List, [], ◌∷◌, ◌++◌, Bool}
use Rattle.ls_machine.specs.declared.event.Event.{Event}
use Rattle.ls_machine.specs.Counts.{counted_with, no_events}
use Rattle.ls_machine.specs.Journal.{replay}
use Rattle.ls_desk.specs.Stands.{Seen}
use Rattle.ls_steps.specs.Runs.{Act, Going, Runs, begun, desk_of, entered}

-- the desk once an event has come
abbrev pub after : Seen → Event → Seen
after d e = record d { base = (entered d e).base; journal = (entered d e).journal }

-- the desk once events have come, one after the other
unfoldable pub come : Seen → List Event → Seen
come d [] = d
come d (e ∷ es) = come (after d e) es

-- The session goes from `g` to `h` by these events.
abbrev pub ComesTo : Going → List Event → Going → Type 0
ComesTo g events h = desk_of h ≡ come (desk_of g) events

-- The events end with the journal, and those before it lead to the base.
pub record EndWith (events : List Event) (d : Seen) : Type 0 where
  pub past : List Event
  pub events_are : events ≡ past ++ d.journal
  pub state_is : replay past ≡ d.base.state
  pub counts_are : counted_with no_events past ≡ d.base.counts

-- The desk of each run from the beginning has come about by events, one after the other, which end with its journal, and those before it
-- lead to its base.
abbrev pub RunsHaveEvents : Type 0
RunsHaveEvents = (may_fail : Bool) (acts : List Act) (h : Going) (bytes : List ℕ) → Runs may_fail begun acts h bytes → (events : List Event) × ComesTo begun events h × EndWith events (desk_of h)
