-- What a journal holds, what is left of the one before, and for how much there is room.
use Rattle.std.specs.Prelude.{ℕ, List, Option, Some, None}
use Rattle.ls_machine.specs.declared.event.Event.{Event}
use Rattle.ls_machine.specs.declared.state.State.{State}

-- what contracts see of the place that holds a desk's journal
pub record HeldJournal : Type 0 where
  -- the events since the base
  pub items : List Event
  -- for how many events there is room, and for how many in the journal that comes next
  pub room : ℕ
  pub next : ℕ
  -- what is left of the journal before
  pub ended : List Event

-- for how many events there is room in the journal as it is, or in the next one, where it begins anew from a state
abbrev pub room_after : Option State → HeldJournal → ℕ
room_after None journal = journal.room
room_after (Some state) journal = journal.next
