-- An event that enters the journal.
use Rattle.std.specs.Prelude.{◌≡◌, ◌+◌, ◌<◌, ◌^◌, ◌++◌, ◌∷◌, [], length, Option}
use Rattle.ls_machine.specs.declared.event.Event.{Event}
use Rattle.ls_machine.specs.declared.state.State.{State}
use Rattle.ls_machine.specs.Counts.{count_one, total}
use Rattle.ls_desk.specs.declared.history.History.{History}
use Rattle.ls_desk.specs.Anew.{IsEndedBy, base_after, journal_after}
use Rattle.ls_desk.specs.own.Held.{room_after}

-- There is room for one event more, in the journal as it is or once it begins anew from this state, and the counts don't reach 2^64.
pub record HasRoom (state : Option State) (h : History) : Type 0 where
  pub room : length (journal_after state h.events.items) < room_after state h.events
  pub few : total h.counts + 1 < 2 ^ 64
  pub checkpoints : h.base.checkpoints + 1 < 2 ^ 64

-- The journal begins anew from this state, where there is one, and then the event stands at its end. Where it goes on, some of the one
-- before goes.
pub record Writes (state : Option State) (old new : History) (e : Event) : Type 0 where
  pub base : new.base ≡ base_after state old.counts old.base
  pub events : new.events.items ≡ journal_after state old.events.items ++ e ∷ []
  pub ended : IsEndedBy state old.events.items old.events.ended new.events.ended
  pub counts : new.counts ≡ count_one old.counts e
  pub capacity : new.events.room ≡ room_after state old.events
