-- Journals: the state that events lead to, and which lists of events are legal.
use Rattle.std.specs.Prelude.{◌≡◌, ◌≤◌, ◌+◌, ℕ, zero, suc, List, [], ◌∷◌, length, false}
use Rattle.ls_machine.specs.declared.event.Event.{Event}
use Rattle.ls_machine.specs.declared.base.Base.{Base}
use Rattle.ls_machine.specs.declared.state.State.{State}
use Rattle.ls_machine.specs.Counts.{counted_with, is_client, no_events}
use Rattle.ls_machine.specs.Machine.{start, step, IsPossible}

-- the state to which events lead from this state, one after the other
unfoldable pub replay_from : State → List Event → State
replay_from s [] = s
replay_from s (e ∷ es) = replay_from (step s e) es

-- the state to which events lead from the start of a session
abbrev pub replay : List Event → State
replay events = replay_from start events

-- Each event is possible in the state before it, and after each the events and the unsent entries together are at most `most`. `before`
-- events have gone before.
unfoldable pub IsLegalFrom : ℕ → ℕ → State → List Event → Type 0
IsLegalFrom most before s [] = Unit {0}
IsLegalFrom most before s (e ∷ es) =
    IsPossible s e × (before + 1 + length (step s e).unsent ≤ most) × IsLegalFrom most (before + 1) (step s e) es

-- The events are legal from the start of a session: each is possible where it stands, and all are within the limit.
abbrev pub IsLegal : ℕ → List Event → Type 0
IsLegal most events = IsLegalFrom most 0 start events

-- Earlier events that led to a base: they are legal from the start, their state is its own, and there are as many of each kind as it says.
pub record IsPast (most : ℕ) (base : Base) (past : List Event) : Type 0 where
  pub legal : IsLegal most past
  pub state_is : replay past ≡ base.state
  pub counts_are : counted_with no_events past ≡ base.counts

-- No client's event stands at this place of a journal, counted from 0, or later.
unfoldable pub IsCutAt : ℕ → List Event → Type 0
IsCutAt most [] = Unit {0}
IsCutAt zero (e ∷ es) = (is_client e ≡ false) × IsCutAt zero es
IsCutAt (suc most) (e ∷ es) = IsCutAt most es
