-- A journal that begins anew.
use Rattle.std.specs.Prelude.{◌≡◌, ◌+◌, List, [], Option, Some, None}
use mathlib.Core.List.{IsPrefix}
use Rattle.ls_machine.specs.declared.base.Base.{Base}
use Rattle.ls_machine.specs.declared.base.Counts.{Counts}
use Rattle.ls_machine.specs.declared.event.Event.{Event}
use Rattle.ls_machine.specs.declared.state.State.{State}

-- the base then: where there is a state to begin from, that state, with all events so far before it; else the base as it was
abbrev pub base_after : Option State → Counts → Base → Base
base_after None counts base = base
base_after (Some state) counts base = record { state = state; counts = counts; checkpoints = base.checkpoints + 1 }

-- the journal then, before the event: empty where there is a state to begin from
abbrev pub journal_after : Option State → List Event → List Event
journal_after None journal = journal
journal_after (Some state) journal = []

-- What is left of the journal that ended last. Where there is a state to begin from, that is this journal, whole. Else it is a prefix of
-- what there was: some of its end may be gone.
abbrev pub IsEndedBy : Option State → List Event → List Event → List Event → Type 0
IsEndedBy None journal ended left = IsPrefix left ended
IsEndedBy (Some state) journal ended left = left ≡ journal
