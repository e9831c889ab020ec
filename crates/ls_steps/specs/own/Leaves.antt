-- What the calls of a step leave at the desk.
use Rattle.std.specs.Prelude.{◌≡◌, Bool}
use Rattle.ls_desk.specs.Stands.{Seen, IsSound}
use Rattle.ls_steps.specs.Runs.{Left}

-- A call leaves this at the desk, and gives whether the session is full. The desk keeps its limits, and stays sound.
pub record IsLeft (left : Left) (full : Bool) (old new : Seen) : Type 0 where
  pub base : new.base ≡ left.base
  pub journal : new.journal ≡ left.journal
  pub full_is : full ≡ left.full
  pub most : new.max_events ≡ old.max_events
  pub most_journal : new.max_journal ≡ old.max_journal
  pub sound : IsSound old → IsSound new
