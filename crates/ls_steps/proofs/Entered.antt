-- The state behind an event, whether it makes a checkpoint or not.
use Rattle.std.proofs.Common.{◌≡◌, Bool, true, false, [], ◌∷◌, ◌++◌, cond}
use Rattle.std.specs.Prelude.{Some, None}
use Rattle.ls_machine.specs.declared.event.Event.{Event}
use Rattle.ls_machine.specs.Machine.{step}
use Rattle.ls_machine.specs.Counts.{is_client}
use Rattle.ls_machine.specs.Journal.{replay_from}
use Rattle.ls_machine.proofs.Replays.{replay_one, replay_push}
use Rattle.ls_desk.specs.Anew.{base_after, journal_after}
use Rattle.ls_desk.specs.Stands.{Seen, counts_of, is_long, state_of}
use Rattle.ls_steps.specs.Runs.{entered}

by_both : (d : Seen) (e : Event) (b c : Bool)
    → replay_from (base_after (cond b (cond c (Some (state_of d)) None) None) (counts_of d) d.base).state (journal_after (cond b (cond c (Some (state_of d)) None) None) d.journal ++ e ∷ []) ≡ step (state_of d) e
by_both d e false c = replay_push d.base.state d.journal e
by_both d e true false = replay_push d.base.state d.journal e
by_both d e true true = replay_one (state_of d) e

pub entered_state : (d : Seen) (e : Event) → replay_from (entered d e).base.state (entered d e).journal ≡ step (state_of d) e
entered_state d e = by_both d e (is_client e) (is_long d)
