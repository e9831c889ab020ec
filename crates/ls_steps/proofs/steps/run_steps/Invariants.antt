use Rattle.std.specs.Result.{result_err}
use Rattle.ls_frame.specs.Feeds.{contents_of}
use Rattle.ls_steps.proofs.Going.{GoesOn}
use Rattle.ls_steps.proofs.steps.run_steps.Given as goal

abbrev pub invariant-loop-step : goal.invariant-loop-step
invariant-loop-step l = GoesOn (contents_of l.bodies.items) (result_err l.end) l.steps l.talk l.bytes.items l.read l.step-index
