use Rattle.ls_machine.specs.Client.{client_event}
use Rattle.ls_workers.proofs.Beside.{rest_done}
use Rattle.ls_workers.proofs.agree.same_events.Goals as goal

pub returns : goal.returns
returns c = rest_done client_event _ _ _ _ c.loop-at-test.false c.loop-at.invariant.within c.loop-at.invariant.rest
