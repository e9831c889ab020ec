use Rattle.ls_devices.proofs.Known.{appends_none}
use Rattle.ls_threads.proofs.Written.{none_written}
use Rattle.ls_threads.proofs.serve.run_session.Goals as goal

pub returns-in_default-clause-frames : goal.returns-in_default-clause-frames
returns-in_default-clause-frames g c = none_written (g.W.Sink.failed c.args.devices.sink) _ _ _ (appends_none _)

pub closed-requires-clause-heard : goal.closed-requires-clause-heard
closed-requires-clause-heard g c = rw c.of-input.ensures (rw (c.new-session.ensures, c.in-Ok.ensures.history.0) at c.run_threads-ran.ensures.heard)
