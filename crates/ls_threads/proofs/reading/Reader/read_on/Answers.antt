use Rattle.std.proofs.Common.{◌≡◌}
use Rattle.ls_history.specs.Told.{heard_of}
use Rattle.ls_devices.proofs.Listening.{input_seen}
use Rattle.ls_threads.specs.Reading.{BreaksOffAt, Hears}
use Rattle.ls_threads.specs.declared.ending.Early.TheVariants.{Memory}
use Rattle.ls_threads.proofs.reading.Reader.read_on.Goals as goal

pub returns-clause-heard : goal.returns-clause-heard
returns-clause-heard g c = (
  c.listen.new.listener.session,
  input_seen c.listen.ensures.heard (λ it. (it.session, heard_of it.seat.front)) Hears (λ body at early next. BreaksOffAt body at next) (λ early. early ≡ Memory)
      (λ body a b e h. h) (λ body a b fault h. h) (λ fault h. h.1),
)
