use Rattle.std.proofs.Common.{refl}
use Rattle.ls_devices.proofs.Listening.{refused_at_once}
use Rattle.ls_threads.specs.Reading.{BreaksOffAt, Hears}
use Rattle.ls_threads.proofs.serve.Unread.given_up.Goals as goal

pub returns : goal.returns
returns g c = (c.args.self.reader.session, refused_at_once Hears (λ body at early next. BreaksOffAt body at next) _ _ _ _ refl)
