use Rattle.std.proofs.Common.{rules}
use Rattle.ls_bodies.proofs.refusal.Refusal.body.Goals as goal

pub returns : goal.returns
returns = search rules depth 3
