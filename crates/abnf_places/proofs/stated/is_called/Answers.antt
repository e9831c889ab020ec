use Rattle.std.proofs.Common.{rules}
use Rattle.abnf_places.proofs.stated.is_called.Goals as goal

pub returns-in-Name : goal.returns-in-Name
returns-in-Name = search rules depth 3
