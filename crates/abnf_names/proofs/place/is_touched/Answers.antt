use Rattle.std.proofs.Common.{rules}
use Rattle.abnf_names.proofs.place.is_touched.Goals as goal

pub returns-in_default : goal.returns-in_default
returns-in_default = search rules depth 3
