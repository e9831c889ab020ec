use Rattle.abnf_parts.proofs.Unknown.{value_length}
use Rattle.abnf_parts.proofs.laws.least_lengths.Goals as goal

pub returns : goal.returns
returns c = value_length
