use Rattle.abnf_parts.proofs.Nesting.{nesting_suffices}
use Rattle.abnf_parts.proofs.laws.nesting_suffices.Goals as goal

pub returns : goal.returns
returns c = nesting_suffices
