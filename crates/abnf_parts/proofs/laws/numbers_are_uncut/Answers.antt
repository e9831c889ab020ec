use Rattle.abnf_parts.proofs.Uncut.{items_uncut}
use Rattle.abnf_parts.proofs.laws.numbers_are_uncut.Goals as goal

pub returns : goal.returns
returns c = items_uncut
