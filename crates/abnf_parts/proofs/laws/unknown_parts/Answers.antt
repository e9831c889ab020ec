use Rattle.abnf_parts.proofs.Unknown.{repeated_unknown}
use Rattle.abnf_parts.proofs.laws.unknown_parts.Goals as goal

pub returns-clause-undefined : goal.returns-clause-undefined
returns-clause-undefined c roots name s g = g.1

pub returns-clause-opaque : goal.returns-clause-opaque
returns-clause-opaque c roots s g = g.1

pub returns-clause-repeated : goal.returns-clause-repeated
returns-clause-repeated c = repeated_unknown
