use Rattle.abnf_digests.proofs.Names.{names_are}
use Rattle.abnf_digests.proofs.laws.digests_name_the_rules.Goals as goal

pub returns : goal.returns
returns c = names_are
