use Rattle.abnf_digests.proofs.Rules.{rules_are}
use Rattle.abnf_digests.proofs.laws.digests_tell_the_gists_of_rules.Goals as goal

pub returns : goal.returns
returns c = rules_are
