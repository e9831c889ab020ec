use Rattle.abnf_digests.proofs.Rules.{unproductive_alike}
use Rattle.abnf_digests.proofs.laws.digests_tell_what_is_unproductive.Goals as goal

pub returns : goal.returns
returns c = unproductive_alike
