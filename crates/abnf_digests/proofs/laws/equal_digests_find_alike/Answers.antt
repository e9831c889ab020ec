use Rattle.abnf_digests.proofs.RoleLaws.{find_alike}
use Rattle.abnf_digests.proofs.laws.equal_digests_find_alike.Goals as goal

pub returns : goal.returns
returns c = find_alike
