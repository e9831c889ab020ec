use Rattle.abnf_digests.proofs.RoleLaws.{all_roles}
use Rattle.abnf_digests.proofs.laws.digests_tell_roles.Goals as goal

pub returns : goal.returns
returns c = all_roles
