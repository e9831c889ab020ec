use Rattle.abnf_digests.proofs.SameDigests.{same_digests}
use Rattle.abnf_digests.proofs.laws.digests_know_no_lines.Goals as goal

pub returns : goal.returns
returns c = same_digests
