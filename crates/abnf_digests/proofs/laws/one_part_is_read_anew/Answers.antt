use Rattle.abnf_digests.proofs.Keeps.{digests_kept}
use Rattle.abnf_digests.proofs.laws.one_part_is_read_anew.Goals as goal

pub returns : goal.returns
returns c = digests_kept
