use Rattle.abnf_digests.proofs.FindingsMove.{findings_moved}
use Rattle.abnf_digests.proofs.laws.findings_move.Goals as goal

pub returns : goal.returns
returns c = findings_moved
