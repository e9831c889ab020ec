use Rattle.abnf_cert.proofs.Agreed.{accepted_agree}
use Rattle.abnf_cert.proofs.laws.accepted_agree.Goals as goal

pub returns : goal.returns
returns c = accepted_agree
