use Rattle.abnf_least.proofs.SomeShown.{certificate_of}
use Rattle.abnf_least.proofs.laws.certificates_exist.Goals as goal

pub returns : goal.returns
returns c = certificate_of
