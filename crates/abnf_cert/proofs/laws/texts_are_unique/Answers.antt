use Rattle.abnf_cert.proofs.Again.{texts_are_unique}
use Rattle.abnf_cert.proofs.laws.texts_are_unique.Goals as goal

pub returns : goal.returns
returns c = texts_are_unique
