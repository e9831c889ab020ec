use Rattle.findings_files.proofs.KnownLaws.{one_with}
use Rattle.findings_files.proofs.laws.prints_are_unique.Goals as goal

pub returns : goal.returns
returns c = one_with
