use Rattle.findings_files.proofs.KnownLaws.{some_print_with}
use Rattle.findings_files.proofs.laws.joined_prints_exist.Goals as goal

pub returns : goal.returns
returns c = some_print_with
