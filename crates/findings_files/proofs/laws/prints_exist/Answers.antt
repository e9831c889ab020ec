use Rattle.findings_files.proofs.KnownLaws.{some_print_alone}
use Rattle.findings_files.proofs.laws.prints_exist.Goals as goal

pub returns : goal.returns
returns c = some_print_alone
