use Rattle.findings_files.proofs.ArgumentLaws.{help_first}
use Rattle.findings_files.proofs.argument_laws.help_comes_first.Goals as goal

pub returns : goal.returns
returns c = help_first
