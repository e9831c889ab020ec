use Rattle.findings_files.proofs.ArgumentLaws.{files_alone}
use Rattle.findings_files.proofs.argument_laws.files_alone_ask_for_findings.Goals as goal

pub returns : goal.returns
returns c = files_alone
