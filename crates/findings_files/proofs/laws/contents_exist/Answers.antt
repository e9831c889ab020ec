use Rattle.findings_files.proofs.ContentLaws.{some_content}
use Rattle.findings_files.proofs.laws.contents_exist.Goals as goal

pub returns : goal.returns
returns c = some_content
