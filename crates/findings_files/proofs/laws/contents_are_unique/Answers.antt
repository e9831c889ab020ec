use Rattle.findings_files.proofs.ContentLaws.{one_content}
use Rattle.findings_files.proofs.laws.contents_are_unique.Goals as goal

pub returns : goal.returns
returns c = one_content
