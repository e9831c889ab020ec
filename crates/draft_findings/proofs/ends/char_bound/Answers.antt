use Rattle.draft_findings.proofs.WalkLaws.{chars_le}
use Rattle.draft_findings.proofs.ends.char_bound.Goals as goal

pub returns : goal.returns
returns c = chars_le c.args.text.now c.utf8.text
