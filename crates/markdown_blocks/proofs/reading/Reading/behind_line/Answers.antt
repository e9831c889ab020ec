use Rattle.std.proofs.Common.{rules}
use Rattle.markdown_blocks.proofs.reading.Reading.behind_line.Goals as goal

pub returns-in-Comment : goal.returns-in-Comment
returns-in-Comment = search rules depth 3
