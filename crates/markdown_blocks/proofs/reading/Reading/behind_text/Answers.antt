use Rattle.std.proofs.Common.{rules}
use Rattle.markdown_blocks.proofs.reading.Reading.behind_text.Goals as goal

pub returns-in-Some : goal.returns-in-Some
returns-in-Some = search rules depth 3
