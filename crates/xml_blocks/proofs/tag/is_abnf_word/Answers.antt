use Rattle.std.proofs.Common.{rules}
use Rattle.xml_blocks.proofs.tag.is_abnf_word.Goals as goal

pub returns-then-to_ascii_lowercase-eq110 : goal.returns-then-to_ascii_lowercase-eq110
returns-then-to_ascii_lowercase-eq110 = search rules depth 3

pub returns-else-to_ascii_lowercase-eq110 : goal.returns-else-to_ascii_lowercase-eq110
returns-else-to_ascii_lowercase-eq110 = search rules depth 3
