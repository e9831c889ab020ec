use Rattle.std.proofs.Common.{rules}
use Rattle.xml_blocks.proofs.tag.is_abnf_type.Goals as goal

pub returns-then-not-begins : goal.returns-then-not-begins
returns-then-not-begins = search rules depth 3

pub returns-then-char_at-eq61 : goal.returns-then-char_at-eq61
returns-then-char_at-eq61 = search rules depth 3
