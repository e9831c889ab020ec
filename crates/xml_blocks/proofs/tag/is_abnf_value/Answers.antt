use Rattle.std.proofs.Common.{rules}
use Rattle.xml_blocks.proofs.tag.is_abnf_value.Goals as goal

pub returns-then-is_abnf_word : goal.returns-then-is_abnf_word
returns-then-is_abnf_word = search rules depth 3
