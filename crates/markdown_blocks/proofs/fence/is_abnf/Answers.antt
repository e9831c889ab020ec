use Rattle.std.proofs.Common.{rules}
use Rattle.markdown_blocks.proofs.fence.is_abnf.Goals as goal

pub returns-then-is_abnf_word : goal.returns-then-is_abnf_word
returns-then-is_abnf_word = search rules depth 3

pub returns-else-is_abnf_word : goal.returns-else-is_abnf_word
returns-else-is_abnf_word = search rules depth 3
