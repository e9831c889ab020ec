use Rattle.std.proofs.Common.{◌∙◌, sym}
use Rattle.abnf_syntax.proofs.BlockLaws.{count_lines}
use Rattle.abnf_syntax.proofs.sheet.count_of.Goals as goal

pub returns : goal.returns
returns c = c.line_count.ensures ∙ sym (count_lines _)
