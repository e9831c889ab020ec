use Rattle.abnf_syntax.proofs.BlockLaws.{no_line}
use Rattle.abnf_syntax.proofs.sheet.line_of.Goals as goal

pub returns-in-None : goal.returns-in-None
returns-in-None c = no_line _ _ c.in-None.ensures.bytes
