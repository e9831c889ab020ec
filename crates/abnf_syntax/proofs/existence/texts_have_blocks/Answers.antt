use Rattle.abnf_syntax.proofs.Exist.{some_blocks}
use Rattle.abnf_syntax.proofs.existence.texts_have_blocks.Goals as goal

pub returns : goal.returns
returns c = some_blocks
