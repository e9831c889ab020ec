use Rattle.std.proofs.Common.{sym}
use Rattle.markdown_blocks.proofs.AttributeLaws.{short}
use Rattle.markdown_blocks.proofs.attributes.begins.Goals as goal

pub returns-then-text-word : goal.returns-then-text-word
returns-then-text-word c = sym (short c.args.word.now c.args.text.now c.if-text-word.true)
