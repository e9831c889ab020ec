use Rattle.std.specs.Str.{chars}
use Rattle.markdown_blocks.proofs.FenceLaws.{outside, text_found}
use Rattle.markdown_blocks.proofs.gather.read_line.Goals as goal

pub returns-in_ok-behind_line-in_default : goal.returns-in_ok-behind_line-in_default
returns-in_ok-behind_line-in_default c end ls says lists =
    text_found end c.args.beside c.args.block.now (c.args.line.at, chars c.args.line.text.now) ls c.args.found.now c.args.reading _ _ _ (outside c.args.reading c.in_default.not-Block) c.in_ok-behind_line-in_default.ensures.reading c.in_ok-behind_line-in_default.ensures.beside c.clear.ensures
