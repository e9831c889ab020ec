use Rattle.std.proofs.Common.{sym, ◌∙◌}
use Rattle.std.specs.Str.{chars}
use Rattle.markdown_blocks.proofs.FrontLaws.{stays_open}
use Rattle.markdown_blocks.proofs.gather.closes.Goals as goal

pub returns-then-not-may_close : goal.returns-then-not-may_close
returns-then-not-may_close c = stays_open c.args.fence (chars c.args.line.now) (sym c.may_close.ensures ∙ c.if-not-may_close.true)
