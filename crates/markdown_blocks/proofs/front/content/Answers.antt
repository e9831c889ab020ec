use Rattle.std.proofs.Common.{ap, ◌∙◌, arith}
use Rattle.std.specs.Str.{chars}
use Rattle.markdown_blocks.proofs.FrontLaws.{chars_behind, cut_behind, gone_within}
use Rattle.markdown_blocks.proofs.front.content.Goals as goal

pub split_at-requires : goal.split_at-requires
split_at-requires c = cut_behind c.args.line.now c.utf8.line c.args.fence.quoted c.margin_gone-gone.result (omega (arith, c.margin_gone-gone.ensures))

pub returns-clause-content : goal.returns-clause-content
returns-clause-content c = ap chars c.split_at.ensures.back ∙ chars_behind c.args.line.now c.utf8.line c.args.fence.quoted c.margin_gone-gone.result (omega (arith, c.margin_gone-gone.ensures))

pub returns-clause-within : goal.returns-clause-within
returns-clause-within c = gone_within c.args.line.now c.utf8.line c.args.fence.quoted c.margin_gone-gone.result (omega (arith, c.margin_gone-gone.ensures))
