use Rattle.std.proofs.Common.{sym, ◌∙◌}
use Rattle.std.specs.Str.{chars}
use Rattle.markdown_blocks.proofs.FrontLaws.{prose_behind, prose_beside}
use Rattle.markdown_blocks.proofs.gather.behind_line.Goals as goal

pub returns-then-not-may_matter-clause-reading : goal.returns-then-not-may_matter-clause-reading
returns-then-not-may_matter-clause-reading c = prose_behind c.args.reading (chars c.args.line.text.now) (sym c.goes_on.ensures ∙ c.if-not-goes_on.true) (sym c.may_matter.ensures ∙ c.if-not-may_matter.true)

pub returns-then-not-may_matter-clause-beside : goal.returns-then-not-may_matter-clause-beside
returns-then-not-may_matter-clause-beside c =
    prose_beside c.args.reading c.args.beside c.args.line.at (chars c.args.line.text.now) (sym c.goes_on.ensures ∙ c.if-not-goes_on.true) (sym c.may_matter.ensures ∙ c.if-not-may_matter.true)
