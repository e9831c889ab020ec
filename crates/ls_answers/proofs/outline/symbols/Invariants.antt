use Rattle.std.proofs.Common.{◌-◌}
use Rattle.ls_answers.proofs.Outlines.{HasSymbols}
use Rattle.ls_answers.proofs.outline.symbols.Given as goal

abbrev pub invariant-blocks-2 : goal.invariant-blocks-2
invariant-blocks-2 l = HasSymbols l.encoding l.snapshot l.sheet l.count l.first l.symbols.items

abbrev pub decreases-blocks-2 : goal.decreases-blocks-2
decreases-blocks-2 l = l.count - l.first
