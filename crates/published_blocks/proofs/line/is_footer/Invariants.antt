use Rattle.std.proofs.Common.{◌≡◌, drop}
use Rattle.published_blocks.specs.Lines.{is_footer}
use Rattle.published_blocks.proofs.line.is_footer.Given as goal

abbrev pub invariant-loop-at : goal.invariant-loop-at
invariant-loop-at l = is_footer l.line ≡ is_footer (drop l.at l.line)
