use Rattle.std.proofs.Common.{◌≡◌, drop}
use Rattle.markdown_blocks.specs.Fences.{has_end}
use Rattle.markdown_blocks.proofs.attributes.has_end.Given as goal

abbrev pub invariant-loop-at : goal.invariant-loop-at
invariant-loop-at l = has_end l.text ≡ has_end (drop l.at l.text)
