use Rattle.std.proofs.Common.{◌≡◌, true, drop}
use Rattle.markdown_blocks.specs.Fences.{has_abnf}
use Rattle.markdown_blocks.proofs.attributes.has_abnf.Given as goal

abbrev pub invariant-loop-at : goal.invariant-loop-at
invariant-loop-at l = has_abnf true l.text ≡ has_abnf l.start (drop l.at l.text)
