use Rattle.std.proofs.Common.{◌≡◌, drop}
use Rattle.markdown_blocks.specs.Fences.{begins}
use Rattle.markdown_blocks.proofs.attributes.begins.Given as goal

abbrev pub invariant-loop-at : goal.invariant-loop-at
invariant-loop-at l = begins l.word l.text ≡ begins (drop l.at l.word) (drop l.at l.text)
