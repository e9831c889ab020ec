use Rattle.std.proofs.Common.{◌≡◌, take}
use Rattle.joined_grammars.specs.Joined.{with_heads}
use Rattle.joined_grammars.proofs.join.add_heads.Given as goal

abbrev pub invariant-loop-block : goal.invariant-loop-block
invariant-loop-block l = l.names ≡ with_heads l.initial.names (take l.block-index l.blocks)
