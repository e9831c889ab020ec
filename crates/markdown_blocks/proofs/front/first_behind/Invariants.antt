use Rattle.std.proofs.Common.{◌≡◌, length, drop}
use Rattle.std.specs.Str.{chars}
use Rattle.markdown_blocks.specs.own.Fronts.{first_behind}
use Rattle.markdown_blocks.proofs.front.first_behind.Given as goal

abbrev pub invariant-loop-c : goal.invariant-loop-c
invariant-loop-c l = first_behind l.quoted (drop (length l.yielded) (chars l.line)) ≡ first_behind l.quoted (chars l.line)
