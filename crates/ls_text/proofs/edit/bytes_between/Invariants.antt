use Rattle.std.proofs.Common.{◌≡◌, ◌-◌, take, drop}
use Rattle.ls_text.specs.own.Chunks.{byte_length}
use Rattle.ls_text.proofs.edit.bytes_between.Given as goal

abbrev pub invariant-loop-i : goal.invariant-loop-i
invariant-loop-i l = l.bytes ≡ byte_length (take (l.i - l.from) (drop l.from l.lines))
