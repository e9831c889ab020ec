use Rattle.std.proofs.Common.{◌≡◌, ◌++◌, map, take}
use Rattle.ls_text.specs.own.Parts.{moved}
use Rattle.ls_text.proofs.part.push_moved.Given as goal

abbrev pub invariant-loop-held : goal.invariant-loop-held
invariant-loop-held l = l.lines.items ≡ l.fn.lines.items ++ map (moved l.shift) (take l.held-index l.some)
