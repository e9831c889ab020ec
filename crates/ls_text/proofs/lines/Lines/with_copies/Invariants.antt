use Rattle.std.proofs.Common.{◌≡◌, ◌≤◌, ◌-◌, ◌++◌, length, take}
use Rattle.ls_text.proofs.lines.Lines.with_copies.Given as goal

abbrev pub invariant-parts : goal.invariant-parts
invariant-parts l = record {
  lines_are : l.lines ≡ l.fn.self ++ take l.from l.new;
  within : l.from ≤ length l.new;
}

abbrev pub decreases-parts : goal.decreases-parts
decreases-parts l = length l.new - l.from
