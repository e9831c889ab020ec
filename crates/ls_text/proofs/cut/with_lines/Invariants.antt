use Rattle.std.proofs.Common.{◌≤◌, length}
use Rattle.ls_text.specs.Cut.{IsCutOnto}
use Rattle.ls_text.proofs.cut.with_lines.Given as goal

abbrev pub invariant-lines : goal.invariant-lines
invariant-lines l = record {
  cut : IsCutOnto l.fn.lines l.text l.rest l.lines;
  small : length l.rest ≤ length l.text;
}

abbrev pub decreases-lines : goal.decreases-lines
decreases-lines l = length l.rest
