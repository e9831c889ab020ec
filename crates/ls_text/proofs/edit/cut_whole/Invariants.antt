use Rattle.std.proofs.Common.{◌<◌, ◌≤◌, ◌++◌, [], length}
use Rattle.ls_text.specs.Cut.{IsCutOnto}
use Rattle.ls_text.proofs.edit.cut_whole.Given as goal

-- the lines in chunks, and those of the next chunk
abbrev pub invariant-lines : goal.invariant-lines
invariant-lines l = record {
  cut : IsCutOnto [] l.text l.rest (l.lines ++ l.part);
  few : length l.part < 512;
  small : length l.rest ≤ length l.text;
}

abbrev pub decreases-lines : goal.decreases-lines
decreases-lines l = length l.rest
