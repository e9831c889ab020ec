use Rattle.std.proofs.Common.{◌≡◌, ◌-◌, ◌≤◌, length, drop}
use Rattle.std.specs.List.{flat_map}
use Rattle.ls_text.specs.own.Chunks.{lines_behind}
use Rattle.ls_text.proofs.alike.same_back.Given as goal

abbrev pub invariant-loop-passed : goal.invariant-loop-passed
invariant-loop-passed l = record {
  same : flat_map lines_behind (drop (length l.ours - l.passed) l.ours) ≡ flat_map lines_behind (drop (length l.theirs - l.passed) l.theirs);
  count : l.count ≡ length (flat_map lines_behind (drop (length l.ours - l.passed) l.ours));
  most : l.count ≤ l.most;
}
