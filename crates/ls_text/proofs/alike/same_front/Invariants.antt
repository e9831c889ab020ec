use Rattle.std.proofs.Common.{◌≡◌, length, take}
use Rattle.std.specs.List.{flat_map}
use Rattle.ls_text.specs.own.Chunks.{lines_behind}
use Rattle.ls_text.proofs.alike.same_front.Given as goal

abbrev pub invariant-loop-place : goal.invariant-loop-place
invariant-loop-place l = record {
  same : flat_map lines_behind (take l.place l.ours) ≡ flat_map lines_behind (take l.place l.theirs);
  count : l.count ≡ length (flat_map lines_behind (take l.place l.ours));
}
