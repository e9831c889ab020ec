use Rattle.std.proofs.Common.{◌≡◌, ◌++◌, take}
use Rattle.std.specs.List.{flat_map}
use Rattle.ls_text.specs.own.Chunks.{lines_behind}
use Rattle.ls_text.proofs.lines.Lines.with_chunks.Given as goal

abbrev pub invariant-loop-chunk : goal.invariant-loop-chunk
invariant-loop-chunk l = l.lines ≡ l.initial.lines ++ flat_map lines_behind (take l.chunk-index l.chunks)
