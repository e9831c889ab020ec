use Rattle.std.proofs.Common.{◌≡◌, ◌+◌, ap, ◌∙◌, ◌++◌, take, length, List}
use Rattle.std.specs.List.{flat_map}
use Rattle.std.proofs.lemmas.Result.{IfOk-weaker}
use Rattle.ls_text.specs.own.Chunks.{lines_behind}
use Rattle.ls_text.specs.Cut.{Row}
use Rattle.ls_text.specs.declared.chunk.Chunk.{Chunk}
use Rattle.ls_text.proofs.ChunkLaws.{before_is, from_none}
use Rattle.ls_text.proofs.lines.lines_before.Goals as goal

pub returns : goal.returns
returns c =
    IfOk-weaker c.with_some.result _ (λ (lines : List Row). flat_map lines_behind (take c.args.front c.args.chunks.now) ++ lines ≡ take (length (flat_map lines_behind (take c.args.place c.args.chunks.now)) + c.args.local) (flat_map lines_behind c.args.chunks.now))
    (λ lines is. before_is lines_behind c.args.chunks.now c.args.place c.index-chunks-place.result c.requires.place c.index-chunks-place.is c.args.local c.requires.local c.args.front c.requires.front _ _ _
    c.in_ok-none.ensures
    c.in_ok-lines.ensures
    (is ∙ ap (λ z. c.in_ok-lines.lines ++ z) (from_none c.args.local c.deref-chunk.result.now.lines ∙ ap (λ (k : Chunk). take c.args.local k.lines) c.deref-chunk.ensures))) c.with_some.ensures
