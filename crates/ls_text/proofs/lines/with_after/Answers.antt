use Rattle.std.proofs.Common.{◌≡◌, ◌+◌, ◌<◌, ap, ◌∙◌, ◌++◌, arith, drop, take, length, List}
use Rattle.std.specs.List.{flat_map}
use Rattle.std.proofs.lemmas.Result.{IfOk-weaker}
use Rattle.ls_text.specs.own.Chunks.{lines_behind}
use Rattle.ls_text.specs.Cut.{Row}
use Rattle.ls_text.specs.declared.chunk.Chunk.{Chunk}
use Rattle.ls_text.proofs.ChunkLaws.{after_is, up_to_end}
use Rattle.ls_text.proofs.lines.with_after.Goals as goal

pub returns : goal.returns
returns c =
    let lt : c.args.place < length c.args.chunks.now = omega (arith, c.requires.place, c.requires.back) in
    IfOk-weaker c.with_whole.result _ (λ (all : List Row). all ++ flat_map lines_behind (drop c.args.back c.args.chunks.now) ≡ c.args.lines ++ drop (length (flat_map lines_behind (take c.args.place c.args.chunks.now)) + c.args.local) (flat_map lines_behind c.args.chunks.now))
    (λ all is. after_is lines_behind c.args.chunks.now c.args.place c.index-chunks-place.result lt c.index-chunks-place.is c.args.local c.requires.local c.args.back c.requires.place _ _ _
    (c.in_ok-more.ensures ∙ ap (λ z. c.args.lines ++ z) (up_to_end c.args.local c.deref-chunk.result.now.lines c.len.result c.len.ensures ∙ ap (λ (k : Chunk). drop c.args.local k.lines) c.deref-chunk.ensures))
    is) c.with_whole.ensures
