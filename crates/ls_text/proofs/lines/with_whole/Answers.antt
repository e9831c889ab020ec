use Rattle.std.proofs.Common.{◌-◌, ap, ◌∙◌, ◌++◌, arith}
use Rattle.std.proofs.lemmas.List.{take_all}
use Rattle.ls_text.specs.own.Chunks.{lines_behind}
use Rattle.ls_text.specs.declared.chunk.Chunk.{Chunk}
use Rattle.ls_text.proofs.ChunkLaws.{pieces_more}
use Rattle.ls_text.proofs.lines.with_whole.Goals as goal

pub loop-chunk-preserved : goal.loop-chunk-preserved
loop-chunk-preserved c =
    pieces_more lines_behind _ _ _ c.loop-chunk-test.true c.chunk-item.is _ _ _
    (c.in_ok-all.ensures ∙ ap (λ z. c.loop-chunk.all ++ z) (take_all (c.len.result - 0) c.deref-chunk.result.now.lines (omega (arith, c.len.ensures)) ∙ ap (λ (k : Chunk). k.lines) c.deref-chunk.ensures))
    c.loop-chunk.invariant
