use Rattle.std.proofs.Common.{◌++◌, ◌∙◌, ap, sym, arith}
use Rattle.std.proofs.lemmas.Result.{err_from_is_err_and}
use Rattle.ls_text.specs.own.Chunks.{lines_behind}
use Rattle.ls_text.specs.declared.chunk.Chunk.{Chunk}
use Rattle.ls_text.proofs.ChunkLaws.{pieces_more, pieces_bytes}
use Rattle.ls_text.proofs.lines.Lines.with_chunks.Goals as goal

pub loop-chunk-preserved : goal.loop-chunk-preserved
loop-chunk-preserved c =
    pieces_more lines_behind _ _ _ c.loop-chunk-test.true c.chunk-item.is _ _ _
    (c.in_ok-lines.ensures.ok ∙ ap (λ (k : Chunk). c.loop-chunk.lines ++ k.lines) c.in_ok-try_clone.ensures)
    c.loop-chunk.invariant

pub returns-in_err-lines-clause-too_large : goal.returns-in_err-lines-clause-too_large
returns-in_err-lines-clause-too_large c =
    let p = err_from_is_err_and c.from_residual-in_err-lines.result c.from_residual-in_err-lines.ensures.1 in
    rw p.1 (λ e. omega (
      arith,
      c.in_err-lines.ensures.too_large (sym p.2 ∙ e),
      pieces_bytes lines_behind c.args.chunks.now c.loop-chunk.chunk-index c.chunk-item.result c.loop-chunk-test.true c.chunk-item.is c.loop-chunk.lines (lines_behind c.in_ok-try_clone.field-0) c.args.self (ap (λ (k : Chunk). k.lines) c.in_ok-try_clone.ensures) c.loop-chunk.invariant,
    ))
