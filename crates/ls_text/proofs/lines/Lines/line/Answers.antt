use Rattle.std.proofs.Common.{◌+◌, ◌-◌, ◌<◌, ap, subst, arith, length}
use Rattle.std.specs.List.{flat_map}
use Rattle.ls_text.specs.own.Chunks.{lines_behind, IsLineAt}
use Rattle.ls_text.specs.declared.chunk.Chunk.{Chunk}
use Rattle.ls_text.proofs.ChunkLaws.{spine_line, line_known, line_start_le}
use Rattle.ls_text.proofs.lines.Lines.line.Goals as goal

found : (c : goal.After-row_known-3-1) → IsLineAt (flat_map lines_behind c.self.inside.chunks.items) c.args.at c.line-line.result (c.index-3.result.now + c.index-4.result.now)
found c =
    let within : c.args.at < c.self.inside.count = omega (arith, c.requires, c.self.invariant.line_sums.total_is, ap length c.self.view_is) in
    spine_line lines_behind _ _ _ _ _ _ c.self.invariant _ c.deref.ensures.value c.start_before-place.result c.args.at c.start_before-place.ensures.in_range c.start_before-place.ensures.starts c.start_before-place.ensures.last within c.index.result.now c.index.ensures c.index-2.result.now c.index-3.result.now c.index-2.ensures c.index-3.ensures c.deref-chunk.result.now.lines (ap (λ (k : Chunk). k.lines) c.deref-chunk.ensures) _ _
    (λ lt. line_known c.deref-chunk.result.now.lines c.deref-chunk.result.now.starts.items c.deref-chunk.result.now.char_count c.deref-chunk.result.now.index (c.args.at - c.index-2.result.now) c.line-line.result c.index-4.result.now lt c.line-line.ensures c.index-4.ensures)

pub overflow_add-result : goal.overflow_add-result
overflow_add-result c = omega (arith, line_start_le _ _ _ _ (found c), c.self.invariant.bytes_are, c.self.invariant.small)

pub returns : goal.returns
returns c = subst (λ z. IsLineAt z c.args.at c.line-line.result (c.index-3.result.now + c.index-4.result.now)) c.self.view_is (found c)
