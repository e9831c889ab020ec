use Rattle.std.proofs.Common.{◌≡◌, ◌+◌, ◌-◌, ◌<◌, ap, ◌∙◌, subst, arith, length, get_or}
use Rattle.std.specs.List.{flat_map}
use Rattle.std.proofs.lemmas.List.{get_or_default}
use Rattle.ls_text.specs.own.Chunks.{lines_behind, IsLineAt}
use Rattle.ls_text.specs.Cut.{start_of}
use Rattle.ls_text.specs.declared.chunk.Chunk.{Chunk}
use Rattle.ls_text.proofs.ChunkLaws.{spine_found, spine_last, line_known, start_none}
use Rattle.ls_text.proofs.lines.Lines.line_before.Goals as goal

pub start_before-local-requires-clause-first : goal.start_before-local-requires-clause-first
start_before-local-requires-clause-first c =
    ap (λ z. get_or z 0 0) c.deref-2.ensures.value
    ∙ c.deref-chunk.result.now.index.starts_are 0 c.deref-chunk.result.now.some
    ∙ start_none c.deref-chunk.result.now.lines

pub line-line-requires : goal.line-line-requires
line-line-requires c =
    omega (arith, c.start_before-local.ensures.in_range, ap length c.deref-2.ensures.value, c.deref-chunk.result.now.index.count)

pub overflow_add-result : goal.overflow_add-result
overflow_add-result c =
    let at : IsLineAt (flat_map lines_behind c.self.inside.chunks.items) (c.index-2.result.now + c.start_before-local.result) c.line-line.result _ =
    spine_found lines_behind _ _ _ _ _ _ c.self.invariant _ c.deref.ensures.value c.start_before-place.result c.args.offset c.start_before-place.ensures.in_range c.start_before-place.ensures.starts c.start_before-place.ensures.last c.index.result.now c.index.ensures c.index-2.result.now c.index-start.result.now c.index-2.ensures c.index-start.ensures c.deref-chunk.result.now.lines (ap (λ (k : Chunk). k.lines) c.deref-chunk.ensures) _ _ _
    (line_known c.deref-chunk.result.now.lines c.deref-chunk.result.now.starts.items c.deref-chunk.result.now.char_count c.deref-chunk.result.now.index c.start_before-local.result c.line-line.result (get_or c.deref-chunk.result.now.starts.items c.start_before-local.result 0) (omega (arith, c.start_before-local.ensures.in_range, ap length c.deref-2.ensures.value, c.deref-chunk.result.now.index.count)) c.line-line.ensures (get_or_default c.deref-chunk.result.now.starts.items c.start_before-local.result 0 _ (omega (arith, c.start_before-local.ensures.in_range, ap length c.deref-2.ensures.value)))) in
    omega (arith, at.in_range, c.self.invariant.line_sums.total_is, c.self.invariant.fits)

found : (c : goal.After-row_known-3-1) → IsLineAt (flat_map lines_behind c.self.inside.chunks.items) (c.index-2.result.now + c.start_before-local.result) c.line-line.result (c.index-start.result.now + c.index-3.result.now)
found c =
    spine_found lines_behind _ _ _ _ _ _ c.self.invariant _ c.deref.ensures.value c.start_before-place.result c.args.offset c.start_before-place.ensures.in_range c.start_before-place.ensures.starts c.start_before-place.ensures.last c.index.result.now c.index.ensures c.index-2.result.now c.index-start.result.now c.index-2.ensures c.index-start.ensures c.deref-chunk.result.now.lines (ap (λ (k : Chunk). k.lines) c.deref-chunk.ensures) _ _ _
    (line_known c.deref-chunk.result.now.lines c.deref-chunk.result.now.starts.items c.deref-chunk.result.now.char_count c.deref-chunk.result.now.index c.start_before-local.result c.line-line.result c.index-3.result.now (omega (arith, c.start_before-local.ensures.in_range, ap length c.deref-2.ensures.value, c.deref-chunk.result.now.index.count)) c.line-line.ensures c.index-3.ensures)

pub returns-clause-line : goal.returns-clause-line
returns-clause-line c = subst (λ z. IsLineAt z (c.index-2.result.now + c.start_before-local.result) c.line-line.result (c.index-start.result.now + c.index-3.result.now)) c.self.view_is (found c)

pub returns-clause-last : goal.returns-clause-last
returns-clause-last c = λ more.
    let count : length c.deref-2.result.now ≡ length c.deref-chunk.result.now.lines = omega (arith, ap length c.deref-2.ensures.value, c.deref-chunk.result.now.index.count) in
    let next : c.start_before-local.result + 1 < length c.deref-chunk.result.now.lines → c.args.offset - c.index-start.result.now < start_of c.deref-chunk.result.now.lines (c.start_before-local.result + 1) =
    λ lt. subst (λ n. c.args.offset - c.index-start.result.now < n) (ap (λ z. get_or z (c.start_before-local.result + 1) 0) c.deref-2.ensures.value ∙ c.deref-chunk.result.now.index.starts_are (c.start_before-local.result + 1) lt) (c.start_before-local.ensures.last (omega (arith, lt, count))) in
    subst (λ z. c.args.offset < start_of z (c.index-2.result.now + c.start_before-local.result + 1)) c.self.view_is
    (spine_last lines_behind _ _ _ _ _ _ c.self.invariant _ c.deref.ensures.value c.start_before-place.result c.args.offset c.start_before-place.ensures.in_range c.start_before-place.ensures.starts c.start_before-place.ensures.last c.index.result.now c.index.ensures c.index-2.result.now c.index-start.result.now c.index-2.ensures c.index-start.ensures c.deref-chunk.result.now.lines (ap (λ (k : Chunk). k.lines) c.deref-chunk.ensures) c.start_before-local.result (omega (arith, c.start_before-local.ensures.in_range, count)) next (omega (arith, more, ap length c.self.view_is)))
