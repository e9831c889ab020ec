use Rattle.std.proofs.Common.{◌≡◌, ◌+◌, ◌≤◌, ap, ◌∙◌, sym, subst, arith, length}
use Rattle.std.specs.Arc.{arc_value}
use Rattle.std.specs.List.{flat_map}
use Rattle.ls_text.specs.own.Chunks.{lines_behind, char_length, byte_length, IsSpine}
use Rattle.ls_text.specs.declared.chunk.Chunk.{Chunk}
use Rattle.ls_text.proofs.ChunkLaws.{spine_push, byte_length_append, chars_le_bytes}
use Rattle.ls_text.proofs.lines.Lines.with_chunk.Goals as goal

pub returns-then-bytes_more-byte_count-clause-too_large :
    goal.returns-then-bytes_more-byte_count-clause-too_large
returns-then-bytes_more-byte_count-clause-too_large c = λ e.
    omega (
      arith,
      c.if-bytes_more-byte_count.true,
      byte_length_append c.args.self (lines_behind c.args.chunk),
      c.self.invariant.bytes_are ∙ ap byte_length c.self.view_is,
      ap (λ (k : Chunk). k.byte_count) c.deref-3.ensures ∙ (arc_value c.args.chunk).bytes_are,
      c.self.invariant.small,
    )

pub overflow_add-result : goal.overflow_add-result
overflow_add-result c =
    omega (
      arith,
      c.self.invariant.small,
      c.self.invariant.bytes_are,
      c.self.invariant.char_sums.total_is,
      chars_le_bytes (flat_map lines_behind c.self.inside.chunks.items),
      ap (λ (k : Chunk). k.char_count) c.deref-2.ensures ∙ (arc_value c.args.chunk).index.len_is,
      chars_le_bytes (lines_behind c.args.chunk),
      (arc_value c.args.chunk).bytes_are,
      (arc_value c.args.chunk).small,
    )

pub invariant_of-result : goal.invariant_of-result
invariant_of-result c =
    let all_is : c.in-Some.all ≡ c.self.inside.count + c.len-lines_more.result = c.in-Some.ensures.1 in
    let lines_are : c.len-lines_more.result ≡ length (lines_behind c.args.chunk) = c.len-lines_more.ensures ∙ ap (λ (k : Chunk). length k.lines) c.deref.ensures in
    let chars_are : c.deref-2.result.now.char_count ≡ char_length (lines_behind c.args.chunk) = ap (λ (k : Chunk). k.char_count) c.deref-2.ensures ∙ (arc_value c.args.chunk).index.len_is in
    let bytes_are : c.deref-3.result.now.byte_count ≡ byte_length (lines_behind c.args.chunk) = ap (λ (k : Chunk). k.byte_count) c.deref-3.ensures ∙ (arc_value c.args.chunk).bytes_are in
    let small : c.self.inside.byte_count + c.deref-3.result.now.byte_count ≤ 4_194_304 = omega (arith, c.if-bytes_more-byte_count.false, c.self.invariant.small) in
    subst (λ n. IsSpine lines_behind c.push_chunk.new.chunks.items c.push_number.new.numbers.items c.push_number-2.new.numbers.items n (c.self.inside.char_count + c.deref-2.result.now.char_count) (c.self.inside.byte_count + c.deref-3.result.now.byte_count)) (sym all_is)
    (spine_push lines_behind _ _ c.args.chunk _ _ _ _ _ _ _ _ _ _ c.self.invariant c.in_ok-push_chunk.ensures c.in_ok-push_number.ensures c.in_ok-push_number-2.ensures lines_are chars_are bytes_are small c.in-Some.ensures.0)
