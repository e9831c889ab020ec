use Rattle.std.proofs.Common.{◌≡◌, ◌<◌, ◌+◌, arith, ap, subst, ◌∙◌, length}
use Rattle.std.specs.Str.{encode_utf8_all}
use Rattle.std.proofs.lemmas.Str.{length-le-encodes}
use Rattle.ls_text.specs.Cut.{end_text, line_text}
use Rattle.std.specs.Prelude.{All}
use Rattle.std.specs.Char.{IsScalar}
use Rattle.ls_text.proofs.ScalarLaws.{scalars_more, chars_scalars}
use Rattle.ls_text.proofs.HeldLaws.{held_bytes, held_bytes_le, indexed_more}
use Rattle.ls_text.proofs.chunk.index_of.Goals as goal

pub returns-then-more-bytes-clause-too_large : goal.returns-then-more-bytes-clause-too_large
returns-then-more-bytes-clause-too_large c = λ e.
    let lt : c.loop-at.at < length c.args.lines.now = omega (arith, c.loop-at-test.true, c.len-at-end.ensures) in
    omega (
      arith,
      c.if-more-bytes.true,
      c.saturating_add-more.ensures,
      c.loop-at.invariant.bytes_is,
      c.loop-at.invariant.small,
      held_bytes c.args.lines.now c.loop-at.at c.line-line.result lt c.line-line.ensures,
      held_bytes_le c.args.lines.now c.loop-at.at c.line-line.result lt c.line-line.ensures,
      ap length c.text.ensures.bytes,
      c.len-ends.ensures ∙ ap (λ e. length (end_text e)) c.end.ensures,
    )

pub overflow_add-length : goal.overflow_add-length
overflow_add-length c =
    omega (
      arith,
      c.saturating_add-more.ensures,
      c.if-more-bytes.false,
      ap length c.text.ensures.bytes,
      c.char_count.ensures,
      length-le-encodes (line_text c.line-line.result),
      c.loop-at.invariant.within,
      c.loop-at.invariant.small,
    )

pub overflow_add-length-in-loop-at : goal.overflow_add-length-in-loop-at
overflow_add-length-in-loop-at c =
    omega (
      arith,
      c.saturating_add-more.ensures,
      c.if-more-bytes.false,
      ap length c.text.ensures.bytes,
      c.char_count.ensures,
      length-le-encodes (line_text c.line-line.result),
      c.loop-at.invariant.within,
      c.loop-at.invariant.small,
    )

pub loop-at-preserved : goal.loop-at-preserved
loop-at-preserved c =
    let lt : c.loop-at.at < length c.args.lines.now = omega (arith, c.loop-at-test.true, c.len-at-end.ensures) in
    let bytes_are : length c.text.result.now ≡ length (encode_utf8_all (line_text c.line-line.result)) = ap length c.text.ensures.bytes in
    let ends_are : c.len-ends.result ≡ length (end_text c.line-line.result.end) = c.len-ends.ensures ∙ ap (λ e. length (end_text e)) c.end.ensures in
    let more_is : c.saturating_add-more.result ≡ length c.text.result.now + c.len-ends.result = omega (arith, c.saturating_add-more.ensures, c.if-more-bytes.false) in
    record {
      index = indexed_more c.args.lines.now c.loop-at.at c.line-line.result lt c.line-line.ensures _ _ _ _ _ c.loop-at.invariant.index c.in_ok-push_number.ensures c.char_count.ensures ends_are;
      bytes_is = omega (arith, more_is, bytes_are, ends_are, c.loop-at.invariant.bytes_is, held_bytes c.args.lines.now c.loop-at.at c.line-line.result lt c.line-line.ensures);
      small = omega (arith, c.if-more-bytes.false, c.loop-at.invariant.small);
      within = omega (arith, more_is, bytes_are, c.char_count.ensures, length-le-encodes (line_text c.line-line.result), c.loop-at.invariant.within);
      scalars = scalars_more c.args.lines.now c.loop-at.at c.line-line.result lt c.line-line.ensures (subst (All IsScalar) c.text.ensures.characters (chars_scalars c.text.result.now c.text.utf8)) c.loop-at.invariant.scalars;
    }
