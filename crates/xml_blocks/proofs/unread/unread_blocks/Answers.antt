use Rattle.std.proofs.Common.{rules, ap, length, arith}
use Rattle.std.specs.Str.{chars}
use Rattle.xml_blocks.proofs.PieceLaws.{text_piece}
use Rattle.xml_blocks.proofs.XmlLaws.{chars_small, parts_len}
use Rattle.xml_blocks.proofs.UnreadLaws.{asides_end, asides_fault, asides_more}
use Rattle.xml_blocks.proofs.unread.unread_blocks.Goals as goal

pub returns-in_default-clause-found : goal.returns-in_default-clause-found
returns-in_default-clause-found c = asides_end c.pieces.found.items c.pieces.at (chars c.pieces.rest.now) c.pieces.current c.pieces.content c.pieces.invariant.2 c.in_default.ensures

pub piece_at-requires : goal.piece_at-requires
piece_at-requires c = omega (arith, chars_small c.args.draft.now c.utf8.draft c.if-draft-ge-NO_OFFSET.false, c.pieces.invariant.1, ap length c.in-Some.ensures)

pub returns-in_default-piece_at-clause-found : goal.returns-in_default-piece_at-clause-found
returns-in_default-piece_at-clause-found c =
    asides_fault c.pieces.found.items c.pieces.at (chars c.pieces.rest.now) c.pieces.current c.pieces.content c.pieces.invariant.2 c.in-Some.c (chars c.in-Some.more.now) c.in-Some.ensures c.still_held-held.result c.still_held-held.ensures c.is_some-in_block.result c.is_some-in_block.ensures c.in_default-piece_at.field-0 c.in_default-piece_at.ensures

pub cut-requires : goal.cut-requires
cut-requires c = text_piece c.is_some-in_block.result c.pieces.at c.in-Some.c (chars c.in-Some.more.now) c.in-Ok.piece c.in-Ok.ensures

pub overflow_add-at : goal.overflow_add-at
overflow_add-at c = omega (arith, chars_small c.args.draft.now c.utf8.draft c.if-draft-ge-NO_OFFSET.false, c.pieces.invariant.1, ap length c.in-Some.ensures, c.char_count.ensures.count, ap length c.cut.ensures.front, parts_len c.in-Ok.piece.more (chars c.in-Some.more.now))

pub overflow_add-at-in-pieces : goal.overflow_add-at-in-pieces
overflow_add-at-in-pieces c = omega (arith, chars_small c.args.draft.now c.utf8.draft c.if-draft-ge-NO_OFFSET.false, c.pieces.invariant.1, ap length c.in-Some.ensures, c.char_count.ensures.count, ap length c.cut.ensures.front, parts_len c.in-Ok.piece.more (chars c.in-Some.more.now))

pub pieces-smaller : goal.pieces-smaller
pieces-smaller c = omega (arith, ap length c.in-Some.ensures, ap length c.cut.ensures.back, parts_len c.in-Ok.piece.more (chars c.in-Some.more.now))

pub pieces-preserved : goal.pieces-preserved
pieces-preserved c = (
  search rules,
  omega (arith, c.pieces.invariant.1, ap length c.in-Some.ensures, c.char_count.ensures.count, ap length c.cut.ensures.front, ap length c.cut.ensures.back, parts_len c.in-Ok.piece.more (chars c.in-Some.more.now)),
  asides_more c.pieces.found.items c.pieces.at (chars c.pieces.rest.now) c.pieces.current c.pieces.content c.pieces.invariant.2 c.in-Some.c (chars c.in-Some.more.now) c.in-Some.ensures c.still_held-held.result c.still_held-held.ensures c.is_some-in_block.result c.is_some-in_block.ensures c.in-Ok.piece c.in-Ok.ensures (chars c.cut.result.0.now) (chars c.cut.result.1.now) c.char_count.result c.in_ok-next.next c.in_ok-next.aside c.read.new.content c.put_aside.new.found.items c.cut.ensures.front c.cut.ensures.back c.char_count.ensures.count c.in_ok-next.ensures c.in_ok-put_aside.ensures,
)

pub read-requires : goal.read-requires
read-requires c = omega (arith, chars_small c.args.draft.now c.utf8.draft c.if-draft-ge-NO_OFFSET.false, c.pieces.invariant.1)

pub still_held-held-requires : goal.still_held-held-requires
still_held-held-requires c = omega (arith, chars_small c.args.draft.now c.utf8.draft c.if-draft-ge-NO_OFFSET.false, c.pieces.invariant.1, ap length c.in-Some.ensures)
