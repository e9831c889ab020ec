use Rattle.std.proofs.Common.{rules, ap, ◌∙◌, length, arith}
use Rattle.std.specs.Str.{chars}
use Rattle.xml_blocks.proofs.PieceLaws.{text_piece}
use Rattle.xml_blocks.proofs.XmlLaws.{chars_small, ends_grammar, front_ends, parts_len, piece_fault, piece_read}
use Rattle.xml_blocks.proofs.gather.gather_front.Goals as goal

pub returns-in_default-clause-grammar : goal.returns-in_default-clause-grammar
returns-in_default-clause-grammar c = ends_grammar c.pieces.grammar c.pieces.at (chars c.pieces.rest.now) c.pieces.current c.pieces.block c.pieces.invariant.2 c.in_default.ensures

pub returns-in_default-clause-fault : goal.returns-in_default-clause-fault
returns-in_default-clause-fault c = c.fault_at_end-fault.ensures c.pieces.block ∙ ap (λ r. r.1) (front_ends c.pieces.grammar c.pieces.at (chars c.pieces.rest.now) c.pieces.current c.pieces.block c.pieces.invariant.2 c.in_default.ensures)

pub returns-in-Err-clause-grammar : goal.returns-in-Err-clause-grammar
returns-in-Err-clause-grammar c = c.in_ok-end_at-in-Err.ensures ∙ ap (λ r. r.0) (piece_fault c.pieces.grammar c.pieces.at (chars c.pieces.rest.now) c.pieces.current c.pieces.block c.pieces.invariant.2 c.in-Some.c (chars c.in-Some.more.now) c.in-Some.ensures c.is_some-in_block.result c.is_some-in_block.ensures c.in-Err.fault c.in-Err.ensures)

pub returns-in-Err-clause-fault : goal.returns-in-Err-clause-fault
returns-in-Err-clause-fault c = ap (λ r. r.1) (piece_fault c.pieces.grammar c.pieces.at (chars c.pieces.rest.now) c.pieces.current c.pieces.block c.pieces.invariant.2 c.in-Some.c (chars c.in-Some.more.now) c.in-Some.ensures c.is_some-in_block.result c.is_some-in_block.ensures c.in-Err.fault c.in-Err.ensures)

pub piece_at-requires : goal.piece_at-requires
piece_at-requires c = omega (arith, chars_small c.args.draft.now c.utf8.draft c.if-draft-ge-NO_OFFSET.false, c.pieces.invariant.1, ap length c.in-Some.ensures)

pub read-requires : goal.read-requires
read-requires c = omega (arith, chars_small c.args.draft.now c.utf8.draft c.if-draft-ge-NO_OFFSET.false, c.pieces.invariant.1)

pub cut-requires : goal.cut-requires
cut-requires c = text_piece c.is_some-in_block.result c.pieces.at c.in-Some.c (chars c.in-Some.more.now) c.in-Ok.found c.in-Ok.ensures

pub overflow_add-at : goal.overflow_add-at
overflow_add-at c = omega (arith, chars_small c.args.draft.now c.utf8.draft c.if-draft-ge-NO_OFFSET.false, c.pieces.invariant.1, ap length c.in-Some.ensures, c.char_count.ensures.count, ap length c.cut.ensures.front, parts_len c.in-Ok.found.more (chars c.in-Some.more.now))

pub overflow_add-at-in-pieces : goal.overflow_add-at-in-pieces
overflow_add-at-in-pieces c = omega (arith, chars_small c.args.draft.now c.utf8.draft c.if-draft-ge-NO_OFFSET.false, c.pieces.invariant.1, ap length c.in-Some.ensures, c.char_count.ensures.count, ap length c.cut.ensures.front, parts_len c.in-Ok.found.more (chars c.in-Some.more.now))

pub pieces-smaller : goal.pieces-smaller
pieces-smaller c = omega (arith, ap length c.in-Some.ensures, ap length c.cut.ensures.back, parts_len c.in-Ok.found.more (chars c.in-Some.more.now))

pub pieces-preserved : goal.pieces-preserved
pieces-preserved c = (
  search rules,
  omega (arith, c.pieces.invariant.1, ap length c.in-Some.ensures, c.char_count.ensures.count, ap length c.cut.ensures.front, ap length c.cut.ensures.back, parts_len c.in-Ok.found.more (chars c.in-Some.more.now)),
  piece_read c.pieces.grammar c.pieces.at (chars c.pieces.rest.now) c.pieces.current c.pieces.block c.pieces.invariant.2 c.in-Some.c (chars c.in-Some.more.now) c.in-Some.ensures c.is_some-in_block.result c.is_some-in_block.ensures c.in-Ok.found c.in-Ok.ensures (chars c.cut.result.0.now) (chars c.cut.result.1.now) c.char_count.result c.in_ok-current.current c.read.new.grammar c.read.new.block c.cut.ensures.front c.cut.ensures.back c.char_count.ensures.count c.in_ok-current.ensures.state c.in_ok-current.ensures.ended,
)
