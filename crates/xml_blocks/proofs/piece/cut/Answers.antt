use Rattle.xml_blocks.specs.Xml as spec
use Rattle.xml_blocks.proofs.ByteLaws.{high_plain, stop_boundary, stop_front, stop_rest}
use Rattle.xml_blocks.proofs.piece.cut.Goals as goal

pub split_at-requires : goal.split_at-requires
split_at-requires c =
    stop_boundary (spec.is_plain_char c.args.in_block) (high_plain c.args.in_block) c.args.text.now c.as_bytes.result.now c.plain_bytes.result c.utf8.text c.as_bytes.ensures.value
    (record { in_range = c.plain_bytes.ensures.in_range; before = c.plain_bytes.ensures.before; found = c.plain_bytes.ensures.found })

pub returns-in-Text-clause-front : goal.returns-in-Text-clause-front
returns-in-Text-clause-front c =
    stop_front (spec.is_plain_char c.args.in_block) (high_plain c.args.in_block) c.args.text.now c.as_bytes.result.now c.plain_bytes.result c.utf8.text c.as_bytes.ensures.value
    (record { in_range = c.plain_bytes.ensures.in_range; before = c.plain_bytes.ensures.before; found = c.plain_bytes.ensures.found }) c.split_at.result.0.now c.args.piece.more c.split_at.ensures.front (c.requires c.in-Text.field-0 c.in-Text.is)

pub returns-in-Text-clause-back : goal.returns-in-Text-clause-back
returns-in-Text-clause-back c =
    stop_rest (spec.is_plain_char c.args.in_block) (high_plain c.args.in_block) c.args.text.now c.as_bytes.result.now c.plain_bytes.result c.utf8.text c.as_bytes.ensures.value
    (record { in_range = c.plain_bytes.ensures.in_range; before = c.plain_bytes.ensures.before; found = c.plain_bytes.ensures.found }) c.split_at.result.1.now c.args.piece.more c.split_at.ensures.back (c.requires c.in-Text.field-0 c.in-Text.is)
