use Rattle.std.proofs.Common.{◌∙◌}
use Rattle.xml_blocks.specs.Xml as spec
use Rattle.xml_blocks.proofs.ByteLaws.{high_plain, passed_len, stop_boundary}
use Rattle.xml_blocks.proofs.piece.text_len.Goals as goal

pub split_at-requires : goal.split_at-requires
split_at-requires c =
    stop_boundary (spec.is_plain_char c.args.in_block) (high_plain c.args.in_block) c.args.text.now c.as_bytes.result.now c.plain_bytes.result c.utf8.text c.as_bytes.ensures.value
    (record { in_range = c.plain_bytes.ensures.in_range; before = c.plain_bytes.ensures.before; found = c.plain_bytes.ensures.found })

pub returns : goal.returns
returns c =
    c.char_count.ensures.count
    ∙ passed_len (spec.is_plain_char c.args.in_block) (high_plain c.args.in_block) c.args.text.now c.as_bytes.result.now c.plain_bytes.result c.utf8.text c.as_bytes.ensures.value
    (record { in_range = c.plain_bytes.ensures.in_range; before = c.plain_bytes.ensures.before; found = c.plain_bytes.ensures.found }) c.split_at.result.0.now c.split_at.ensures.front
