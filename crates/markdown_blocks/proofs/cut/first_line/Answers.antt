use Rattle.std.proofs.Common.{arith}
use Rattle.ls_text.proofs.CutLaws.{line_boundary}
use Rattle.markdown_blocks.proofs.CutLaws.{behind_chars, behind_shorter, both_within, cut_at, evenly, first_chars}
use Rattle.markdown_blocks.proofs.cut.first_line.Goals as goal

pub split_at-requires : goal.split_at-requires
split_at-requires c = line_boundary _ _ _ c.as_bytes-bytes.ensures.value c.utf8.text (record { in_range = c.first_break-n.ensures.in_range; before = c.first_break-n.ensures.before; found = c.first_break-n.ensures.found })

pub overflow_add-n : goal.overflow_add-n
overflow_add-n c =
    omega (arith, both_within _ _ _ c.as_bytes-bytes.ensures.value c.utf8.text (record { in_range = c.first_break-n.ensures.in_range; before = c.first_break-n.ensures.before; found = c.first_break-n.ensures.found }) _ _ _ c.split_at.ensures.back c.as_bytes.ensures.value c.end_len.ensures)

pub split_at-requires-2 : goal.split_at-requires-2
split_at-requires-2 c =
    cut_at _ _ _ c.as_bytes-bytes.ensures.value c.utf8.text (record { in_range = c.first_break-n.ensures.in_range; before = c.first_break-n.ensures.before; found = c.first_break-n.ensures.found }) _ _ _ c.split_at.ensures.back c.as_bytes.ensures.value c.end_len.ensures

pub returns-clause-line : goal.returns-clause-line
returns-clause-line c =
    first_chars _ _ _ c.as_bytes-bytes.ensures.value c.utf8.text (record { in_range = c.first_break-n.ensures.in_range; before = c.first_break-n.ensures.before; found = c.first_break-n.ensures.found }) _ _ _ c.split_at.ensures.back c.as_bytes.ensures.value c.end_len.ensures _ _ c.split_at-2.ensures.front c.split_at-2.ensures.back

pub returns-clause-behind : goal.returns-clause-behind
returns-clause-behind c =
    behind_chars _ _ _ c.as_bytes-bytes.ensures.value c.utf8.text (record { in_range = c.first_break-n.ensures.in_range; before = c.first_break-n.ensures.before; found = c.first_break-n.ensures.found }) _ _ _ c.split_at.ensures.back c.as_bytes.ensures.value c.end_len.ensures _ _ c.split_at-2.ensures.front c.split_at-2.ensures.back

pub returns-clause-some : goal.returns-clause-some
returns-clause-some c some =
    behind_shorter _ _ _ c.as_bytes-bytes.ensures.value c.utf8.text (record { in_range = c.first_break-n.ensures.in_range; before = c.first_break-n.ensures.before; found = c.first_break-n.ensures.found }) _ _ _ c.split_at.ensures.back c.as_bytes.ensures.value c.end_len.ensures _ _ c.split_at-2.ensures.front c.split_at-2.ensures.back some

pub returns-clause-even : goal.returns-clause-even
returns-clause-even c same =
    evenly _ _ _ c.as_bytes-bytes.ensures.value c.utf8.text (record { in_range = c.first_break-n.ensures.in_range; before = c.first_break-n.ensures.before; found = c.first_break-n.ensures.found }) _ _ _ c.split_at.ensures.back c.as_bytes.ensures.value c.end_len.ensures _ _ c.split_at-2.ensures.front c.split_at-2.ensures.back same
