use Rattle.ls_text.proofs.CutLaws.{line_boundary, end_boundary, first_line_cut}
use Rattle.ls_text.proofs.cut.first_line.Goals as goal

pub split_at-requires : goal.split_at-requires
split_at-requires c =
    line_boundary _ _ _ c.as_bytes-bytes.ensures.value c.utf8.text (record { in_range = c.first_break-n.ensures.in_range; before = c.first_break-n.ensures.before; found = c.first_break-n.ensures.found })

pub split_at-requires-2 : goal.split_at-requires-2
split_at-requires-2 c =
    end_boundary _ _ _ c.as_bytes-bytes.ensures.value c.utf8.text (record { in_range = c.first_break-n.ensures.in_range; before = c.first_break-n.ensures.before; found = c.first_break-n.ensures.found }) _ _ _ _ c.split_at.ensures.back c.as_bytes.ensures.value c.first_end-end.ensures c.len.ensures

pub returns : goal.returns
returns c =
    first_line_cut _ _ _ c.as_bytes-bytes.ensures.value c.utf8.text (record { in_range = c.first_break-n.ensures.in_range; before = c.first_break-n.ensures.before; found = c.first_break-n.ensures.found }) _ _ _ _ c.split_at.ensures.back c.as_bytes.ensures.value c.first_end-end.ensures c.len.ensures _ _ c.split_at.ensures.front c.split_at-2.ensures.back
