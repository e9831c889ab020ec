use Rattle.std.proofs.Common.{◌≡◌, drop}
use Rattle.abnf_parts.specs.Names.{folded_text}
use Rattle.abnf_places.specs.own.Stated.{is_first_at}
use Rattle.abnf_places.proofs.stated.stands_first.Given as goal

-- what is left tells
abbrev pub invariant-loop-mark : goal.invariant-loop-mark
invariant-loop-mark l = is_first_at (folded_text l.name) l.row.text.now l.row.marks.now ≡ is_first_at (folded_text l.name) l.row.text.now (drop l.mark-index l.row.marks.now)
