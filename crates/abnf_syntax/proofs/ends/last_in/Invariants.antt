use Rattle.std.proofs.Common.{◌≡◌, None, take}
use Rattle.std.specs.List.{last_or}
use Rattle.abnf_syntax.specs.own.Ends.{items_at}
use Rattle.abnf_syntax.proofs.ends.last_in.Given as goal

-- what is left tells
abbrev pub invariant-loop-index : goal.invariant-loop-index
invariant-loop-index l = last_or None (items_at l.at l.row.text.now l.row.marks.now) ≡ last_or None (items_at l.at l.row.text.now (take l.index l.row.marks.now))
