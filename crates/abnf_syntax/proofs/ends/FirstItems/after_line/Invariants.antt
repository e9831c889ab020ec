use Rattle.std.proofs.Common.{◌≡◌, ◌++◌, take, drop}
use Rattle.abnf_syntax.specs.own.Ends.{items_at, front_views}
use Rattle.abnf_syntax.proofs.ends.FirstItems.after_line.Given as goal

-- what is left tells
abbrev pub invariant-loop-mark : goal.invariant-loop-mark
invariant-loop-mark l =
    take 2 (front_views l.fn.self ++ items_at l.at l.row.text.now l.row.marks.now) ≡ take 2 (front_views l.front ++ items_at l.at l.row.text.now (drop l.mark-index l.row.marks.now))
