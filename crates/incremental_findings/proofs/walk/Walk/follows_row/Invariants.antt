use Rattle.std.proofs.Common.{drop, not}
use Rattle.incremental_findings.specs.own.Walks.{stand, bare_items_marked}
use Rattle.incremental_findings.proofs.WalkLaws.{HasFollowed}
use Rattle.incremental_findings.proofs.walk.Walk.follows_row.Given as goal

abbrev pub invariant-loop-mark : goal.invariant-loop-mark
invariant-loop-mark l = HasFollowed l.fn.self l.self (bare_items_marked l.row.text.now (stand l.begins (not l.begins)) l.row.marks.now) l.row.text.now l.stand
    (drop l.mark-index l.row.marks.now)
