use Rattle.std.proofs.lemmas.Int.{to_z-of_z}
use Rattle.ls_desk.proofs.Entries.{changes, closes}
use Rattle.ls_desk.proofs.desk.Desk.change.Goals as goal

pub returns-in-Some-clause-ok : goal.returns-in-Some-clause-ok
returns-in-Some-clause-ok c =
    let a = simp (to_z-of_z, c.ranges.label) at c.in_ok-version.ensures.ok in
    changes _ _ c.args.uri c.args.label c.args.edits c.in-Some.version (rw c.in-Some.is at a)

pub returns-in-None-clause-ok : goal.returns-in-None-clause-ok
returns-in-None-clause-ok c =
    let a = simp (to_z-of_z, c.ranges.label) at c.in_ok-version.ensures.ok in
    closes _ _ c.args.uri c.args.label c.args.edits (rw c.in-None.is at a)
