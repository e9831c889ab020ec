use Rattle.std.proofs.Common.{List, ℕ, sym, subst}
use Rattle.std.specs.Str.{chars}
use Rattle.std.proofs.lemmas.Int.{to_z-of_z}
use Rattle.ls_machine.specs.declared.event.Event.TheVariants.{Opened}
use Rattle.ls_desk.specs.Faults.{Accepts, open_fault}
use Rattle.ls_desk.proofs.Entries.{opens, opens_made}
use Rattle.ls_desk.proofs.desk.Desk.open.Goals as goal

pub returns-in_ok-version-in-Some-clause-ok : goal.returns-in_ok-version-in-Some-clause-ok
returns-in_ok-version-in-Some-clause-ok c =
    let a = simp (to_z-of_z, c.ranges.label) at c.in_ok-version-in-Some.ensures.ok in
    opens_made _ _ c.args.uri c.args.label c.args.text c.args.encoding c.in_ok-version-in-Some.version c.in-Some.made (rw c.in-Some.is at c.requires) a

pub returns-in_ok-version-in-None-clause-ok : goal.returns-in_ok-version-in-None-clause-ok
returns-in_ok-version-in-None-clause-ok c =
    let a = simp (to_z-of_z, c.ranges.label) at c.in_ok-version-in-None.ensures.ok in
    let version = c.in_ok-version-in-None.version in
    let P = λ (l : List ℕ). Accepts (open_fault c.args.self.now c.args.uri l) c.args.self.now c.did_open.new.self (Opened c.args.uri c.args.label (chars c.args.text) c.args.encoding version) in
    opens _ _ c.args.uri c.args.label c.args.text c.args.encoding version (subst P (sym c.is_spelled.ensures) a)
