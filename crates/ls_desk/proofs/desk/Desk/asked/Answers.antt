use Rattle.std.proofs.Common.{◌≡◌, Bool, false, None, refl, rules}
use Rattle.std.specs.Prelude.{not, nat_le}
use Rattle.ls_machine.specs.Machine.{id_waits, is_open, requests}
use Rattle.ls_machine.specs.declared.event.DeskFault.TheVariants.{NotOpen, TooManyWaiting, IdInUse, SessionFull}
use Rattle.ls_desk.specs.Faults.{is_session_full, or_else}
use Rattle.ls_desk.specs.Stands.{state_of}
use Rattle.ls_desk.proofs.desk.Desk.asked.Goals as goal

pub returns-then-is_some-clause-err : goal.returns-then-is_some-clause-err
returns-then-is_some-clause-err c = search rules steps 500000

pub returns-then-is_full-clause-err : goal.returns-then-is_full-clause-err
returns-then-is_full-clause-err c = search rules steps 500000

pub returns-in_err-asked-clause-err : goal.returns-in_err-asked-clause-err
returns-in_err-asked-clause-err c = search rules steps 500000

pub returns-clause-job : goal.returns-clause-job
returns-clause-job c = search rules steps 500000

none_holds : (closed many used full : Bool) → closed ≡ false → many ≡ false → used ≡ false → full ≡ false →
    or_else closed NotOpen (or_else many TooManyWaiting (or_else used IdInUse (or_else full SessionFull None))) ≡ None
none_holds closed many used full p q r s = rw (p, q, r, s) refl

pub returns-clause-none : goal.returns-clause-none
returns-clause-none c =
    let d = c.args.self.now in
    let closed : not (is_open c.args.uri.now (state_of d).documents) ≡ false = search rules in
    let many : nat_le 1024 (requests (state_of d).waiting) ≡ false = search rules in
    let used : id_waits c.args.id.now (state_of d).waiting ≡ false = search rules in
    let full : is_session_full d 1 ≡ false = search rules in
    none_holds _ _ _ _ closed many used full

pub returns-clause-possible : goal.returns-clause-possible
returns-clause-possible c = search rules steps 500000
