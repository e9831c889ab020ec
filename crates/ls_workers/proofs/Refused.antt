-- What the first refusal of a run can be.
use Rattle.std.proofs.Common.{◌≡◌, ◌+◌, Bool, true, false, length, Option, Some, None, refl, subst, inl, inr, sym}
use Rattle.std.specs.Prelude.{not, is_none, find}
use Rattle.ls_answers.specs.Told.{Told}
use Rattle.ls_machine.specs.Machine.{is_held, left_at}
use Rattle.ls_machine.specs.Same.{is_for}
use Rattle.ls_machine.specs.declared.event.DeskFault.{DeskFault}
use Rattle.ls_machine.specs.declared.event.DeskFault.TheVariants.{UnknownTicket, OtherText, SessionFull}
use Rattle.ls_desk.specs.Stands.{Seen, state_of}
use Rattle.ls_desk.specs.Faults.{Refuses, or_else, is_session_full, finish_fault}
use Rattle.ls_workers.specs.Refusals.{may_refuse_run}

some_same : (p : DeskFault → Bool) (first fault : DeskFault) → p first ≡ true → Some first ≡ Some fault → p fault ≡ true
some_same p first fault here q = let e : first ≡ fault = cc in subst (λ f. p f ≡ true) e here

-- the first cause that holds is one of these
one_of : (p : DeskFault → Bool) (a : Bool) (first : DeskFault) (rest : Option DeskFault) (fault : DeskFault) → p first ≡ true → (rest ≡ Some fault → p fault ≡ true) → or_else a first rest ≡ Some fault → p fault ≡ true
one_of p true first rest fault here there q = some_same p first fault here q
one_of p false first rest fault here there q = there q

last_of : (p : DeskFault → Bool) (a : Bool) (first fault : DeskFault) → p first ≡ true → or_else a first None ≡ Some fault → p fault ≡ true
last_of p true first fault here q = some_same p first fault here q
last_of p false first fault here q = cc

pub run_refused : (d new : Seen) (done : Told) (fault : DeskFault) → Refuses (finish_fault d done) d new fault → may_refuse_run fault ≡ true
run_refused d new done fault refused = elim refused.cause [
  | inr memory ↦ subst (λ f. may_refuse_run f ≡ true) (sym memory.1) refl
  | inl first ↦ one_of may_refuse_run (is_none (find (is_held done.ticket) (state_of d).waiting)) UnknownTicket _ fault refl
      (one_of may_refuse_run (not (is_for (find (is_held done.ticket) (state_of d).waiting) done)) OtherText _ fault refl
      (last_of may_refuse_run (is_session_full d (1 + length (left_at (is_none done.answer) (find (is_held done.ticket) (state_of d).waiting)))) SessionFull fault refl)) first
]
