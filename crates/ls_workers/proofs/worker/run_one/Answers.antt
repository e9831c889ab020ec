use Rattle.std.proofs.Common.{ℕ, subst}
use Rattle.ls_workers.specs.Jobs.{IsNotHeld}
use Rattle.ls_workers.proofs.Held.{finished_not_held, none_then, unknown_not_held, unwanted}
use Rattle.ls_workers.proofs.worker.run_one.Goals as goal

pub returns-in_default-clause-done : goal.returns-in_default-clause-done
returns-in_default-clause-done g c = unwanted c.args.job.ticket _ c.in_default.ensures.none

pub returns-in_default-finish-clause-done : goal.returns-in_default-finish-clause-done
returns-in_default-finish-clause-done g c =
    let P : ℕ → Type 0 = λ ticket. IsNotHeld ticket c.finish.new.seat.front in
    subst P c.in-Some.ensures.ticket (finished_not_held c.in-Some.done c.in_default-finish.field-0 _ c.finish.new.seat.front c.in_default-finish.ensures.finished c.legal.ensures)

pub returns-clause-done : goal.returns-clause-done
returns-clause-done g c =
    let P : ℕ → Type 0 = λ ticket. IsNotHeld ticket c.finish.new.seat.front in
    none_then c.ended_by.result
    (λ is. subst P c.in-Some.ensures.ticket (unknown_not_held c.in-Some.done c.finish.new.seat.front c.in-Err.fault c.in-Err.ensures.cause is)) c.ended_by.ensures.none
