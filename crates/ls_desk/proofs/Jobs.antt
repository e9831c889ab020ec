-- The job of what is found.
use Rattle.std.proofs.Common.{◌≡◌, ℕ, true, List, refl, sym, ap, ◌∙◌}
use Rattle.std.specs.Prelude.{Bool, IfSome, Option, Some, None, find, is_some, position}
use Rattle.ls_answers.specs.declared.job.Job.{Job}
use Rattle.ls_machine.specs.declared.state.Waiting.{Waiting}
use Rattle.ls_machine.proofs.Places.{position_find}
use Rattle.ls_desk.specs.Faults.{IsJobOf}

job_by : (o : Option Waiting) (job : Job) → is_some o ≡ true → IfSome o (λ w. IsJobOf w job) → (w : Waiting) × (o ≡ Some w) × IsJobOf w job
job_by None job some is = absurd (cc)
job_by (Some w) job some is = (w, refl, is)

pub found_job : (p : Waiting → Bool) (xs : List Waiting) (i : ℕ) (job : Job) → position p xs ≡ Some i → IfSome (find p xs) (λ w. IsJobOf w job) → (w : Waiting) × (find p xs ≡ Some w) × IsJobOf w job
found_job p xs i job at is = job_by (find p xs) job (sym (position_find p xs) ∙ ap is_some at) is
