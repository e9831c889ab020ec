use Rattle.std.proofs.Common.{ℕ, ◌-◌, true}
use Rattle.ls_machine.specs.Counts.{total}
use Rattle.ls_steps.specs.Runs.{Going, counts_at}
use Rattle.ls_steps.specs.Plain.{Works}
use Rattle.ls_steps.proofs.conversation.Conversation.work.Given as goal

abbrev pub invariant-jobs : goal.invariant-jobs
invariant-jobs l = record { goes_on : (n : ℕ) (h : Going) → Works true n l.self h → (k : ℕ) × Works true k l.initial.self h }

abbrev pub decreases-jobs : goal.decreases-jobs
decreases-jobs l = l.self.max_events - total (counts_at l.self)
