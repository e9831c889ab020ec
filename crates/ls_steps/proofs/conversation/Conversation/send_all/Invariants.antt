use Rattle.std.proofs.Common.{◌++◌, true, ℕ, List, length}
use Rattle.ls_steps.specs.Runs.{Going, state_at}
use Rattle.ls_steps.specs.Plain.{Replies}
use Rattle.ls_steps.proofs.conversation.Conversation.send_all.Given as goal

abbrev pub invariant-frames : goal.invariant-frames
invariant-frames l = record { goes_on : (n : ℕ) (h : Going) (later : List ℕ) → Replies true n l.self h later → (k : ℕ) × Replies true k l.initial.self h (l.bytes.items ++ later) }

abbrev pub decreases-frames : goal.decreases-frames
decreases-frames l = length (state_at l.self).unsent
