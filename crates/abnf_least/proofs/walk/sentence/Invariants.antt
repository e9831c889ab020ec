use Rattle.std.proofs.Common.{length}
use Rattle.abnf_parts.specs.Part.{parts_of}
use Rattle.abnf_cert.specs.Accepted.{entry_at}
use Rattle.abnf_least.proofs.Draft.{IsDraft, left}
use Rattle.abnf_least.proofs.walk.sentence.Given as goal

abbrev pub invariant-loop-task : goal.invariant-loop-task
invariant-loop-task l = IsDraft l.grammar.rules l.entries l.fn.rule l.work l.text.items l.places

abbrev pub decreases-loop-task : goal.decreases-loop-task
decreases-loop-task l = left (entry_at l.entries) (length (parts_of l.grammar.rules)) l.work
