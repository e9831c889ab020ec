use Rattle.std.proofs.Common.{◌↔◌, IsTrue, drop, ◌≤◌, length}
use Rattle.std.specs.List.{AllByRecursion}
use Rattle.abnf_cert.specs.own.Test.{Passes, entries_at}
use Rattle.abnf_cert.proofs.checker.all_pass.Given as goal

abbrev pub invariant-loop-at : goal.invariant-loop-at
invariant-loop-at l = record { within : l.at ≤ length l.numbers; all : IsTrue l.all ↔ AllByRecursion (Passes l.test) (entries_at l.entries (drop l.at l.numbers)) }

abbrev pub decreases-loop-at : goal.decreases-loop-at
decreases-loop-at l = l.at
