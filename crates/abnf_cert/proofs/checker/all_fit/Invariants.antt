use Rattle.std.proofs.Common.{◌↔◌, IsTrue}
use Rattle.abnf_cert.proofs.Checked.{FitBelow}
use Rattle.abnf_cert.proofs.checker.all_fit.Given as goal

abbrev pub invariant-loop-number : goal.invariant-loop-number
invariant-loop-number l = IsTrue l.all ↔ FitBelow l.grammar.rules l.entries l.number
