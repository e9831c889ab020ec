use Rattle.std.proofs.Common.{◌≡◌, [], Some, drop, reverse}
use Rattle.abnf_syntax.specs.declared.fault.SyntaxFault.{SyntaxFault}
use Rattle.abnf_syntax.specs.own.Check.{fault_behind, first_fault}
use Rattle.abnf_syntax.proofs.check.check_body.Given as goal

-- What is shown from here on is what is shown from the start. Where the start shows a fault, no step has been taken.
abbrev pub invariant-loop-i : goal.invariant-loop-i
invariant-loop-i l = record {
  same : first_fault l.checker.last (reverse l.checker.brackets) (drop l.i l.items) ≡ first_fault l.defined [] l.items;
  first : (fault : SyntaxFault) → fault_behind l.defined [] l.items ≡ Some fault → (l.i ≡ 0) × (l.checker.last ≡ l.defined) × (l.checker.brackets ≡ []);
}
