use Rattle.std.proofs.Common.{◌≡◌, ◌≤◌, length, drop}
use Rattle.std.specs.Prelude.{Some, IfSome}
use Rattle.std.specs.Str.{chars}
use Rattle.origins.specs.Origins.{first_indent}
use Rattle.origins.proofs.aligned.first_indent.Given as goal

abbrev pub invariant-loop-c : goal.invariant-loop-c
invariant-loop-c l = record {
  small : IfSome l.front (λ n. n ≤ length l.yielded);
  rest : first_indent l.front (drop (length l.yielded) (chars l.text)) ≡ first_indent (Some 0) (chars l.text);
}
