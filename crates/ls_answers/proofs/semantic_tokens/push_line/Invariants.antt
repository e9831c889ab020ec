use Rattle.std.proofs.Common.{◌≡◌, ◌≤◌, ◌++◌, drop, length, map}
use Rattle.abnf_names.specs.Places.{named_at}
use Rattle.ls_answers.specs.own.Walk.{left_behind, told_in_line}
use Rattle.ls_answers.proofs.semantic_tokens.push_line.Given as goal

-- what is left gives what is left to report
abbrev pub invariant-loop-mark : goal.invariant-loop-mark
invariant-loop-mark l = record {
  told : l.fn.tokens ++ told_in_line l.fn.ruler.encoding l.grammar l.marked.line l.marked.marks.now (map named_at (drop l.passed l.spots)) ≡ l.tokens ++ told_in_line l.fn.ruler.encoding l.grammar l.marked.line (drop l.mark-index l.marked.marks.now) (map named_at (drop l.now l.spots));
  left : left_behind l.marked.line l.marked.marks.now (map named_at (drop l.passed l.spots)) ≡ left_behind l.marked.line (drop l.mark-index l.marked.marks.now) (map named_at (drop l.now l.spots));
  ruler : l.ruler ≡ l.fn.ruler;
  within : l.now ≤ length l.spots;
}
