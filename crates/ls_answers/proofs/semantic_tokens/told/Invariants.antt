use Rattle.std.proofs.Common.{◌≡◌, ◌≤◌, drop, length, map}
use Rattle.abnf_names.specs.Places.{named_at}
use Rattle.ls_answers.specs.own.Walk.{HasWalked}
use Rattle.ls_answers.proofs.semantic_tokens.told.Given as goal

abbrev pub invariant-loop-line : goal.invariant-loop-line
invariant-loop-line l = record {
  walked : HasWalked l.fn.encoding l.grammar l.line l.tokens (map named_at (drop l.passed l.spots));
  text : l.ruler ≡ record { text = l.grammar.text; encoding = l.fn.encoding };
  within : l.passed ≤ length l.spots;
}
