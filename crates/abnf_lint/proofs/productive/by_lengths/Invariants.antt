use Rattle.std.proofs.Common.{◌≡◌, ℕ, ◌<◌, length}
use Rattle.std.specs.Prelude.{◌↔◌, IsTrue}
use Rattle.abnf_lint.specs.Marks.{IsProductive, mark_at}
use Rattle.abnf_lint.proofs.productive.by_lengths.Given as goal

abbrev pub invariant-loop-rule : goal.invariant-loop-rule
invariant-loop-rule l = (length l.rules.items ≡ l.rule) × ((r : ℕ) → r < l.rule → IsTrue (mark_at l.rules.items r) ↔ IsProductive l.grammar.rules r)
