use Rattle.std.proofs.Common.{◌≡◌, ℕ, ◌<◌, length, false}
use Rattle.std.specs.Prelude.{◌↔◌, IsTrue, slice_index_or}
use Rattle.abnf_lint.specs.Unproductive.{IsUnproductive}
use Rattle.abnf_lint.proofs.without_cert.unproductive_rules.Given as goal

abbrev pub invariant-loop-r : goal.invariant-loop-r
invariant-loop-r l = (length l.marks.items ≡ l.r) × ((k : ℕ) → k < l.r → IsTrue (slice_index_or l.marks.items k false) ↔ IsUnproductive l.grammar.rules k)
