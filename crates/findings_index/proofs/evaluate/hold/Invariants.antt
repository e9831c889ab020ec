use Rattle.std.proofs.Common.{◌≡◌, [], reverse, take}
use Rattle.abnf_lint.specs.Marks.{mark_at}
use Rattle.findings_index.specs.Words.{run_words}
use Rattle.findings_index.proofs.evaluate.hold.Given as goal

abbrev pub invariant-loop-word : goal.invariant-loop-word
invariant-loop-word l = reverse l.stack.items ≡ run_words (mark_at l.marks) (take l.word-index l.words) []
