use Rattle.std.proofs.Common.{◌≡◌, take}
use Rattle.findings_files.specs.Arguments.{read}
use Rattle.findings_files.proofs.arguments.read.Given as goal

abbrev pub invariant-loop-word : goal.invariant-loop-word
invariant-loop-word l = l.step ≡ read (take l.word-index l.words)
