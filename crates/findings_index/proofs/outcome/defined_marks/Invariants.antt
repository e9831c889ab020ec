use Rattle.std.proofs.Common.{length}
use Rattle.findings_index.proofs.FlagLaws.{AreSeenUpTo}
use Rattle.findings_index.proofs.outcome.defined_marks.Given as goal

abbrev pub invariant-loop-block : goal.invariant-loop-block
invariant-loop-block l = AreSeenUpTo (length l.names) l.blocks l.block-index l.marks.items
