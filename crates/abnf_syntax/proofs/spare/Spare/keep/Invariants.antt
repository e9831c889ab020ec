use Rattle.std.proofs.Common.{length}
use Rattle.abnf_syntax.proofs.spare.Spare.keep.Given as goal

abbrev pub decreases-loop-row : goal.decreases-loop-row
decreases-loop-row l = length l.body

abbrev pub decreases-loop-repetition : goal.decreases-loop-repetition
decreases-loop-repetition l = length l.row
