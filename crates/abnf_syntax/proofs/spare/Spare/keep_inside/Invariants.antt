use Rattle.std.proofs.Common.{length}
use Rattle.abnf_syntax.proofs.spare.Spare.keep_inside.Given as goal

abbrev pub decreases-loop-row : goal.decreases-loop-row
decreases-loop-row l = length l.inside
