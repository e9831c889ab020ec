use Rattle.std.proofs.Common.{length, ◌-◌}
use Rattle.abnf_least.proofs.offer.first_unsettled.Given as goal

abbrev pub decreases-loop-at : goal.decreases-loop-at
decreases-loop-at l = length l.parts - l.at
