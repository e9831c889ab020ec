use Rattle.std.proofs.Common.{◌≡◌, map, drop, ◌≤◌, length}
use Rattle.abnf_cert.specs.Accepted.{entry_at, all_in_a_row}
use Rattle.abnf_cert.proofs.entries.row.Given as goal

abbrev pub invariant-loop-at : goal.invariant-loop-at
invariant-loop-at l = record { within : l.at ≤ length l.numbers; whole : l.whole ≡ all_in_a_row (map (entry_at l.entries) (drop l.at l.numbers)) }

abbrev pub decreases-loop-at : goal.decreases-loop-at
decreases-loop-at l = l.at
