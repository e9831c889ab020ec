use Rattle.std.proofs.Common.{◌≡◌, map, drop, ◌≤◌, length}
use Rattle.abnf_cert.specs.Accepted.{entry_at}
use Rattle.abnf_least.specs.own.Form.{first_least}
use Rattle.abnf_least.proofs.given.chosen.Given as goal

abbrev pub invariant-loop-at : goal.invariant-loop-at
invariant-loop-at l = record { within : l.at ≤ length l.numbers; best : l.best ≡ first_least l.at (map (entry_at l.table) (drop l.at l.numbers)) }

abbrev pub decreases-loop-at : goal.decreases-loop-at
decreases-loop-at l = l.at
