use Rattle.std.proofs.Common.{◌≡◌, ℕ, ◌<◌}
use Rattle.std.specs.Prelude.{◌≢◌}
use Rattle.origins.specs.own.Runs.{origin_at}
use Rattle.origins.proofs.PlaceLaws.{number}
use Rattle.origins.proofs.runs.place_in.Given as goal

abbrev pub invariant-runs : goal.invariant-runs
invariant-runs l = record {
  here : l.run ≡ number l.runs l.next-index;
  before : (k : ℕ) → k < l.run.begins → origin_at l.runs k ≢ l.origin;
}
