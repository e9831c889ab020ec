use Rattle.std.proofs.Common.{◌≡◌, ◌≤◌, take}
use Rattle.std.specs.Prelude.{count_by}
use Rattle.findings_text.specs.Hints.{is_undefined}
use Rattle.findings_text.proofs.hints.unknown_count.Given as goal

abbrev pub invariant-loop-finding : goal.invariant-loop-finding
invariant-loop-finding l = record {
  within : l.count ≤ l.finding-index;
  counted : l.count ≡ count_by is_undefined (take l.finding-index l.found);
}
