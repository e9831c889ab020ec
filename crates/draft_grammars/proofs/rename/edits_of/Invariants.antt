use Rattle.std.proofs.Common.{◌≡◌, ◌≤◌, drop, length}
use Rattle.abnf_rename.specs.Text.{renaming_edits}
use Rattle.draft_grammars.proofs.rename.edits_of.Given as goal

abbrev pub invariant-making : goal.invariant-making
invariant-making l = record {
  within : l.at ≤ length l.ranges;
  made : l.edits.items ≡ renaming_edits l.new (drop l.at l.ranges);
}

abbrev pub decreases-making : goal.decreases-making
decreases-making l = l.at
