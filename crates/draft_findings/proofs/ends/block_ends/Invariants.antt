use Rattle.std.proofs.Common.{◌≡◌, ◌++◌, ◌+◌, ◌≤◌, drop, length}
use denote.Text.{Utf8}
use denote.Shadow.{shadow}
use Rattle.std.specs.Str.{chars}
use Rattle.origins.specs.Origins.{characters}
use Rattle.draft_findings.specs.Ends as spec
use Rattle.draft_findings.proofs.ends.block_ends.Given as goal

abbrev pub invariant-characters : goal.invariant-characters
invariant-characters l = record {
  utf8 : shadow (Utf8 l.rest);
  draft : l.walk ≡ l.draft;
  rest : chars l.rest ≡ characters (drop l.at l.grammar);
  count : l.at + length (chars l.rest) ≡ length (chars l.initial.rest);
  line : l.line ≤ l.at;
  told : l.ends ++ spec.ends_from l.draft l.line (drop l.at l.grammar) ≡ spec.block_ends l.draft l.grammar;
}

abbrev pub decreases-characters : goal.decreases-characters
decreases-characters l = length (chars l.rest)
