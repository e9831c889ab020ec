use Rattle.std.proofs.Common.{◌≡◌, drop}
use denote.Text.{Utf8}
use denote.Shadow.{shadow}
use Rattle.std.specs.Str.{chars}
use Rattle.draft_findings.proofs.walk.behind.Given as goal

abbrev pub invariant-characters : goal.invariant-characters
invariant-characters l = record {
  utf8 : shadow (Utf8 l.rest);
  left : drop l.left (chars l.rest) ≡ drop l.count (chars l.text);
}

abbrev pub decreases-characters : goal.decreases-characters
decreases-characters l = l.left
