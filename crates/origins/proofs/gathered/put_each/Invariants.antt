use Rattle.std.proofs.Common.{◌≡◌, ◌+◌, ◌++◌, length}
use denote.Text.{Utf8}
use denote.Shadow.{shadow}
use Rattle.std.specs.Str.{chars}
use Rattle.origins.specs.own.Runs.{origin_at, placed}
use Rattle.origins.proofs.gathered.put_each.Given as goal

abbrev pub invariant-characters : goal.invariant-characters
invariant-characters l = record {
  utf8 : shadow (Utf8 l.rest);
  count : l.at + length (chars l.rest) ≡ l.initial.at + length (chars l.text);
  so_far : l.to ++ placed (origin_at l.runs) l.at (chars l.rest) ≡ l.initial.to ++ placed (origin_at l.runs) l.initial.at (chars l.text);
}

abbrev pub decreases-characters : goal.decreases-characters
decreases-characters l = length (chars l.rest)
