use Rattle.std.proofs.Common.{◌≡◌, ◌+◌, ◌≤◌, drop, length}
use denote.Text.{Utf8}
use denote.Shadow.{shadow}
use Rattle.std.specs.Str.{chars}
use Rattle.origins.specs.own.Runs.{row_len}
use Rattle.origins.proofs.rows.behind_row.Given as goal

abbrev pub invariant-characters : goal.invariant-characters
invariant-characters l = record {
  utf8 : shadow (Utf8 l.rest);
  rest : chars l.rest ≡ drop l.count (chars l.text);
  within : l.count ≤ length (chars l.text);
  count : l.count + row_len (chars l.rest) ≡ row_len (chars l.text);
}

abbrev pub decreases-characters : goal.decreases-characters
decreases-characters l = length (chars l.rest)
