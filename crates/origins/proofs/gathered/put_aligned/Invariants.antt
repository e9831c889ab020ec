use Rattle.std.proofs.Common.{◌≡◌, ◌+◌, ◌++◌, length}
use denote.Text.{Utf8}
use denote.Shadow.{shadow}
use Rattle.std.specs.Str.{chars}
use Rattle.origins.specs.Origins.{left_aligned}
use Rattle.origins.specs.own.Runs.{origin_at, placed}
use Rattle.origins.proofs.gathered.put_aligned.Given as goal

abbrev pub invariant-rows : goal.invariant-rows
invariant-rows l = record {
  utf8 : shadow (Utf8 l.rest);
  count : l.at + length (chars l.rest) ≡ length (chars l.text);
  so_far : l.to ++ left_aligned l.base l.base (placed (origin_at l.runs) l.at (chars l.rest)) ≡ l.initial.to ++ left_aligned l.base l.base (placed (origin_at l.runs) 0 (chars l.text));
}

abbrev pub decreases-rows : goal.decreases-rows
decreases-rows l = length (chars l.rest)
