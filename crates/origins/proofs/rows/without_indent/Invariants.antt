use Rattle.std.proofs.Common.{◌≡◌, ℕ, ◌+◌, ◌-◌, ◌≤◌, drop, length}
use denote.Text.{Utf8}
use denote.Shadow.{shadow}
use Rattle.std.specs.Str.{chars}
use Rattle.origins.specs.Origins.{left_aligned}
use Rattle.origins.specs.own.Runs.{placed}
use Rattle.origins.proofs.rows.without_indent.Given as goal

abbrev pub invariant-blanks : goal.invariant-blanks
invariant-blanks l = record {
  utf8 : shadow (Utf8 l.rest);
  few : l.gone ≤ l.base;
  rest : chars l.rest ≡ drop l.gone (chars l.text);
  within : l.gone ≤ length (chars l.text);
  kept : (f : ℕ → ℕ) (at : ℕ) → left_aligned l.base (l.base - l.gone) (placed f (at + l.gone) (chars l.rest)) ≡ left_aligned l.base l.base (placed f at (chars l.text));
}

abbrev pub decreases-blanks : goal.decreases-blanks
decreases-blanks l = l.base - l.gone
