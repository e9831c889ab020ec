use Rattle.std.proofs.Common.{◌≡◌, ◌+◌, ◌-◌, ◌≤◌, length, drop}
use Rattle.std.specs.Prelude.{min}
use Rattle.std.specs.Str.{chars}
use Rattle.markdown_blocks.specs.Fences.{margin}
use Rattle.markdown_blocks.proofs.front.margin_gone.Given as goal

abbrev pub invariant-loop-c : goal.invariant-loop-c
invariant-loop-c l = record {
  small : l.gone ≤ l.fence.indent;
  so_far : l.gone + min (l.fence.indent - l.gone) (margin l.fence.quoted (drop (length l.yielded) (chars l.line))) ≡ min l.fence.indent (margin l.fence.quoted (chars l.line));
}
