use Rattle.std.proofs.Common.{◌≡◌, ◌++◌, ◌<◌}
use Rattle.std.specs.Prelude.{flat_map, slice_range, string_bytes}
use Rattle.std.specs.Str.{chars}
use Rattle.ls_text.specs.Lines.{lines}
use Rattle.joined_grammars.specs.Joined.{with_break}
use Rattle.joined_grammars.proofs.join.push_block.Given as goal

abbrev pub invariant-loop-at : goal.invariant-loop-at
invariant-loop-at l = record {
  text : chars (string_bytes l.joined) ≡ chars (string_bytes l.initial.joined) ++ flat_map with_break (slice_range (lines l.text) l.block.first l.at);
  none : l.block.end < l.block.first → l.at ≡ l.block.first;
}
