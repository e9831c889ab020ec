use Rattle.std.proofs.Common.{◌≡◌, ◌+◌, true, [], length}
use denote.Text.{Utf8}
use denote.Shadow.{shadow}
use Rattle.std.specs.Str.{chars}
use Rattle.markdown_blocks.specs.Fences.{placed_lines_from}
use Rattle.markdown_blocks.specs.Unread.{all_blocks, draft_blocks}
use Rattle.markdown_blocks.specs.own.Reading.{with_blocks}
use Rattle.markdown_blocks.proofs.gather.gather.Given as goal

abbrev pub invariant-lines : goal.invariant-lines
invariant-lines l =
    shadow (Utf8 l.rest) × (l.at + length (chars l.rest) ≡ length (chars l.text))
    × (with_blocks l.found (all_blocks (length (chars l.text)) l.reading l.beside l.block (placed_lines_from l.at (chars l.rest))) ≡ with_blocks (l.wants_asides, [], []) (draft_blocks (chars l.text)))
    × (l.even ≡ true → length l.rest ≡ length (chars l.rest))

abbrev pub decreases-lines : goal.decreases-lines
decreases-lines l = length (chars l.rest)
