use Rattle.std.proofs.Common.{◌≡◌, ◌+◌, ◌++◌, length}
use denote.Text.{Utf8}
use denote.Shadow.{shadow}
use Rattle.std.specs.Str.{chars}
use Rattle.xml_blocks.specs.Unread as spec
use Rattle.xml_blocks.proofs.unread.unread_blocks.Given as goal

abbrev pub invariant-pieces : goal.invariant-pieces
invariant-pieces l =
    shadow (Utf8 l.rest) × (l.at + length (chars l.rest) ≡ length (chars l.draft))
    × (l.found.items ++ spec.asides_from l.current l.content 0 l.at (chars l.rest) ≡ spec.unread_elements (chars l.draft))

abbrev pub decreases-pieces : goal.decreases-pieces
decreases-pieces l = length (chars l.rest)
