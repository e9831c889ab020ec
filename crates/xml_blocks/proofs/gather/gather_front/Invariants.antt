use Rattle.std.proofs.Common.{◌≡◌, ◌+◌, [], length}
use denote.Text.{Utf8}
use denote.Shadow.{shadow}
use Rattle.std.specs.Str.{chars}
use Rattle.std.specs.Prelude.{None}
use Rattle.xml_blocks.specs.own.Reading.{front_behind, reading_element}
use Rattle.xml_blocks.specs.Xml as spec
use Rattle.xml_blocks.proofs.gather.gather_front.Given as goal

abbrev pub invariant-pieces : goal.invariant-pieces
invariant-pieces l =
    shadow (Utf8 l.rest) × (l.at + length (chars l.rest) ≡ length (chars l.draft))
    × (front_behind l.grammar (spec.element_front (reading_element l.current l.block) 0 l.at (chars l.rest)) ≡ front_behind [] (spec.element_front None 0 0 (chars l.draft)))

abbrev pub decreases-pieces : goal.decreases-pieces
decreases-pieces l = length (chars l.rest)
