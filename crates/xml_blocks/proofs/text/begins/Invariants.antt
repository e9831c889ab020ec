use Rattle.std.proofs.Common.{◌≡◌, length}
use denote.Text.{Utf8}
use denote.Shadow.{shadow}
use Rattle.std.specs.Str.{chars}
use Rattle.xml_blocks.specs.Xml as spec
use Rattle.xml_blocks.proofs.text.begins.Given as goal

abbrev pub invariant-characters : goal.invariant-characters
invariant-characters l = shadow (Utf8 l.rest) × (spec.begins_with_mark l.left (chars l.rest) ≡ spec.begins_with_mark l.mark (chars l.text))

abbrev pub decreases-characters : goal.decreases-characters
decreases-characters l = length (chars l.rest)
