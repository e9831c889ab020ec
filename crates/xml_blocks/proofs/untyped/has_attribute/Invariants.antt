use Rattle.std.proofs.Common.{◌≡◌, length}
use denote.Text.{Utf8}
use denote.Shadow.{shadow}
use Rattle.std.specs.Str.{chars}
use Rattle.std.specs.Prelude.{None}
use Rattle.xml_blocks.specs.Unread.{has_attribute}
use Rattle.xml_blocks.proofs.untyped.has_attribute.Given as goal

abbrev pub invariant-characters : goal.invariant-characters
invariant-characters l = shadow (Utf8 l.rest) × (has_attribute l.name l.quote (chars l.rest) ≡ has_attribute l.name None (chars l.tag))

abbrev pub decreases-characters : goal.decreases-characters
decreases-characters l = length (chars l.rest)
