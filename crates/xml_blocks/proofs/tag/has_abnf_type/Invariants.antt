use Rattle.std.proofs.Common.{◌≡◌, length}
use denote.Text.{Utf8}
use denote.Shadow.{shadow}
use Rattle.std.specs.Str.{chars}
use Rattle.std.specs.Prelude.{None}
use Rattle.xml_blocks.specs.Xml as spec
use Rattle.xml_blocks.proofs.tag.has_abnf_type.Given as goal

abbrev pub invariant-characters : goal.invariant-characters
invariant-characters l = shadow (Utf8 l.rest) × (spec.has_abnf_type l.quote (chars l.rest) ≡ spec.has_abnf_type None (chars l.tag))

abbrev pub decreases-characters : goal.decreases-characters
decreases-characters l = length (chars l.rest)
