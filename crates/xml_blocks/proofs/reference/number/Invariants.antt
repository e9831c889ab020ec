use Rattle.std.proofs.Common.{◌≡◌, ◌+◌, length}
use denote.Text.{Utf8}
use denote.Shadow.{shadow}
use Rattle.std.specs.Str.{chars}
use Rattle.std.specs.Prelude.{◌≤◌}
use Rattle.std.specs.Option.{option_map}
use Rattle.xml_blocks.specs.Xml as spec
use Rattle.xml_blocks.proofs.reference.number.Given as goal

abbrev pub invariant-characters : goal.invariant-characters
invariant-characters l = shadow (Utf8 l.rest) × (l.value ≤ 0x10FFFF) × (l.count + length (chars l.rest) ≡ length (chars l.text)) × (option_map (λ r. (r.0, l.count + r.1)) (spec.number l.base l.value (chars l.rest)) ≡ spec.number l.base 0 (chars l.text))

abbrev pub decreases-characters : goal.decreases-characters
decreases-characters l = length (chars l.rest)
