use Rattle.std.proofs.Common.{◌≡◌, ◌+◌, length}
use denote.Text.{Utf8}
use denote.Shadow.{shadow}
use Rattle.std.specs.Str.{chars}
use Rattle.std.specs.Prelude.{None}
use Rattle.std.specs.Option.{option_map}
use Rattle.xml_blocks.specs.Xml as spec
use Rattle.xml_blocks.proofs.tag.quoted_len.Given as goal

abbrev pub invariant-characters : goal.invariant-characters
invariant-characters l = shadow (Utf8 l.rest) × (l.count + length (chars l.rest) ≡ length (chars l.text)) × (option_map (λ n. l.count + n) (spec.quoted_len l.quote (chars l.rest)) ≡ spec.quoted_len None (chars l.text))

abbrev pub decreases-characters : goal.decreases-characters
decreases-characters l = length (chars l.rest)
