use Rattle.std.proofs.Common.{◌≡◌, drop}
use denote.Text.{Utf8}
use denote.Shadow.{shadow}
use Rattle.std.specs.Str.{chars}
use Rattle.xml_blocks.proofs.text.walked.Given as goal

abbrev pub invariant-characters : goal.invariant-characters
invariant-characters l = shadow (Utf8 l.rest) × (drop l.left (chars l.rest) ≡ drop l.count (chars l.text))

abbrev pub decreases-characters : goal.decreases-characters
decreases-characters l = l.left
