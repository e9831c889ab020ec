-- The JSON of positions and ranges. Members stand in the order of their keys.
use Rattle.std.specs.Prelude.{codes}
use Rattle.serde_json.specs.Data.{Data, number, object, unsigned, member, no_members}
use Rattle.ls_text.specs.declared.position.Position.{Position}
use Rattle.ls_text.specs.declared.position.Range.{Range}

-- a place in a text (LSP 3.17, "Position")
abbrev pub position_json : Position → Data
position_json position =
    object (member (codes "character") (number (unsigned position.character))
    (member (codes "line") (number (unsigned position.line)) no_members))

-- what stands between two places (LSP 3.17, "Range")
abbrev pub range_json : Range → Data
range_json range =
    object (member (codes "end") (position_json range.end)
    (member (codes "start") (position_json range.start) no_members))
