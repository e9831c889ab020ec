-- How far sweeps over the rules have come.
use Rattle.std.specs.Prelude.{◌≡◌, List, length}
use Rattle.abnf_parts.specs.Part.{Part, parts_of}
use Rattle.abnf_least.specs.Table.{HasRoomAbove}
use Rattle.abnf_least.specs.declared.sweep.Sweeps.{Sweeps}

-- there is an entry for each part and a pair of times for each rule, and one may be added to each height
pub record AreSweepsOf (trees : List Part) (sweeps : Sweeps) : Type 0 where
  pub parts : length sweeps.table.items ≡ length (parts_of trees)
  pub rules : length sweeps.times.items ≡ length trees
  pub room : HasRoomAbove sweeps.table.items
