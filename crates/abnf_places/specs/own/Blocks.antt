-- The blocks of some lines, and the places in them. Only contracts of private functions speak of it.
use Rattle.std.specs.Prelude.{◌≡◌, ℕ, suc, ◌≤◌, true, nat_eq, List, All, filter, flat_map, map}
use Rattle.abnf_token.specs.Classes.{Text}
use Rattle.abnf_syntax.specs.declared.block.Block.{Block}
use Rattle.abnf_syntax.specs.Blocks.{begins_at, AreBlocks, NoneBegins}
use Rattle.abnf_syntax.specs.Bounds.{bounds}
use Rattle.abnf_syntax.specs.Items.{AreItems}
use Rattle.abnf_parts.specs.Names.{Name}
use Rattle.abnf_names.specs.Places.{Named, places_in}
use Rattle.abnf_places.specs.declared.wanted.Wanted.{Wanted}
use Rattle.abnf_places.specs.Wanted.{wanted_places}

-- These are the blocks of the lines from one on, with their items.
pub record AreBlocksFrom (ls : List Text) (from : ℕ) (blocks : List Block) : Type 0 where
  pub all : AreBlocks ls from (map bounds blocks)
  pub items : All (λ b. AreItems ls b.first b.end b.items) blocks

-- the places of names in blocks, in their order
abbrev pub places_of_all : List Block → List Named
places_of_all blocks = flat_map (λ block. places_in block.items) blocks

-- These are the wanted places of a name in all blocks of the lines, in their order.
abbrev pub AreWanted : List Text → Wanted → Name → List Named → Type 0
AreWanted ls wanted name found = (blocks : List Block) → AreBlocksFrom ls 0 blocks → found ≡ wanted_places wanted name (places_of_all blocks)

-- those of some places that are on a line
abbrev pub places_on : ℕ → List Named → List Named
places_on line places = filter (λ named. nat_eq named.place.line line) places

-- the last line up to this one that begins a block
pub record IsStartBefore (ls : List Text) (line first : ℕ) : Type 0 where
  pub reached : first ≤ line
  pub begins : begins_at ls first ≡ true
  pub rest : NoneBegins ls (suc first) (suc line)
