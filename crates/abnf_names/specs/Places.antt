-- The places of names in a text.
use Rattle.std.specs.Prelude.{◌≡◌, ℕ, Bool, true, false, not, ◌&&◌, ◌||◌, nat_le, nat_lt, nat_eq, List, [], ◌∷◌, ◌++◌, flat_map, find, filter, map, drop, All, Option, if◌then◌else◌}
use Rattle.std.specs.List.{list_any}
use Rattle.std.specs.Option.{is_some, option_or}
use Rattle.abnf_token.specs.declared.token.Kind.{Kind}
use Rattle.abnf_token.specs.declared.token.Kind.TheVariants.{Number}
use Rattle.abnf_token.specs.declared.folded.Folded.{Folded}
use Rattle.abnf_token.specs.Folded.{lowercase}
use Rattle.ls_text.specs.declared.position.Place.{Place}
use Rattle.ls_text.specs.Positions.{place_at}
use Rattle.abnf_syntax.specs.declared.item.Item.{Item}
use Rattle.abnf_syntax.specs.Kinds.{is_name_kind, is_bad}
use Rattle.abnf_syntax.specs.Grammar.{kind_of}
use Rattle.abnf_syntax.specs.Faults.{place_of}
use Rattle.abnf_syntax.specs.Heads.{head_of}
use Rattle.std.specs.Str.{bytes_eq}
use Rattle.abnf_parts.specs.Names.{Name}
use Rattle.abnf_names.specs.declared.place.Spot.{Spot}
use Rattle.abnf_names.specs.declared.place.NamePlace.{NamePlace}
use Rattle.abnf_names.specs.declared.place.PlacesOfName.{PlacesOfName}
use Rattle.abnf_names.specs.Said.{Block}

-- A name in the text, as it is written there. `defines` says that it is a block's head.
pub record Named : Type 0 where
  pub text : List ℕ
  pub place : Place
  pub defines : Bool

-- what a spot of the code says: the name as it is written there, the place, and whether it defines
abbrev pub named_at : Spot → Named
named_at s = record { text = s.name.0.now; place = s.place; defines = s.defines }

-- of a name its place, and whether it defines
abbrev pub name_place : Named → NamePlace
name_place n = record { place = n.place; defines = n.defines }

-- the place of an item that is a name; any other item has none
abbrev pub named : Bool → Item → List Named
named defines item = if is_name_kind (kind_of item) then record { text = item.token.text.now; place = place_of item.token; defines = defines } ∷ [] else []

-- the kind is Number
abbrev pub is_number_kind : Kind → Bool
is_number_kind Number = true
is_number_kind _ = false

-- A name that follows a bad token or a number at once has no place, as it is the rest of something misspelled.
abbrev pub is_touched : Kind → Item → Bool
is_touched before item = not item.apart && (is_bad before || is_number_kind before)

-- the place of a name behind an item of this kind, unless that touches it
abbrev pub use_after : Kind → Item → List Named
use_after before item = if is_touched before item then [] else named false item

-- the places of the names among the items behind an item of this kind
abbrev pub uses_after : Kind → List Item → List Named
uses_after before [] = []
uses_after before (item ∷ items) = use_after before item ++ uses_after (kind_of item) items

-- the places of names in a block, faulty or not, in its order; the first item defines its name where the block has a head
abbrev pub places_in : List Item → List Named
places_in [] = []
places_in (item ∷ items) = named (is_some (head_of (item ∷ items))) item ++ uses_after (kind_of item) items

-- the places of names in a text, in its order
abbrev pub places_of : List Block → List Named
places_of blocks = flat_map (λ block. places_in block.items) blocks

-- whether the place holds what stands behind that point, which is an empty place
abbrev pub holds : Place → Named → Bool
holds at n = nat_eq n.place.line at.line && (nat_le n.place.start at.start && nat_lt at.start n.place.end)

-- whether the place ends at that point
abbrev pub ends_at : Place → Named → Bool
ends_at at n = nat_eq n.place.line at.line && nat_eq n.place.end at.start

-- the first place that holds what stands behind that point, else the first that ends there
abbrev pub found_at : Place → List Named → Option Named
found_at at places = option_or (find (holds at) places) (find (ends_at at) places)

-- the first spot that holds what stands behind that point, else the first that ends there
abbrev pub spot_at : Place → List Spot → Option Spot
spot_at at spots = option_or (find (λ spot. holds at (named_at spot)) spots) (find (λ spot. ends_at at (named_at spot)) spots)

-- the name that is found at an offset, which counts characters of the text: at the first place that holds what stands behind
-- it, else at the first that ends there
abbrev pub at_offset : List ℕ → List Named → ℕ → Option Named
at_offset text places offset = found_at (place_at text offset) places

-- of a name its place, and the name as it is written there
abbrev pub place_and_text : Named → Place × List ℕ
place_and_text n = (n.place, n.text)

-- of a place with its name as the code has it the place, and the name as it is written there
abbrev pub place_and_name : Place × Folded → Place × List ℕ
place_and_name p = (p.0, p.1.0.now)

-- the places of a name, in any case of letters, in the order of the text
abbrev pub places_of_name : Name → List Named → List Named
places_of_name name places = filter (λ n. bytes_eq name (lowercase n.text)) places

-- the places of a name among those of all names
abbrev pub places_among : Folded → List Spot → List NamePlace
places_among name spots = map name_place (places_of_name (lowercase name.0.now) (map named_at spots))

-- the places that an iterator still gives
abbrev pub places_left : PlacesOfName → List NamePlace
places_left p = places_among p.name (drop p.passed p.spots.now)

-- Some place defines the name, or adds to it, perhaps in a faulty block.
abbrev pub is_defined : List Named → Name → Bool
is_defined places name = list_any (λ n. n.defines) (places_of_name name places)

-- the place begins before this byte of this line
abbrev pub begins_before : ℕ → ℕ → Named → Bool
begins_before line start n = nat_lt n.place.line line || (nat_eq n.place.line line && nat_lt n.place.start start)

-- The place begins before each of these.
abbrev pub AllBehind : Named → List Named → Type 0
AllBehind n ns = All (λ m. begins_before m.place.line m.place.start n ≡ true) ns

-- Each place begins before all that follow it, by line and bytes. So do the places of names in a text (`places_ascend`).
abbrev pub Ascend : List Named → Type 0
Ascend [] = Unit {0}
Ascend (n ∷ ns) = AllBehind n ns × Ascend ns
