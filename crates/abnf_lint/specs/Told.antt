-- The rows of the table of findings by what is known of a block, and no more than that: its items, its fault, its head, and which names
-- are strange.
use Rattle.std.specs.Prelude.{◌≡◌, ℕ, Bool, true, false, List, [], Option, Some, None, Contains}
use Rattle.ls_text.specs.declared.position.Place.{Place}
use Rattle.abnf_token.specs.Folded.{lowercase}
use Rattle.abnf_syntax.specs.declared.block.Head.{Head}
use Rattle.abnf_syntax.specs.declared.item.Item.{Item}
use Rattle.abnf_syntax.specs.declared.fault.SyntaxFault.{SyntaxFault}
use Rattle.abnf_syntax.specs.declared.fault.SyntaxFault.TheVariants as f
use Rattle.abnf_syntax.specs.Faults.{place_of}
use Rattle.abnf_syntax.specs.Heads.{head_of}
use Rattle.abnf_parts.specs.Names.{Name}
use Rattle.abnf_names.specs.Places.{places_in}
use Rattle.abnf_lint.specs.declared.finding.Code.{Code}
use Rattle.abnf_lint.specs.declared.finding.Code.TheVariants as c
use Rattle.abnf_lint.specs.declared.told.HeadTold.{HeadTold}
use Rattle.abnf_lint.specs.Rows.{syntax_place, IsEmptyRepeat, IsEmptyRange}

-- These items begin with a head, whose name stands at this place and is spelled so.
pub record HeadStands (items : List Item) (place : Place) (name : List ℕ) : Type 0 where
  pub head : Head
  pub heads : head_of items ≡ Some head
  pub at : place ≡ place_of head.name
  pub spelled : name ≡ head.name.text.now

-- This holds of one of the items, which stands at this place.
pub record ItemStands (items : List Item) (place : Place) (Is : Item → Type 0) : Type 0 where
  pub item : Item
  pub among : Contains items item
  pub at : place ≡ place_of item.token
  pub is : Is item

-- The row of a code holds of a block with these items and this fault or none, at this place and with this name in its message, where it is
-- told of its head what is known of it.
module _ (tell : Head → HeadTold) (strange : Name → Bool) (items : List Item) (fault : Option SyntaxFault) where
  abbrev pub RowTold : Place → List ℕ → Code → Type 0
  RowTold place name (c.Syntax shown) = (fault ≡ Some shown) × (syntax_place shown ≡ Some place) × (name ≡ [])
  RowTold place name c.NumberTooLarge = (fault ≡ Some (f.NumberTooLarge place)) × (name ≡ [])
  RowTold place name c.TooDeep = (fault ≡ Some (f.TooDeep place)) × (name ≡ [])
  RowTold place name c.Undefined =
      (fault ≡ None) × Contains (places_in items) (record { text = name; place = place; defines = false }) × (strange (lowercase name) ≡ true)
  RowTold place name c.Duplicate = (stands : HeadStands items place name) × ((tell stands.head).is_duplicate ≡ true)
  RowTold place name c.NoBase = (stands : HeadStands items place name) × ((tell stands.head).has_no_base ≡ true)
  RowTold place name c.EmptyRepeat = (fault ≡ None) × ItemStands items place IsEmptyRepeat × (name ≡ [])
  RowTold place name c.EmptyRange = (fault ≡ None) × ItemStands items place IsEmptyRange × (name ≡ [])
  RowTold place name c.Unproductive = (stands : HeadStands items place name) × ((tell stands.head).is_unproductive ≡ true)
