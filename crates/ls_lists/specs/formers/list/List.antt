-- How a `List` holds its items, so that a type may reach itself through it: as the list of them, which is its
-- model too. Its one field is a `Vec`, and all facts on places and codes are those of a `Vec`.
use mathlib.Core.Path.{◌≡◌, refl, sym}
use mathlib.Core.List as lists
use mathlib.Core.Former.{Former, this, list, via, children}
use base.Stored.{code_map}
use denote.RattleType.{RattleType}
use denote.HoleLaws.{Alike}
use denote.HolePlaces.{Recodes, struct_places, laid}
use denote.Hole.Carrier.{listed, list-listed}
use denote.Hole.Fix.{over}
use denote.Param.Weighed.{Weighed, w_list}
use denote.Model.Placed.{view_places}
use Rattle.std.specs.formers.vec.Vec as vec_former
use Rattle.std.specs.declared.alloc.Global.{Global}
use Rattle.std.specs.contracts.alloc.Global as global
use Rattle.std.specs.contracts.impls.GlobalAllocator.TheImpl.{ghosts}
use Rattle.ls_lists.specs.declared.list.List.TheInside.{Inside}
use Rattle.ls_lists.specs.declared.list.List.TheView.{view, invariant}
use Rattle.ls_lists.specs.contracts.list.List as outside
use Rattle.ls_lists.specs.contracts.list.List.TheInside as inside

-- the shape is a list, and the values in it are the items
abbrev pub the_former : Former {0} → Former {0}
the_former item = list item

-- the largest measure among the items
abbrev pub the_weighed : {item : Former {0}} → Weighed item → Weighed (the_former item)
the_weighed weighed = w_list weighed

-- a list with no item
pub the_empty : lists.List ⊥
the_empty = lists.[]

-- the items of a list as a list: the list itself
abbrev pub the_items : (T : Type 0) → lists.List T → lists.List T
the_items T items = items

-- the items are what the shape holds, in order
pub the_items_listed : (T : Type 0) (items : lists.List T) → listed _ (children (the_former this) T items) ≡ the_items T items
the_items_listed T items = list-listed T items

-- the field, seen as the list
abbrev field : Former {0}
field =
    via (vec_former.the_former this Global) Inside
    (λ T fields. fields.vec) (λ T vec. record { vec = vec }) (λ T fields. refl) (λ T vec. refl)

module _ (From To : RattleType) (along : From.Denot → To.Denot) where
  -- lists of items that lie alike lie alike
  pub the_places : Alike From To along → Alike (outside.the_row From) (outside.the_row To) ((the_former this).map From.Denot To.Denot along)
  the_places alike =
      view_places field (list this) view (λ X Y k fields. refl) (λ X fields. refl) From.Denot To.Denot along
      (outside.the_row From).coded (outside.the_row To).coded (invariant From.Denot) (invariant To.Denot)
      (λ fields p q. refl) (λ fields p q. refl) (λ fields e. tt) (λ fields e. tt)
      (over (inside.the_row From)) (over (inside.the_row To))
      (struct_places (inside.the_type From) (inside.the_type To) (vec_former.mapped along, tt) _ (λ fields. refl) refl
      (laid _ _ _ (vec_former.the_places global.the_row ghosts From To along alike), tt))

  -- the code of a list of items is that of the list of their codes
  pub the_codes_placed : Recodes From To along → Recodes (outside.the_row From) (outside.the_row To) ((the_former this).map From.Denot To.Denot along)
  the_codes_placed recodes items = sym (code_map From.coded.code To.coded.code along (λ item. sym (recodes item)) items)
