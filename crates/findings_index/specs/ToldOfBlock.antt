-- What is known of a block by the other blocks, and what is found in it by its items, its fault and no more than that.
use Rattle.std.specs.Prelude.{◌≡◌, ◌↔◌, ℕ, Bool, true, false, not, ◌&&◌, List, Option, Some, Contains}
use Rattle.std.specs.List.{list_any}
use Rattle.std.specs.Option.{option_map_or}
use Rattle.std.specs.Str.{bytes_eq}
use Rattle.ls_text.specs.declared.position.Place.{Place}
use Rattle.abnf_syntax.specs.declared.item.Item.{Item}
use Rattle.abnf_syntax.specs.declared.fault.SyntaxFault.{SyntaxFault}
use Rattle.abnf_parts.specs.Names.{Name}
use Rattle.abnf_parts.specs.Core.{is_core_name}
use Rattle.abnf_lint.specs.declared.finding.Code.{Code}
use Rattle.abnf_lint.specs.declared.told.HeadTold.{HeadTold}
use Rattle.abnf_lint.specs.Told as rows
use Rattle.abnf_digests.specs.Digests.{Digest, defined_by}
use Rattle.abnf_digests.specs.Roles.{Role, role_by}
use Rattle.findings_index.specs.Holding.{HoldsBy, IsStrange}
use Rattle.findings_index.specs.Leading.{LeadsToOpaqueBy}

-- The name neither holds nor leads to something opaque.
abbrev pub IsIdleBy : List Digest → Name → Type 0
IsIdleBy digests name = ((k : ℕ) → HoldsBy digests k name → ⊥) × ((uses : ℕ) → LeadsToOpaqueBy digests uses name → ⊥)

-- what is known of a block by the others: the role of its head, whether the head's name is idle, and which names are strange
pub record ToldOfBlock : Type 0 where
  pub role : Role
  pub idle : Bool
  pub strange : Name → Bool

-- This is known of a block with this digest, where these are the digests of all blocks and of those before it: of its head, if it has one,
-- of the head's name, if it is the first of its name, and of the names that the block uses.
pub record IsToldOf (digests before : List Digest) (digest : Digest) (told : ToldOfBlock) : Type 0 where
  pub role : (head : Name × Bool) → digest.head ≡ Some head → told.role ≡ role_by before head
  pub idle : (head : Name × Bool) → digest.head ≡ Some head → told.role.is_first ≡ true → (told.idle ≡ true) ↔ IsIdleBy digests head.0
  pub strange : (name : Name) → Contains digest.uses name → (told.strange name ≡ true) ↔ IsStrange digests name

-- The same as `IsStrange`, by a test of the names that blocks define: none defines the name, and no core rule has it.
abbrev pub is_strange : (Name → Bool) → Name → Bool
is_strange defines name = not (is_core_name name) && not (defines name)

-- of a block without a head no role holds
abbrev pub no_role : Role
no_role = record { is_duplicate = false; has_no_base = false; is_first = false }

-- what is known of a block with this digest, by those of all blocks and of those before it, and by marks of names, which say which hold,
-- and which lead to something opaque
abbrev pub told_by_marks : List Digest → List Digest → (Name → Bool) → (Name → Bool) → Digest → ToldOfBlock
told_by_marks digests before held led digest = record {
  role = option_map_or (role_by before) digest.head no_role;
  idle = option_map_or (λ head. not (held head.0) && not (led head.0)) digest.head false;
  strange = is_strange (λ name. list_any (bytes_eq name) (defined_by digests));
}

-- ---- what is found

-- what is known of a block's head
abbrev pub head_told : ToldOfBlock → HeadTold
head_told told = record { is_duplicate = told.role.is_duplicate; has_no_base = told.role.has_no_base; is_unproductive = told.role.is_first && told.idle }

-- The row of a code holds of a block with these items and this fault or none, at this place and with this name in its message.
abbrev pub RowTold : ToldOfBlock → List Item → Option SyntaxFault → Place → List ℕ → Code → Type 0
RowTold told items fault = rows.RowTold (λ head. head_told told) told.strange items fault
