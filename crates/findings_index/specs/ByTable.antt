-- What is known of a block by flags of its own and marks beside a table of names.
use Rattle.std.specs.Prelude.{◌≡◌, ℕ, Bool, true, false, not, ◌&&◌, List, length, map, take, Some, slice_get}
use Rattle.std.specs.List.{list_any}
use Rattle.std.specs.Option.{option_map_or}
use Rattle.std.specs.Str.{bytes_eq}
use Rattle.abnf_parts.specs.Names.{Name, rule_number}
use Rattle.abnf_lint.specs.Marks.{mark_at}
use Rattle.abnf_digests.specs.Digests.{Digest, defined_by}
use Rattle.abnf_digests.specs.Roles.{Role, role_by}
use Rattle.findings_index.specs.declared.found_in.BlockTold.{BlockTold}
use Rattle.findings_index.specs.ToldOfBlock.{ToldOfBlock, is_strange}

-- the mark at the name's number in the table; false of a name that isn't in the table
abbrev pub name_mark : List Name → List Bool → Name → Bool
name_mark table marks name = option_map_or (mark_at marks) (rule_number table name) false

-- The name is that of no core rule, and isn't marked as one that a block defines.
abbrev pub strange_by : List Name → List Bool → Name → Bool
strange_by table defined = is_strange (name_mark table defined)

-- the role of a block's head, by its flags
abbrev pub flagged_role : BlockTold → Role
flagged_role told = record { is_duplicate = told.is_duplicate; has_no_base = told.has_no_base; is_first = told.is_first }

-- what is known of a block: its role and whether its name is idle by its flags, and which names are strange
abbrev pub told_of_flags : BlockTold → (Name → Bool) → ToldOfBlock
told_of_flags told strange = record { role = flagged_role told; idle = told.is_idle; strange = strange }

-- what is known of blocks by these flags, of each by its own
abbrev pub all_told : (Name → Bool) → List BlockTold → List ToldOfBlock
all_told strange tolds = map (λ told. told_of_flags told strange) tolds

-- ---- flags and marks that are right

-- The marks say which names these digests define.
abbrev pub AreDefinedMarks : List Digest → List Name → List Bool → Type 0
AreDefinedMarks digests table defined = (name : Name) → name_mark table defined name ≡ list_any (bytes_eq name) (defined_by digests)

-- These are the flags of a block with this digest, behind blocks with those before, where it is known which names hold, and which lead to
-- something opaque: of its head, if it has one, the role, and, where it is the first of its name, whether the name is idle.
pub record IsFlagged (before : List Digest) (held led : Name → Bool) (digest : Digest) (told : BlockTold) : Type 0 where
  pub role : (head : Name × Bool) → digest.head ≡ Some head → flagged_role told ≡ role_by before head
  pub idle : (head : Name × Bool) → digest.head ≡ Some head → told.is_first ≡ true → told.is_idle ≡ (not (held head.0) && not (led head.0))

-- So it is of the flags of all blocks, one for each.
pub record AreFlagged (digests : List Digest) (held led : Name → Bool) (tolds : List BlockTold) : Type 0 where
  pub one_each : length tolds ≡ length digests
  pub each : (k : ℕ) (digest : Digest) (told : BlockTold) → slice_get digests k ≡ Some digest → slice_get tolds k ≡ Some told → IsFlagged (take k digests) held led digest told
