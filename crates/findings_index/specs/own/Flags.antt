-- What is known of blocks, by the roles of their heads and by marks of names.
use Rattle.std.specs.Prelude.{ℕ, Bool, false, not, ◌&&◌, List, [], ◌∷◌, Option, Some, None}
use Rattle.abnf_lint.specs.Marks.{mark_at}
use Rattle.findings_index.specs.declared.digest.HeadNumber.{HeadNumber}
use Rattle.findings_index.specs.declared.digest.BlockDigest.{BlockDigest}
use Rattle.findings_index.specs.declared.found_in.BlockTold.{BlockTold}
use Rattle.findings_index.specs.declared.heads.HeadRole.{HeadRole}
use Rattle.findings_index.specs.declared.word.Word.{Word}
use Rattle.findings_index.specs.declared.word.Word.TheVariants as w

-- The name of a head is marked neither as one that holds nor as one that leads to something opaque.
abbrev pub is_idle : List Bool → List Bool → Option HeadNumber → Bool
is_idle held led None = false
is_idle held led (Some head) = not (mark_at held head.name) && not (mark_at led head.name)

-- the flags of a block, by its head, the role of that, and marks of names
abbrev pub flag : List Bool → List Bool → Option HeadNumber → HeadRole → BlockTold
flag held led head role = record { is_duplicate = role.is_duplicate; has_no_base = role.has_no_base; is_first = role.is_first; is_idle = is_idle held led head }

-- the flags of blocks, one for each, by their heads, roles, and marks of names
abbrev pub flags : List Bool → List Bool → List BlockDigest → List HeadRole → List BlockTold
flags held led (block ∷ blocks) (role ∷ roles) = flag held led block.head role ∷ flags held led blocks roles
flags held led _ _ = []

-- The name with this number is marked neither as one that a block defines nor as one of a core rule.
abbrev pub is_strange_number : List Bool → List Bool → ℕ → Bool
is_strange_number defined core number = not (mark_at defined number) && not (mark_at core number)

-- The word is a marked name.
abbrev pub is_marked_name : (ℕ → Bool) → Word → Bool
is_marked_name marks (w.Name number) = marks number
is_marked_name marks _ = false
