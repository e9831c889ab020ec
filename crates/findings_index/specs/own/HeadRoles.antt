-- Roles of heads as they are kept, block for block.
use Rattle.std.specs.Prelude.{◌≡◌, ℕ, Bool, true, false, not, ◌&&◌, List, length, Option, Some, None, slice_get, slice_set, take, if◌then◌else◌}
use Rattle.abnf_parts.specs.Names.{Name}
use Rattle.abnf_lint.specs.Marks.{mark_at}
use Rattle.abnf_digests.specs.Digests.{Digest}
use Rattle.abnf_digests.specs.Roles.{Role, role_by}
use Rattle.findings_index.specs.declared.digest.HeadNumber.{HeadNumber}
use Rattle.findings_index.specs.declared.heads.HeadRole.{HeadRole}

-- a role, as it is kept
abbrev pub kept_role : Role → HeadRole
kept_role role = record { is_duplicate = role.is_duplicate; has_no_base = role.has_no_base; is_first = role.is_first }

-- what is kept of a block without a head
abbrev pub not_a_head : HeadRole
not_a_head = record { is_duplicate = false; has_no_base = false; is_first = false }

-- There is one for each digest, which is the role of its head, if it has one.
pub record AreRoles (digests : List Digest) (roles : List HeadRole) : Type 0 where
  pub one_each : length roles ≡ length digests
  pub each : (k : ℕ) (digest : Digest) (head : Name × Bool) → slice_get digests k ≡ Some digest → digest.head ≡ Some head →
      slice_get roles k ≡ Some (kept_role (role_by (take k digests) head))

-- ---- by marks of the names that were seen, and of those that were seen with `=`

-- the role of a head, by whether it adds, whether its name was seen, and whether it was seen with `=`
abbrev pub head_role : Bool → Bool → Bool → HeadRole
head_role adds is_seen has_base = record { is_duplicate = not adds && has_base; has_no_base = adds && not has_base; is_first = not is_seen }

-- the role of a head, if there is one, by the marks before it
abbrev pub role_in : List Bool → List Bool → Option HeadNumber → HeadRole
role_in seen based None = not_a_head
role_in seen based (Some head) = head_role head.adds (mark_at seen head.name) (mark_at based head.name)

-- the marks of names that were seen, with this head
abbrev pub seen_with : Option HeadNumber → List Bool → List Bool
seen_with None seen = seen
seen_with (Some head) seen = slice_set seen head.name true

-- the marks of names that were seen with `=`, with this head
abbrev pub based_with : Option HeadNumber → List Bool → List Bool
based_with None based = based
based_with (Some head) based = if head.adds then based else slice_set based head.name true
