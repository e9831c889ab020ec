-- What is known of heads by the heads before them, and what two texts find alike.
use Rattle.std.specs.Prelude.{◌≡◌, ◌↔◌, ℕ, Bool, not, ◌&&◌, List, [], ◌∷◌, ◌++◌, filter, Option, option_map}
use Rattle.std.specs.Option.{is_some}
use Rattle.abnf_syntax.specs.declared.block.Head.{Head}
use Rattle.abnf_syntax.specs.Heads.{head_of}
use Rattle.abnf_parts.specs.Names.{Name, rule_number}
use Rattle.abnf_names.specs.Said.{Block, name_of}
use Rattle.abnf_names.specs.Rules.{adds, defined, names_of, rules_of}
use Rattle.abnf_lint.specs.Unproductive.{IsUnproductive}
use Rattle.abnf_digests.specs.Digests.{Digest, adds_by, defined_by}

-- the name is one of these
abbrev pub is_among : List Name → Name → Bool
is_among names name = is_some (rule_number names name)

-- the names that `=` blocks define
abbrev pub names_with_base : List Block → List Name
names_with_base blocks = defined (filter (λ block. not (adds block)) blocks)

-- whether a head is a duplicate, whether it adds to nothing, and whether it is the first of its name
pub record Role : Type 0 where
  pub is_duplicate : Bool
  pub has_no_base : Bool
  pub is_first : Bool

-- the role of a head with this name, where blocks before have heads with these names, and `=` blocks among them with those of
-- `bases`
abbrev pub role : List Name → List Name → Name → Bool → Role
role heads bases name adds = record {
  is_duplicate = not adds && is_among bases name;
  has_no_base = adds && not (is_among bases name);
  is_first = not (is_among heads name);
}

-- the role of a head behind these blocks
abbrev pub role_of : List Block → Head → Role
role_of before head = role (defined before) (names_with_base before) (name_of head) head.adds

-- the roles of the heads of blocks behind those before; a block without a head has none
abbrev pub roles_after : List Block → List Block → List (Option Role)
roles_after before [] = []
roles_after before (block ∷ blocks) = option_map (role_of before) (head_of block.items) ∷ roles_after (before ++ block ∷ []) blocks

-- ---- the same by digests

-- by digests, the names that `=` blocks define
abbrev pub based_by : List Digest → List Name
based_by digests = defined_by (filter (λ digest. not (adds_by digest)) digests)

-- by digests of the blocks before, the role of a head
abbrev pub role_by : List Digest → Name × Bool → Role
role_by before head = role (defined_by before) (based_by before) head.0 head.1

-- by digests, the roles of the heads of blocks behind those before
abbrev pub roles_by : List Digest → List Digest → List (Option Role)
roles_by before [] = []
roles_by before (digest ∷ digests) = option_map (role_by before) digest.head ∷ roles_by (before ++ digest ∷ []) digests

-- ---- two texts

-- Both texts find alike: the same names stand for rules, the same rules generate nothing, and the heads have the same roles,
-- block for block.
pub record FindAlike (blocks others : List Block) : Type 0 where
  pub names : names_of blocks ≡ names_of others
  pub unproductive : (r : ℕ) → IsUnproductive (rules_of blocks) r ↔ IsUnproductive (rules_of others) r
  pub roles : roles_after [] blocks ≡ roles_after [] others
