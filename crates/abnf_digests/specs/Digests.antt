-- Digests of blocks: what a block says of names and of what is generated, without its tokens, its trees and its place in the text.
use Rattle.std.specs.Prelude.{◌+◌, ℕ, List, [], ◌∷◌, ◌++◌, map, flat_map, filter_map, filter, fold, length, Option, None, option_map, Bool, false, not, if◌then◌else◌}
use Rattle.std.specs.List.{list_any}
use Rattle.std.specs.Option.{option_map_or}
use Rattle.std.specs.Str.{bytes_eq}
use Rattle.abnf_token.specs.Folded.{lowercase}
use Rattle.abnf_syntax.specs.declared.block.Head.{Head}
use Rattle.abnf_syntax.specs.Heads.{head_of}
use Rattle.abnf_parts.specs.Part.{Part, alt}
use Rattle.abnf_parts.specs.Tree.{parts}
use Rattle.abnf_parts.specs.Names.{Name, with_name, rule_number}
use Rattle.abnf_parts.specs.Core.{CoreRule, core_rules, core_name, is_needed}
use Rattle.abnf_names.specs.Said.{Block, name_of}
use Rattle.abnf_names.specs.Places.{Named, places_in}
use Rattle.abnf_names.specs.Rules.{said_alternatives}
use Rattle.abnf_digests.specs.Gists.{gist, relinked}

-- the name that a block defines, and whether it adds to it; the names that it uses; the gists of the alternatives that it says,
-- with names that stand for nothing yet
pub record Digest : Type 0 where
  pub head : Option (Name × Bool)
  pub uses : List Name
  pub said : List Part

-- of a head its name, and whether it adds to it
abbrev pub head_digest : Head → Name × Bool
head_digest head = (name_of head, head.adds)

-- the names at places that don't define them, with their letters made small
abbrev pub used_names : List Named → List Name
used_names places = map (λ place. lowercase place.text) (filter (λ place. not place.defines) places)

-- each name stands for nothing yet
abbrev pub no_number : Name → Option ℕ
no_number name = None

-- the digest of a block
abbrev pub digest_of : Block → Digest
digest_of block = record {
  head = option_map head_digest (head_of block.items);
  uses = used_names (places_in block.items);
  said = map gist (said_alternatives no_number block);
}

-- ---- what digests say of a text, as its blocks say it

-- by a digest, the name that a block's head defines or adds to, if it has a head
abbrev pub head_name_by : Digest → Option Name
head_name_by digest = option_map (λ head. head.0) digest.head

-- by a digest, whether a block has a head with this name
abbrev pub defines_by : Name → Digest → Bool
defines_by name digest = option_map_or (λ head. bytes_eq head.0 name) digest.head false

-- by a digest, whether a block adds to its name
abbrev pub adds_by : Digest → Bool
adds_by digest = option_map_or (λ head. head.1) digest.head false

-- Of the digests of a name the first with `=` and all with `=/` count (RFC 5234 section 3.3).
abbrev pub counted_by : List Digest → List Digest
counted_by [] = []
counted_by (digest ∷ digests) = digest ∷ (if adds_by digest then counted_by digests else filter adds_by digests)

-- by digests, the names that blocks define, each where it is defined first
abbrev pub defined_by : List Digest → List Name
defined_by digests = fold with_name [] (filter_map head_name_by digests)

-- by digests, the names that blocks use and none defines
abbrev pub undefined_by : List Digest → List Name
undefined_by digests = filter (λ name. not (list_any (bytes_eq name) (defined_by digests))) (flat_map (λ digest. digest.uses) digests)

-- by digests, the core rules that are needed
abbrev pub needed_by : List Digest → List CoreRule
needed_by digests = filter (is_needed (undefined_by digests)) core_rules

-- by digests, the names of the rules, as `names_of` makes them of blocks: those of the text, then those of the needed core
-- rules
abbrev pub names_by : List Digest → List Name
names_by digests = defined_by digests ++ map core_name (needed_by digests)

-- by digests, the number of the rule that a name stands for inside the core rules
abbrev pub core_number_by : List Digest → Name → Option ℕ
core_number_by digests name = option_map (λ r. length (defined_by digests) + r) (rule_number (map core_name (needed_by digests)) name)

-- the gists of the alternatives that a block says, with the rules for which their names stand
abbrev pub said_with : (Name → Option ℕ) → Digest → List Part
said_with number digest = map (relinked number) digest.said

-- the gist of a name's rule
abbrev pub rule_by : List Digest → Name → Part
rule_by digests name = alt (parts (flat_map (said_with (rule_number (names_by digests))) (counted_by (filter (defines_by name) digests))))

-- by digests, the gist of a core rule
abbrev pub core_by : List Digest → CoreRule → Part
core_by digests core = gist (core.tree (core_number_by digests))

-- by digests, the gists of the rules, as `rules_of` makes trees of blocks: those of the text, then those of the needed core
-- rules
abbrev pub rules_by : List Digest → List Part
rules_by digests = map (rule_by digests) (defined_by digests) ++ map (core_by digests) (needed_by digests)
