-- What the pass over a text's blocks holds. Only contracts of private functions speak of it.
use Rattle.std.specs.Prelude.{◌≡◌, ◌<◌, ℕ, Bool, true, false, not, ◌&&◌, ◌||◌, List, [], ◌∷◌, ◌++◌, Contains, length, slice_get, slice_index_or, Some, None, if◌then◌else◌}
use Rattle.std.specs.Option.{option_map_or}
use Rattle.abnf_syntax.specs.declared.block.Head.{Head}
use Rattle.abnf_syntax.specs.Heads.{head_of}
use Rattle.abnf_parts.specs.declared.node.Node.{Node}
use Rattle.abnf_parts.specs.declared.node.Node.TheVariants.{Ref, Rep, Span}
use Rattle.abnf_parts.specs.Names.{Name, rule_number, with_name}
use Rattle.abnf_parts.specs.Part.{Part, span, rep, ref, subparts}
use Rattle.abnf_names.specs.Said.{name_of}
use Rattle.abnf_names.specs.Excerpts.{Excerpt}
use Rattle.abnf_lint.specs.declared.block.Seen.{Seen}
use Rattle.abnf_lint.specs.declared.finding.Finding.{Finding}
use Rattle.abnf_lint.specs.declared.told.HeadTold.{HeadTold}
use Rattle.abnf_lint.specs.Empty.{is_above, is_turned}
use Rattle.abnf_lint.specs.own.Findings.{block_findings, has_name, said_findings}

-- the names of heads, and that of one more block's head
abbrev pub with_head : List Name → Excerpt → List Name
with_head heads block = option_map_or (λ head. with_name heads (name_of head)) (head_of block.items) heads

-- the names of `=` blocks, and that of one more block unless it adds
abbrev pub with_base : List Name → Excerpt → List Name
with_base bases block = option_map_or (λ head. if head.adds then bases else with_name bases (name_of head)) (head_of block.items) bases

-- what is found of blocks behind those with these heads
abbrev pub findings_behind : List Bool → List Name → List Name → List Name → List Excerpt → List Finding
findings_behind marks names heads bases [] = []
findings_behind marks names heads bases (block ∷ blocks) =
    block_findings marks names heads bases block ++ findings_behind marks names (with_head heads block) (with_base bases block) blocks

-- what blocks with these heads say of a name, where `=` blocks among them have those of `bases`
abbrev pub seen_of : List Name → List Name → Name → Seen
seen_of heads bases name = record { is_head = has_name heads name; is_base = has_name bases name }

-- beside each rule stands what the blocks say of its name
abbrev pub HaveSeen : List Name → List Name → List Name → List Seen → Type 0
HaveSeen names heads bases seen = (name : Name) (r : ℕ) → rule_number names name ≡ Some r → slice_get seen r ≡ Some (seen_of heads bases name)

-- what blocks say of a name, with one more head of it
abbrev pub seen_more : Seen → Head → Seen
seen_more before head = record { is_head = true; is_base = before.is_base || not head.adds }

-- what is known of a head, by what the blocks before say of its name
abbrev pub told_of_head : Seen → Bool → Head → HeadTold
told_of_head before marked head = record {
  is_duplicate = not head.adds && before.is_base;
  has_no_base = head.adds && not before.is_base;
  is_unproductive = not before.is_head && marked;
}

-- the name of the block's head has a rule, beside which there is a mark
abbrev pub HasMark : List Name → List Seen → Excerpt → Type 0
HasMark names seen block = (head : Head) → head_of block.items ≡ Some head → (r : ℕ) × (rule_number names (name_of head) ≡ Some r) × (r < length seen)

-- the names of the blocks' heads have rules
abbrev pub HaveRules : List Name → List Excerpt → Type 0
HaveRules names [] = Unit {0}
HaveRules names (block ∷ blocks) = ((head : Head) → head_of block.items ≡ Some head → has_name names (name_of head) ≡ true) × HaveRules names blocks

-- nothing is found at the node: its name stands for a rule, if it has one, and no range and no repetition is empty
abbrev pub is_sound : Node → Bool
is_sound (Ref name None) = false
is_sound (Span low high) = not (is_turned (Some (low, high)))
is_sound (Rep least most body) = not (is_above least most)
is_sound _ = true

-- nothing is found where the part stands
abbrev pub is_sound_part : Part → Bool
is_sound_part (ref name None) = false
is_sound_part (span low high) = not (is_turned (Some (low, high)))
is_sound_part (rep least most p) = not (is_above least most)
is_sound_part _ = true

-- nothing is found where the parts of a rule stand
abbrev pub IsSoundRule : List Part → ℕ → Type 0
IsSoundRule rules r = (tree : Part) → slice_get rules r ≡ Some tree → (p : Part) → Contains (subparts tree) p → is_sound_part p ≡ true

-- a mark stands beside such rules alone
abbrev pub AreSoundMarks : List Part → List Bool → Type 0
AreSoundMarks rules marks = (r : ℕ) → slice_index_or marks r false ≡ true → IsSoundRule rules r

-- the block counts among those of its name: it adds, or no block before defines the name with `=`
abbrev pub counts : List Name → Excerpt → Bool
counts bases block = option_map_or (λ head. head.adds || not (has_name bases (name_of head))) (head_of block.items) false

-- nothing is found at the items of the block, if it has no fault
abbrev pub IsSoundBlock : List Name → Excerpt → Type 0
IsSoundBlock names block = block.fault ≡ None → said_findings names block ≡ []

-- Nothing is found at the items of the block if it counts, by what the blocks before say of its head's name, and a mark
-- stands beside the name's rule.
abbrev pub IsSoundIfMarked : List Bool → List Name → List Seen → Excerpt → Type 0
IsSoundIfMarked marks names seen block =
    (head : Head) → head_of block.items ≡ Some head → (r : ℕ) → rule_number names (name_of head) ≡ Some r → slice_index_or marks r false ≡ true
    → (before : Seen) → slice_get seen r ≡ Some before → (head.adds || not before.is_base) ≡ true → IsSoundBlock names block

-- nothing is found at the items of a block that counts, if a mark stands beside its rule
abbrev pub IsSoundWhereMarked : List Bool → List Name → List Name → Excerpt → Type 0
IsSoundWhereMarked marks names bases block =
    counts bases block ≡ true → (head : Head) → head_of block.items ≡ Some head → (r : ℕ) → rule_number names (name_of head) ≡ Some r → slice_index_or marks r false ≡ true → IsSoundBlock names block

-- nothing is found at the items of each of these blocks that counts, if a mark stands beside its rule
abbrev pub AreSoundWhereMarked : List Bool → List Name → List Name → List Excerpt → Type 0
AreSoundWhereMarked marks names bases [] = Unit {0}
AreSoundWhereMarked marks names bases (block ∷ blocks) = IsSoundWhereMarked marks names bases block × AreSoundWhereMarked marks names (with_base bases block) blocks
