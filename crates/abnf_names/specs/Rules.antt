-- The rules of a text, by its blocks.
use Rattle.std.specs.Prelude.{◌≡◌, ℕ, ◌+◌, List, [], ◌∷◌, ◌++◌, map, flat_map, filter_map, filter, fold, length, Option, Some, None, option_map, Result, Ok, Err, Bool, false, not, if◌then◌else◌}
use Rattle.std.specs.List.{list_any}
use Rattle.std.specs.Option.{option_map_or}
use Rattle.ls_text.specs.declared.position.Place.{Place}
use Rattle.abnf_token.specs.Folded.{lowercase}
use Rattle.abnf_syntax.specs.declared.fault.SyntaxFault.{SyntaxFault}
use Rattle.abnf_syntax.specs.declared.fault.SyntaxFault.TheVariants as f
use Rattle.abnf_syntax.specs.declared.tree.Rule.{Rule}
use Rattle.abnf_syntax.specs.Heads.{head_of}
use Rattle.abnf_parts.specs.Part.{Part, alt, opaque}
use Rattle.std.specs.Str.{bytes_eq}
use Rattle.abnf_parts.specs.Tree.{parts, alternatives}
use Rattle.abnf_parts.specs.Names.{Name, with_name, rule_number}
use Rattle.abnf_parts.specs.Core.{CoreRule, core_rules, core_name, is_needed}
use Rattle.abnf_names.specs.Said.{Block, AreSaid, name_of}
use Rattle.abnf_names.specs.Places.{Named, places_of}

-- the block defines this name, or adds to it
abbrev pub defines : Name → Block → Bool
defines name block = option_map_or (λ head. bytes_eq (name_of head) name) (head_of block.items) false

-- the block adds to its name, with `=/` (RFC 5234 section 3.3)
abbrev pub adds : Block → Bool
adds block = option_map_or (λ head. head.adds) (head_of block.items) false

-- Of the blocks of a name the first with `=` and all with `=/` count (RFC 5234 section 3.3).
abbrev pub counted : List Block → List Block
counted [] = []
counted (block ∷ blocks) = block ∷ (if adds block then counted blocks else filter adds blocks)

-- the name that a block defines or adds to, if it has a head
abbrev pub head_name : Block → Option Name
head_name block = option_map name_of (head_of block.items)

-- the names that the blocks define, each where it is defined first: the text's own rules have their numbers among these
abbrev pub defined : List Block → List Name
defined blocks = fold with_name [] (filter_map head_name blocks)

-- the names that stand at a place of the text and that no block defines
abbrev pub undefined : List Block → List Name
undefined blocks = filter (λ name. not (list_any (bytes_eq name) (defined blocks))) (map (λ place. lowercase place.text) (places_of blocks))

-- the core rules that are needed for these names
abbrev pub needed : List Block → List CoreRule
needed blocks = filter (is_needed (undefined blocks)) core_rules

-- the names of the rules: those of the text, then those of the needed core rules
abbrev pub names_of : List Block → List Name
names_of blocks = defined blocks ++ map core_name (needed blocks)

-- the number of the rule that a name stands for inside the core rules, where names stand for core rules alone
abbrev pub core_number : List Block → Name → Option ℕ
core_number blocks name = option_map (λ r. length (defined blocks) + r) (rule_number (map core_name (needed blocks)) name)

-- the alternatives that a block says; a faulty one says one that is opaque
abbrev pub alternatives_said : (Name → Option ℕ) → Result Rule SyntaxFault → List Part
alternatives_said number (Ok rule) = alternatives number rule.body
alternatives_said number (Err fault) = opaque ∷ []

-- the alternatives that a block says; of a faulty one a single opaque one
abbrev pub said_alternatives : (Name → Option ℕ) → Block → List Part
said_alternatives number block = alternatives_said number block.said

-- the tree of a name's rule: a choice among the alternatives of all its blocks that count
abbrev pub rule_tree : List Block → Name → Part
rule_tree blocks name = alt (parts (flat_map (said_alternatives (rule_number (names_of blocks))) (counted (filter (defines name) blocks))))

-- the tree of a core rule, inside which names stand for core rules alone
abbrev pub core_tree : List Block → CoreRule → Part
core_tree blocks core = core.tree (core_number blocks)

-- the trees of the rules: those of the text, then those of the needed core rules
abbrev pub rules_of : List Block → List Part
rules_of blocks = map (rule_tree blocks) (defined blocks) ++ map (core_tree blocks) (needed blocks)

-- the place of a fault; there is none for memory
abbrev pub fault_place : SyntaxFault → Option Place
fault_place (f.NoName p) = Some p
fault_place (f.NoDefinedAs p) = Some p
fault_place (f.BadToken p) = Some p
fault_place (f.ElementExpected p) = Some p
fault_place (f.BlankExpected p) = Some p
fault_place (f.Unclosed p) = Some p
fault_place (f.NumberTooLarge p) = Some p
fault_place (f.TooDeep p) = Some p
fault_place f.Memory = None

-- the fault that is said in a rule's place, and where in the text it is
abbrev pub fault_said : Result Rule SyntaxFault → Option (Place × SyntaxFault)
fault_said (Ok rule) = None
fault_said (Err fault) = option_map (λ place. (place, fault)) (fault_place fault)

-- the fault of a block, if it shows one, with its place
abbrev pub block_fault : Block → Option (Place × SyntaxFault)
block_fault block = fault_said block.said

-- the faults of the blocks, each with its place
abbrev pub faults_of : List Block → List (Place × SyntaxFault)
faults_of blocks = filter_map block_fault blocks

-- what is known of a text's grammar: its rules by name, with their trees, the places of names, and the faults of its blocks
pub record Grammar : Type 0 where
  pub text : List ℕ
  pub names : List Name
  pub rules : List Part
  pub places : List Named
  pub faults : List (Place × SyntaxFault)

-- The grammar that the blocks of a text make (RFC 5234 sections 2 and 3 and appendix B.1). The first `=` block of a name and
-- all its `=/` blocks count, names are compared without ASCII case, and rules stand in the order in which their names come
-- first at heads. Then come the core rules that are needed, in the order of the standard. A faulty block with a head counts
-- as one opaque alternative. Inside a core rule names stand for core rules alone.
abbrev pub grammar_of : List ℕ → List Block → Grammar
grammar_of text blocks = record {
  text = text;
  names = names_of blocks;
  rules = rules_of blocks;
  places = places_of blocks;
  faults = faults_of blocks;
}

-- This is the grammar of its text. A text has one (`grammars_exist`), and only one (`grammars_are_unique`).
pub record IsGrammar (g : Grammar) : Type 0 where
  pub blocks : List Block
  pub of_text : AreSaid g.text blocks
  pub is : g ≡ grammar_of g.text blocks

-- These are the places of names in the text, those of its grammar, of which it has one.
pub record HasPlaces (text : List ℕ) (places : List Named) : Type 0 where
  pub grammar : Grammar
  pub of_text : grammar.text ≡ text
  pub right : IsGrammar grammar
  pub are : grammar.places ≡ places
