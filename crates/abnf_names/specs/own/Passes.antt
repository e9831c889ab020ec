-- What the passes over a text's blocks hold. Only contracts of private functions speak of it.
use Rattle.std.specs.Prelude.{◌≡◌, ℕ, Bool, List, [], ◌∷◌, All, map, flat_map, fold, filter, filter_map, length, Option, Some, None, option_map, Result, false, if◌then◌else◌}
use Rattle.std.specs.Option.{option_map_or}
use Rattle.ls_text.specs.declared.position.Place.{Place}
use Rattle.abnf_syntax.specs.declared.item.Item.{Item}
use Rattle.abnf_syntax.specs.declared.fault.SyntaxFault.{SyntaxFault}
use Rattle.abnf_syntax.specs.declared.tree.Rule.{Rule}
use Rattle.abnf_names.specs.declared.section.Section.{Section}
use Rattle.abnf_names.specs.declared.section.Listed.{Listed}
use Rattle.abnf_token.specs.Folded.{lowercase}
use Rattle.abnf_parts.specs.Names.{Name, with_name}
use Rattle.std.specs.Str.{bytes_eq}
use Rattle.abnf_names.specs.Said.{Block, BlockSays, name_of}
use Rattle.abnf_names.specs.Places.{Named, named_at, places_of}
use Rattle.abnf_names.specs.Rules.{adds, alternatives_said, defined, fault_place, needed, rules_of}
use Rattle.abnf_names.specs.Excerpts.{Excerpt, excerpt, excerpt_of}
use Rattle.abnf_names.specs.Sections.{IsSaidBy}
use Rattle.abnf_syntax.specs.Heads.{head_of}
use Rattle.abnf_names.specs.declared.text_names.NamesOfText.{NamesOfText}
use Rattle.abnf_names.specs.declared.rules.Rules.{Rules}
use Rattle.abnf_parts.specs.Nodes.{trees_at}
use Rattle.abnf_parts.specs.Pushed.{AddsTrees}
use Rattle.abnf_parts.specs.Reach.{AreReaching}
use Rattle.abnf_parts.specs.Part.{Part, alt}
use Rattle.abnf_parts.specs.Tree.{parts}
use Rattle.abnf_parts.specs.Core.{core_name, is_core_name}

-- the fault of a section with its place
abbrev pub section_fault : Section → Option (Place × SyntaxFault)
section_fault section = shown_at section.fault
  where
    shown_at : Option SyntaxFault → Option (Place × SyntaxFault)
    shown_at None = None
    shown_at (Some fault) = option_map (λ place. (place, fault)) (fault_place fault)

-- whether the items' head has `=/` behind its name
abbrev pub is_addition : List Item → Bool
is_addition items = option_map_or (λ head. head.adds) (head_of items) false

-- whether `=/` follows the name at a block's head, and what the block says
pub record HeadSaid : Type 0 where
  pub adds : Bool
  pub said : Result Rule SyntaxFault

-- of a block whether it adds to its name, and what it says
abbrev pub definition_of : Block → HeadSaid
definition_of block = record { adds = adds block; said = block.said }

-- the section's block says this of its name
pub record IsToldDefinition (section : Section) (definition : HeadSaid) : Type 0 where
  pub adds : is_addition section.block.items ≡ definition.adds
  pub said : IsSaidBy section definition.said

-- the lists have the same length, and what stands side by side is related
abbrev pub AreBeside : {A B : Type 0} → (A → B → Type 0) → List A → List B → Type 0
AreBeside R [] [] = Unit {0}
AreBeside R (x ∷ xs) (y ∷ ys) = R x y × AreBeside R xs ys
AreBeside R _ _ = ⊥

-- the sections' blocks say these definitions
abbrev pub AreTold : List Listed → List HeadSaid → Type 0
AreTold sections definitions = AreBeside (λ listed definition. IsToldDefinition listed.section.now definition) sections definitions

-- name by name the sections' blocks say these definitions
abbrev pub AllTold : List (List Listed) → List (List HeadSaid) → Type 0
AllTold own definitions = AreBeside AreTold own definitions

-- the definition adds to its name
abbrev pub is_adding : HeadSaid → Bool
is_adding d = d.adds

-- of a name's definitions those that count: the first that doesn't add, and all that add
abbrev pub counted_among : List HeadSaid → List HeadSaid
counted_among [] = []
counted_among (d ∷ ds) = d ∷ (if is_adding d then counted_among ds else filter is_adding ds)

-- the alternatives that a definition says
abbrev pub alternatives_of : (Name → Option ℕ) → HeadSaid → List Part
alternatives_of number d = alternatives_said number d.said

-- the rule whose name has these definitions
abbrev pub tree_of : (Name → Option ℕ) → List HeadSaid → Part
tree_of number definitions = alt (parts (flat_map (alternatives_of number) (counted_among definitions)))

-- Names, and beside each the things that were put under it.
abbrev pub Grouped : Type 0 → Type 0
Grouped T = List Name × List (List T)

-- the things under a name
abbrev pub members_in : {T : Type 0} → List Name → List (List T) → Name → List T
members_in [] members name = []
members_in (n ∷ names) [] name = []
members_in (n ∷ names) (list ∷ members) name = if bytes_eq name n then list else members_in names members name

-- the things that were put under a name
abbrev pub members_of : {T : Type 0} → Grouped T → Name → List T
members_of groups name = members_in groups.0 groups.1 name

-- one more thing, where the names are the same
abbrev pub if_same : {T : Type 0} → Name → Name → T → List T
if_same name other item = if bytes_eq name other then item ∷ [] else []

-- the names that excerpts define, each where it is defined first
abbrev pub names_defined : List Excerpt → List Name
names_defined excerpts = fold with_name [] (filter_map (λ e. option_map name_of (head_of e.items)) excerpts)

-- the excerpt has a head with this name
abbrev pub defines_name : Name → Excerpt → Bool
defines_name name e = option_map_or (λ head. bytes_eq (name_of head) name) (head_of e.items) false

-- the names that these excerpts define, and under each name the sections that have its excerpts
pub record AreGrouped (excerpts : List Excerpt) (groups : Grouped Listed) : Type 0 where
  pub names : groups.0 ≡ names_defined excerpts
  pub members : (name : Name) → map (λ listed. excerpt listed.section.now) (members_of groups name) ≡ filter (defines_name name) excerpts

-- the names that these blocks define, and beside each its sections
pub record AreDefined (blocks : List Block) (own : List Name) (sections : List (List Listed)) : Type 0 where
  pub says : All (λ block. BlockSays block.items block.said) blocks
  pub groups : AreGrouped (map excerpt_of blocks) (own, sections)
  pub beside : length own ≡ length sections

-- one more name, if a core rule has it
abbrev pub with_core_name : List Name → Name → List Name
with_core_name names name = if is_core_name name then with_name names name else names

-- the names of core rules that stand at these places, each where it stands first
abbrev pub stated : List Named → List Name
stated places = fold with_core_name [] (map (λ place. lowercase place.text) places)

-- the names of the rules of the text, and those of the needed core rules
pub record AreNames (blocks : List Block) (names : List Name × List Name) : Type 0 where
  pub own : names.0 ≡ defined blocks
  pub core : names.1 ≡ map core_name (needed blocks)

-- the places of the names of these blocks, and the names of core rules that stand there
pub record AreNamesOfText (blocks : List Block) (found : NamesOfText) : Type 0 where
  pub spots : map named_at found.spots ≡ places_of blocks
  pub stated : found.stated ≡ stated (map named_at found.spots)

-- the sections are those of these blocks, and the names stand at these places in them
pub record AreRead (sections : List Section) (found : NamesOfText) (blocks : List Block) : Type 0 where
  pub says : All (λ block. BlockSays block.items block.said) blocks
  pub excerpts : map excerpt sections ≡ map excerpt_of blocks
  pub places : AreNamesOfText blocks found

-- some blocks are those of the sections, and the names stand at these places in them
pub record HasBlocks (sections : List Section) (found : NamesOfText) : Type 0 where
  pub blocks : List Block
  pub are : AreRead sections found blocks

-- the rules of these blocks
pub record AreRulesOf (blocks : List Block) (rules : Rules) : Type 0 where
  pub names : AreNames blocks rules.names
  pub nodes : AddsTrees (rules_of blocks) [] rules.nodes.items [] rules.roots.items
  pub reaching : AreReaching (trees_at rules.nodes.items rules.roots.items) rules.opaque.items
