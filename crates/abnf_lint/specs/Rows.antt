-- The rows of the table of findings, one by one: what each code says of a text, and where.
use Rattle.std.specs.Prelude.{◌≡◌, ℕ, ◌<◌, true, false, List, [], ◌∷◌, ◌++◌, Option, Some, None, Ok, Err, Contains, ◌↔◌}
use Rattle.ls_text.specs.declared.position.Place.{Place}
use Rattle.abnf_token.specs.declared.token.Kind.TheVariants.{Repeat, Number}
use Rattle.abnf_token.specs.Folded.{lowercase}
use Rattle.abnf_syntax.specs.declared.block.Head.{Head}
use Rattle.abnf_syntax.specs.declared.item.Item.{Item}
use Rattle.abnf_syntax.specs.declared.fault.SyntaxFault.{SyntaxFault}
use Rattle.abnf_syntax.specs.declared.fault.SyntaxFault.TheVariants as f
use Rattle.abnf_syntax.specs.declared.tree.Rule.{Rule}
use Rattle.abnf_syntax.specs.Grammar.{kind_of}
use Rattle.abnf_syntax.specs.Faults.{place_of}
use Rattle.abnf_syntax.specs.Heads.{head_of}
use Rattle.abnf_parts.specs.Leaf.{repeat_limits, ends_of, number_part}
use Rattle.abnf_parts.specs.Names.{Name, rule_number}
use Rattle.abnf_names.specs.Said.{Block, AreSaid, name_of}
use Rattle.abnf_names.specs.Places.{places_in}
use Rattle.abnf_names.specs.Rules.{adds, fault_place, head_name, names_of, rules_of}
use Rattle.abnf_lint.specs.declared.finding.Code.{Code}
use Rattle.abnf_lint.specs.declared.finding.Code.TheVariants as c
use Rattle.abnf_lint.specs.declared.finding.Finding.{Finding}
use Rattle.abnf_lint.specs.Order.{FindingsAscend}
use Rattle.abnf_lint.specs.Unproductive.{IsUnproductive}

-- the place of a fault of the syntax: of all but a number too large and brackets too deep, which have codes of their own
abbrev pub syntax_place : SyntaxFault → Option Place
syntax_place (f.NumberTooLarge p) = None
syntax_place (f.TooDeep p) = None
syntax_place fault = fault_place fault

-- the block is sound: it shows no fault
abbrev pub HasNoFault : Block → Type 0
HasNoFault block = (rule : Rule) × (block.said ≡ Ok rule)

-- this holds of one of the block's items, which stands at this place
pub record HasItem (block : Block) (place : Place) (Holds : Item → Type 0) : Type 0 where
  pub item : Item
  pub among : Contains block.items item
  pub at : place ≡ place_of item.token
  pub is : Holds item

-- a repeat with its minimum above its maximum (RFC 5234 section 3.6)
pub record IsEmptyRepeat (item : Item) : Type 0 where
  pub repeat : kind_of item ≡ Repeat
  pub most : ℕ
  pub bounded : (repeat_limits item.token.text.now).1 ≡ Some most
  pub above : most < (repeat_limits item.token.text.now).0

-- a range with its low end above its high end (RFC 5234 section 3.4)
pub record IsEmptyRange (item : Item) : Type 0 where
  pub number : kind_of item ≡ Number
  pub ends : ℕ × ℕ
  pub range : ends_of (number_part item.token.text.now) ≡ Some ends
  pub above : ends.1 < ends.0

-- the block has this head, and its name stands at this place and is spelled so
pub record HasHead (block : Block) (place : Place) (name : List ℕ) (head : Head) : Type 0 where
  pub heads : head_of block.items ≡ Some head
  pub at : place ≡ place_of head.name
  pub spelled : name ≡ head.name.text.now

-- one of the blocks defines the name or adds to it (RFC 5234 sections 2.2 and 3.3)
abbrev pub AnyDefines : List Block → Name → Type 0
AnyDefines blocks name = (block : Block) × Contains blocks block × (head_name block ≡ Some name)

-- one of the blocks defines the name by `=`
abbrev pub AnyBases : List Block → Name → Type 0
AnyBases blocks name = (block : Block) × Contains blocks block × (head_name block ≡ Some name) × (adds block ≡ false)

-- the rule of the name is unproductive: it generates nothing, and leads to no prose and no faulty block
abbrev pub IsIdle : List Block → Name → Type 0
IsIdle blocks name = (r : ℕ) × (rule_number (names_of blocks) name ≡ Some r) × IsUnproductive (rules_of blocks) r

-- The row of a code holds of a block at this place, with this name in its message, where these are all blocks of the text and those
-- before it:
-- 1. `syntax`: the place of the block's fault, but for those of the next two rows.
-- 2. `number-too-large`: a number above 4,294,967,295, where it makes its block faulty.
-- 3. `too-deep`: a bracket that nests 65 deep.
-- 4. `undefined`: in a sound block, a name that stands for no rule and no core rule.
-- 5. `duplicate`: the head of a second or later `=` block of its name.
-- 6. `no-base`: the head of a `=/` block with no `=` block of its name before it.
-- 7. `empty-repeat`: in a sound block, a repeat with its minimum above its maximum.
-- 8. `empty-range`: in a sound block, a range with its low end above its high end.
-- 9. `unproductive`: the first head of an unproductive rule.
-- A block is sound where it shows no fault.
module _ (blocks before : List Block) (block : Block) where
  abbrev pub RowHolds : Place → List ℕ → Code → Type 0
  RowHolds place name (c.Syntax fault) = (block.said ≡ Err fault) × (syntax_place fault ≡ Some place) × (name ≡ [])
  RowHolds place name c.NumberTooLarge = (block.said ≡ Err (f.NumberTooLarge place)) × (name ≡ [])
  RowHolds place name c.TooDeep = (block.said ≡ Err (f.TooDeep place)) × (name ≡ [])
  RowHolds place name c.Undefined =
      HasNoFault block × Contains (places_in block.items) (record { text = name; place = place; defines = false }) × (rule_number (names_of blocks) (lowercase name) ≡ None)
  RowHolds place name c.Duplicate = (head : Head) × HasHead block place name head × (head.adds ≡ false) × AnyBases before (name_of head)
  RowHolds place name c.NoBase = (head : Head) × HasHead block place name head × (head.adds ≡ true) × (AnyBases before (name_of head) → ⊥)
  RowHolds place name c.EmptyRepeat = HasNoFault block × HasItem block place IsEmptyRepeat × (name ≡ [])
  RowHolds place name c.EmptyRange = HasNoFault block × HasItem block place IsEmptyRange × (name ≡ [])
  RowHolds place name c.Unproductive = (head : Head) × HasHead block place name head × (AnyDefines before (name_of head) → ⊥) × IsIdle blocks (name_of head)

-- A row of the table holds of one of the text's blocks, at this place and with this name. The table stands above `RowHolds`
-- and at the code's `Code`.
pub record RowStands (text : List ℕ) (found : Finding) : Type 0 where
  pub blocks : List Block
  pub of_text : AreSaid text blocks
  pub before : List Block
  pub block : Block
  pub after : List Block
  pub split : blocks ≡ before ++ block ∷ after
  pub holds : RowHolds blocks before block found.place found.name found.code

-- These are the rows of the table that hold of the text, each once, by line, start and row: what is found in it. No two share
-- all three. Each text of fewer than 2^62 characters has one such list (`findings_exist`), and no second
-- (`findings_are_unique`).
pub record AreRows (text : List ℕ) (rows : List Finding) : Type 0 where
  pub each : (f : Finding) → Contains rows f ↔ RowStands text f
  pub ordered : FindingsAscend rows
