-- The blocks of a text, each with the rule that it says or the fault that it shows, and the names of their heads.
use Rattle.std.specs.Prelude.{ℕ, List, [], ◌∷◌, Result, Ok, Err}
use Rattle.abnf_token.specs.Classes.{Text}
use Rattle.abnf_token.specs.Folded.{lowercase}
use Rattle.abnf_syntax.specs.declared.block.Head.{Head}
use Rattle.abnf_syntax.specs.declared.item.Item.{Item}
use Rattle.abnf_syntax.specs.declared.fault.SyntaxFault.{SyntaxFault}
use Rattle.abnf_syntax.specs.declared.tree.Rule.{Rule}
use Rattle.abnf_syntax.specs.Grammar.{Derives}
use Rattle.abnf_syntax.specs.Faults.{Faults}
use Rattle.abnf_syntax.specs.Blocks.{line_texts, AreBlocks}
use Rattle.abnf_syntax.specs.Items.{AreItems}
use Rattle.abnf_parts.specs.Names.{Name}

-- a block: its items, and the rule that they say or the fault that they show
pub record Block : Type 0 where
  pub items : List Item
  pub said : Result Rule SyntaxFault

-- the items derive this rule, or show this fault
abbrev pub BlockSays : List Item → Result Rule SyntaxFault → Type 0
BlockSays items (Ok rule) = Derives items rule
BlockSays items (Err fault) = Faults items fault

-- the block has the items of these lines, and says what they say
pub record IsWithin (ls : List Text) (bounds : ℕ × ℕ) (block : Block) : Type 0 where
  pub items : AreItems ls bounds.0 bounds.1 block.items
  pub says : BlockSays block.items block.said

-- one block for each pair of a first line and an end, in order
abbrev pub AreWithin : List Text → List (ℕ × ℕ) → List Block → Type 0
AreWithin ls [] [] = Unit {0}
AreWithin ls (b ∷ bounds) (block ∷ blocks) = IsWithin ls b block × AreWithin ls bounds blocks
AreWithin ls _ _ = ⊥

-- These are the blocks of a text, all of them and in order, each with its items and with the rule that they derive or the
-- fault that they show.
pub record AreSaid (text : List ℕ) (blocks : List Block) : Type 0 where
  pub bounds : List (ℕ × ℕ)
  pub all : AreBlocks (line_texts text) 0 bounds
  pub each : AreWithin (line_texts text) bounds blocks

-- the name that a head defines or adds to
abbrev pub name_of : Head → Name
name_of head = lowercase head.name.text.now
