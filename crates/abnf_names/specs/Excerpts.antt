-- The blocks of a text without their rules: the items of each, and the fault that it shows.
use Rattle.std.specs.Prelude.{◌≡◌, List, map, Option}
use Rattle.abnf_syntax.specs.declared.item.Item.{Item}
use Rattle.abnf_syntax.specs.declared.fault.SyntaxFault.{SyntaxFault}
use Rattle.abnf_names.specs.declared.section.Section.{Section}
use Rattle.abnf_names.specs.Said.{Block, AreSaid}
use Rattle.abnf_names.specs.Rules.{Grammar, grammar_of}
use Rattle.abnf_names.specs.Shown.{fault_shown}

-- of a block its items, and its fault if it says no rule
pub record Excerpt : Type 0 where
  pub items : List Item
  pub fault : Option SyntaxFault

-- the excerpt of a block
abbrev pub excerpt_of : Block → Excerpt
excerpt_of block = record { items = block.items; fault = fault_shown block.said }

-- the excerpt of a section of the code
abbrev pub excerpt : Section → Excerpt
excerpt section = record { items = section.block.items; fault = section.fault }

-- These sections are the blocks of the grammar's text, all of them and in order.
pub record HasSections (g : Grammar) (sections : List Section) : Type 0 where
  pub blocks : List Block
  pub of_text : AreSaid g.text blocks
  pub is : g ≡ grammar_of g.text blocks
  pub excerpts : map excerpt sections ≡ map excerpt_of blocks
