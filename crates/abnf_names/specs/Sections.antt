-- The blocks of a text as the code has them, and the rules that they say.
use Rattle.std.specs.Prelude.{◌≡◌, ℕ, List, [], ◌∷◌, map, Option, Some, None, Result}
use Rattle.abnf_syntax.specs.declared.fault.SyntaxFault.{SyntaxFault}
use Rattle.abnf_syntax.specs.declared.tree.Rule.{Rule}
use Rattle.abnf_parts.specs.Names.{Name}
use Rattle.abnf_parts.specs.Part.{Part, opaque}
use Rattle.abnf_parts.specs.Tree.{alternatives}
use Rattle.abnf_names.specs.declared.section.Section.{Section}
use Rattle.abnf_names.specs.Said.{Block, BlockSays, AreSaid}
use Rattle.abnf_names.specs.Rules.{alternatives_said}
use Rattle.abnf_names.specs.Excerpts.{excerpt, excerpt_of}
use Rattle.abnf_names.specs.Shown.{fault_shown}

-- These sections are the blocks of a text, all of them and in order.
pub record AreSections (text : List ℕ) (sections : List Section) : Type 0 where
  pub blocks : List Block
  pub of_text : AreSaid text blocks
  pub excerpts : map excerpt sections ≡ map excerpt_of blocks

-- the section's block says this
pub record IsSaidBy (section : Section) (said : Result Rule SyntaxFault) : Type 0 where
  pub says : BlockSays section.block.items said
  pub shown : section.fault ≡ fault_shown said

-- the alternatives of a rule, or an opaque one where none is known
abbrev pub alternatives_known : (Name → Option ℕ) → Option Rule → List Part
alternatives_known number None = opaque ∷ []
alternatives_known number (Some rule) = alternatives number rule.body

-- what a block says and a rule of the code, or none, have the same alternatives
abbrev pub HaveSameAlternatives : Result Rule SyntaxFault → Option Rule → Type 0
HaveSameAlternatives said rule = (number : Name → Option ℕ) → alternatives_known number rule ≡ alternatives_said number said
