-- What the blocks of a text are: rules, or faulty (RFC 5234 section 4, with the strings of RFC 7405). By how many are rules a text may
-- be rules alone, or no grammar at all. The standard doesn't say when a text is none: what is said here of it is a choice of this project.
use Rattle.std.specs.Prelude.{◌≡◌, ◌⊎◌, ◌&&◌, ◌-◌, ℕ, suc, Bool, nat_eq, nat_lt, List, [], ◌∷◌, count_by, length}
use Rattle.std.specs.Option.{is_some}
use Rattle.abnf_syntax.specs.declared.block.Block.{Block}
use Rattle.abnf_syntax.specs.declared.fault.SyntaxFault.{SyntaxFault}
use Rattle.abnf_syntax.specs.declared.tree.Rule.{Rule}
use Rattle.abnf_syntax.specs.Faults.{Faults}
use Rattle.abnf_syntax.specs.Grammar.{Derives}
use Rattle.abnf_syntax.specs.Heads.{head_of}
use Rattle.joined_grammars.specs.Joined.{AreBlocksOf}
use Rattle.rule_texts.specs.declared.counts.Counts.{Counts}

-- ---- blocks

-- The block's items derive a rule (RFC 5234 section 4).
abbrev pub IsRule : Block → Type 0
IsRule block = (rule : Rule) × Derives block.items rule

-- The block's items show a fault.
abbrev pub IsFaulty : Block → Type 0
IsFaulty block = (fault : SyntaxFault) × Faults block.items fault

-- So many of these blocks are rules, and the others are faulty.
abbrev pub AreRules : List Block → ℕ → Type 0
AreRules [] rules = rules ≡ 0
AreRules (block ∷ blocks) rules =
    ((others : ℕ) × (rules ≡ suc others) × IsRule block × AreRules blocks others) ⊎ (IsFaulty block × AreRules blocks rules)

-- the block has a head: a name, and `=` or `=/` behind it (RFC 5234, sections 2.2 and 3.3)
abbrev pub has_head : Block → Bool
has_head block = is_some (head_of block.items)

-- ---- their numbers

-- These are the numbers of a text's blocks: of all, of those with a head, and of those that are rules. There are such numbers
-- (`counts_exist`), and no others (`counts_are_unique`).
pub record AreCounted (text : List ℕ) (counts : Counts) : Type 0 where
  pub blocks : List Block
  pub are_blocks : AreBlocksOf text blocks
  pub blocks_are : counts.blocks ≡ length blocks
  pub heads_are : counts.heads ≡ count_by has_head blocks
  pub rules_are : AreRules blocks counts.rules

-- a text is rules alone: it has a block, and each is a rule
abbrev pub are_rules_alone : Counts → Bool
are_rules_alone counts = nat_lt 0 counts.blocks && nat_eq counts.rules counts.blocks

-- A text is no grammar: it has more than one block, none of them is a rule, and fewer than half of them have a head.
abbrev pub is_no_grammar : Counts → Bool
is_no_grammar counts = nat_eq counts.rules 0 && (nat_lt 1 counts.blocks && nat_lt counts.heads (counts.blocks - counts.heads))
