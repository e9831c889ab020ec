-- What is known of each block by all of them, and blocks in which that finds nothing.
use Rattle.std.specs.Prelude.{◌≡◌, ◌++◌, ℕ, Bool, List, [], Some, slice_get}
use Rattle.abnf_parts.specs.Names.{Name, rule_number}
use Rattle.abnf_names.specs.declared.section.Section.{Section}
use Rattle.abnf_names.specs.Said.{Block, BlockSays}
use Rattle.abnf_names.specs.Shown.{fault_shown}
use Rattle.abnf_lint.specs.declared.finding.Finding.{Finding}
use Rattle.abnf_lint.specs.Marks.{mark_at}
use Rattle.abnf_digests.specs.Digests.{Digest}
use Rattle.findings_index.specs.declared.digest.BlockDigest.{BlockDigest}
use Rattle.findings_index.specs.declared.outcome.NameIndex.{NameIndex}
use Rattle.findings_index.specs.declared.found_in.BlockTold.{BlockTold}
use Rattle.findings_index.specs.ByTable.{all_told, strange_by, told_of_flags}
use Rattle.findings_index.specs.Found.{AllAreTold, found_by}
use Rattle.findings_index.specs.KeptBlocks.{IsKept}
use Rattle.findings_index.specs.Stored.{AreDigests, Stored}
use Rattle.findings_index.specs.ToldOfBlock.{ToldOfBlock}

-- No block defines the name, and no core rule has it, by the marks of an outcome.
abbrev pub strange_in : Stored → NameIndex → Name → Bool
strange_in s outcome = strange_by s.table outcome.defined.items

-- what is known of the block with these flags
abbrev pub told_in : Stored → NameIndex → BlockTold → ToldOfBlock
told_in s outcome told = told_of_flags told (strange_in s outcome)

-- This is known of each block, and the marks say which names stand for nothing.
pub record IsOutcome (s : Stored) (outcome : NameIndex) : Type 0 where
  pub told : (digests : List Digest) → AreDigests s digests → AllAreTold digests [] digests (all_told (strange_in s outcome) outcome.tolds.items)
  pub strange : (number : ℕ) (name : Name) → rule_number s.table name ≡ Some number → mark_at outcome.strange.items number ≡ strange_in s outcome name

-- Nothing is found in the block at a place, whichever it is.
abbrev pub IsQuietAt : Stored → NameIndex → ℕ → Type 0
IsQuietAt s outcome at =
    (kept : BlockDigest) (told : BlockTold) (bounds : ℕ × ℕ) (block : Block) → slice_get s.kept at ≡ Some kept → slice_get outcome.tolds.items at ≡ Some told →
    IsKept s.table s.words kept bounds block → BlockSays block.items block.said → found_by (told_in s outcome told) block.items (fault_shown block.said) ≡ []

-- What is found in the block at a place, whose section this is, stands behind what was found.
abbrev pub FindsAt : Stored → NameIndex → ℕ → Section → List Finding → List Finding → Type 0
FindsAt s outcome at section before after =
    (told : BlockTold) → slice_get outcome.tolds.items at ≡ Some told → after ≡ before ++ found_by (told_in s outcome told) section.block.items section.fault
