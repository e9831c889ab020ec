-- Blocks of some lines that are read, and what is found in one of them.
use Rattle.std.specs.Prelude.{◌≡◌, ◌<◌, ◌≤◌, ◌++◌, ℕ, List, Some, false, length, slice_get, take}
use Rattle.abnf_token.specs.Classes.{Text}
use Rattle.abnf_syntax.specs.Blocks.{AreBlocksUpTo, AreBlocks, base_indent}
use Rattle.abnf_parts.specs.Names.{Name}
use Rattle.abnf_names.specs.Said.{Block, AreWithin}
use Rattle.abnf_names.specs.Shown.{fault_shown}
use Rattle.abnf_lint.specs.declared.finding.Finding.{Finding}
use Rattle.findings_index.specs.declared.outcome.NameIndex.{NameIndex}
use Rattle.findings_index.specs.declared.digest.BlockDigest.{BlockDigest}
use Rattle.findings_index.specs.declared.found_in.BlockTold.{BlockTold}
use Rattle.findings_index.specs.Found.{found_by}
use Rattle.findings_index.specs.declared.word.Word.{Word}
use Rattle.findings_index.specs.KeptBlocks.{AreEachKept, AreKept}
use Rattle.findings_index.specs.Outcomes.{told_in}
use Rattle.findings_index.specs.Stored.{Stored}
use Rattle.incremental_findings.specs.declared.before.Before.{Before}
use Rattle.incremental_findings.specs.own.Parts.{HasTokens, IsDifference}
use Rattle.incremental_findings.specs.own.Walks.{SayTheSame}

-- The blocks of the lines from one place up to another are kept, behind the others.
pub record AddsBetween (ls : List Text) (from to : ℕ) (old new : Stored) : Type 0 where
  pub bounds : List (ℕ × ℕ)
  pub blocks : List Block
  pub all : AreBlocksUpTo ls from to bounds
  pub each : AreWithin ls bounds blocks
  pub kept : (bs : List (ℕ × ℕ)) (others : List Block) → AreKept old bs others → AreKept new (bs ++ bounds) (others ++ blocks)

-- The other text differs from the text before in these lines alone, and the indent of the blocks is the same.
pub record IsBefore (others : List Text) (b : Before) : Type 0 where
  pub part : IsDifference b.sheet.now others b.lines
  pub base : base_indent b.sheet.now ≡ base_indent others
  pub tokens : HasTokens b.sheet.now

-- The first so many of what is kept are kept of the blocks of these lines, all of them and in order.
pub record HasDigests (ls : List Text) (count : ℕ) (kept : List BlockDigest) : Type 0 where
  pub table : List Name
  pub words : List Word
  pub bounds : List (ℕ × ℕ)
  pub blocks : List Block
  pub within : count ≤ length kept
  pub all : AreBlocks ls 0 bounds
  pub each : AreEachKept table words (take count kept) bounds blocks

-- The block of which this is kept at a place says what some lines of another text say, and has no findings of its own.
pub record IsBlockLike (ls : List Text) (to : ℕ) (kept : List BlockDigest) (others : List Text) (first end at : ℕ) : Type 0 where
  pub block : BlockDigest
  pub within : (at < to) × (at < length kept)
  pub is : slice_get kept at ≡ Some block
  pub quiet : block.has_own ≡ false
  pub same : SayTheSame ls block.first block.behind others first end

-- What is found in the block at a place, whichever blocks these lines have, stands behind what was found.
abbrev pub FindsIn : List Text → Stored → NameIndex → ℕ → List Finding → List Finding → Type 0
FindsIn ls s outcome at before after =
    (bounds : List (ℕ × ℕ)) (blocks : List Block) (block : Block) (told : BlockTold) → AreBlocks ls 0 bounds → AreWithin ls bounds blocks → AreKept s bounds blocks →
    slice_get blocks at ≡ Some block → slice_get outcome.tolds.items at ≡ Some told → after ≡ before ++ found_by (told_in s outcome told) block.items (fault_shown block.said)
