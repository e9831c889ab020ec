-- What is kept of blocks: their digests, their lines, and whether they have findings of their own.
use Rattle.std.specs.Prelude.{◌≡◌, ℕ, ◌+◌, ◌-◌, ◌^◌, ◌<◌, ◌≤◌, List, [], ◌∷◌, ◌++◌, length, map, take, drop, slice_range}
use Rattle.abnf_token.specs.Classes.{Text}
use Rattle.abnf_syntax.specs.Blocks.{AreBlocks}
use Rattle.abnf_parts.specs.Names.{Name}
use Rattle.abnf_names.specs.Said.{Block, AreWithin}
use Rattle.abnf_digests.specs.Digests.{digest_of}
use Rattle.abnf_digests.specs.Quiet.{has_own_findings}
use Rattle.findings_index.specs.declared.digest.BlockDigest.{BlockDigest}
use Rattle.findings_index.specs.declared.word.Word.{Word}
use Rattle.findings_index.specs.Stored.{IsStored, Stored}

-- This is kept of a block with these bounds, with this table and these words: its digest, its lines, and whether it has findings of its
-- own.
pub record IsKept (table : List Name) (words : List Word) (kept : BlockDigest) (bounds : ℕ × ℕ) (block : Block) : Type 0 where
  pub digest : IsStored table words kept (digest_of block)
  pub first : kept.first ≡ bounds.0
  pub behind : kept.behind ≡ bounds.1
  pub own : kept.has_own ≡ has_own_findings block

-- Each of these is kept of its block, which has its bounds.
abbrev pub AreEachKept : List Name → List Word → List BlockDigest → List (ℕ × ℕ) → List Block → Type 0
AreEachKept table words [] [] [] = Unit {0}
AreEachKept table words (k ∷ ks) (b ∷ bounds) (block ∷ blocks) = IsKept table words k b block × AreEachKept table words ks bounds blocks
AreEachKept table words _ _ _ = ⊥

-- This is kept of these blocks, which have these bounds, block for block.
abbrev pub AreKept : Stored → List (ℕ × ℕ) → List Block → Type 0
AreKept s bounds blocks = AreEachKept s.table s.words s.kept bounds blocks

-- This is kept of the blocks of these lines, all of them and in order.
pub record IsKeptOf (ls : List Text) (s : Stored) : Type 0 where
  pub bounds : List (ℕ × ℕ)
  pub blocks : List Block
  pub all : AreBlocks ls 0 bounds
  pub each : AreWithin ls bounds blocks
  pub kept : AreKept s bounds blocks

-- One more block is kept, behind the others.
abbrev pub AddsBlock : ℕ × ℕ → Block → Stored → Stored → Type 0
AddsBlock bounds block old new = (bs : List (ℕ × ℕ)) (blocks : List Block) → AreKept old bs blocks → AreKept new (bs ++ bounds ∷ []) (blocks ++ block ∷ [])

-- the same block where its lines are these
abbrev pub at_lines : ℕ → ℕ → BlockDigest → BlockDigest
at_lines first behind kept = record { head = kept.head; start = kept.start; end = kept.end; first = first; behind = behind; has_own = kept.has_own }

-- ---- the last blocks in place of others

-- The block begins no earlier than the line `old`, and its lines have numbers below 2^32 where that line is the line `new`.
pub record CanMove (old new : ℕ) (kept : BlockDigest) : Type 0 where
  pub first : old ≤ kept.first
  pub behind : kept.first ≤ kept.behind
  pub small : (kept.behind - old) + new < 2 ^ 32

-- what is kept of the same block where the line `old` is the line `new`
abbrev pub moved_block : ℕ → ℕ → BlockDigest → BlockDigest
moved_block old new kept = record {
  head = kept.head;
  start = kept.start;
  end = kept.end;
  first = (kept.first - old) + new;
  behind = (kept.behind - old) + new;
  has_own = kept.has_own;
}

-- The last `count` blocks stand in place of those from one place up to another, and those behind these are moved by lines.
abbrev pub replaced_by_last : ℕ → ℕ → ℕ → ℕ → ℕ → List BlockDigest → List BlockDigest
replaced_by_last from to count old new kept =
    let last = length kept - count in
    take from kept ++ (drop last kept ++ map (moved_block old new) (slice_range kept to last))
