-- A text of which a part is replaced by other lines, and what is kept of its blocks.
use Rattle.std.specs.Prelude.{◌≡◌, ℕ, ◌+◌, ◌<◌, ◌≤◌, List, [], ◌++◌, map, length, slice_index_or}
use Rattle.abnf_token.specs.Classes.{Text}
use Rattle.abnf_syntax.specs.Blocks.{base_indent, IsSeam, AreBlocksUpTo}
use Rattle.abnf_names.specs.Said.{Block, AreWithin}
use Rattle.abnf_digests.specs.Digests.{digest_of}

-- A part of the lines is replaced by other lines: those before `front` are the same, and those of the first text from `old`
-- on are those of the other one from `new` on. No block goes over these places, and the indent of the blocks stays.
pub record AreReplaced (ls others : List Text) (front old new : ℕ) : Type 0 where
  pub base : base_indent ls ≡ base_indent others
  pub before : (n : ℕ) → n < front → slice_index_or ls n [] ≡ slice_index_or others n []
  pub behind : (n : ℕ) → slice_index_or ls (old + n) [] ≡ slice_index_or others (new + n) []
  pub count : length ls + new ≡ length others + old
  pub order : (front ≤ old) × (front ≤ new)
  pub fronts : IsSeam ls front × IsSeam others front
  pub backs : IsSeam ls old × IsSeam others new

-- these are the blocks of a text's lines from one seam up to another
pub record AreBetween (ls : List Text) (from to : ℕ) (blocks : List Block) : Type 0 where
  pub bounds : List (ℕ × ℕ)
  pub all : AreBlocksUpTo ls from to bounds
  pub each : AreWithin ls bounds blocks

-- The blocks before and behind the part that is replaced keep their digests: those in between go, and those of the other
-- text's lines in between come.
pub record KeepDigests (ls others : List Text) (front old new : ℕ) (blocks fresh : List Block) : Type 0 where
  pub before : List Block
  pub gone : List Block
  pub behind : List Block
  pub come : List Block
  pub are : blocks ≡ before ++ (gone ++ behind)
  pub digests : map digest_of fresh ≡ map digest_of before ++ (map digest_of come ++ map digest_of behind)
  pub before_are : AreBetween ls 0 front before
  pub gone_are : AreBetween ls front old gone
  pub come_are : AreBetween others front new come
