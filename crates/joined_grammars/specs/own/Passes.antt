-- What stands after one more text was joined. No public contract cites this.
use Rattle.std.specs.Prelude.{◌≡◌, ℕ, List, ◌++◌}
use Rattle.abnf_syntax.specs.declared.block.Block.{Block}
use Rattle.abnf_parts.specs.Names.{Name}
use Rattle.joined_grammars.specs.Joined.{AreBlocksOf, Follows, new_text, with_heads}

-- a text joined so far, and the names of the heads in it and before
pub record Joining : Type 0 where
  pub names : List Name
  pub text : List ℕ

-- The new blocks of one other text have come.
pub record JoinsBlocks (other : List ℕ) (old new : Joining) : Type 0 where
  pub blocks : List Block
  pub are_blocks : AreBlocksOf other blocks
  pub names : new.names ≡ with_heads old.names blocks
  pub text : new.text ≡ old.text ++ new_text old.names other blocks

-- what has been joined so far, with these names
abbrev pub state : List Name → List ℕ → Joining
state names text = record { names = names; text = text }

-- Texts have been joined, and these are left: what follows by them now follows, behind what was joined, by all of them.
pub record HasJoined (all left : List (List ℕ)) (old new : Joining) : Type 0 where
  pub behind : List ℕ
  pub text : new.text ≡ old.text ++ behind
  pub follows : (rest : List ℕ) → Follows new.names left rest → Follows old.names all (behind ++ rest)
