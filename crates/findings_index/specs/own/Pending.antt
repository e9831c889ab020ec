-- Blocks that mark their names one after the other.
use Rattle.std.specs.Prelude.{◌≡◌, ℕ, Bool, List, Some, slice_get}
use Rattle.findings_index.specs.declared.digest.BlockDigest.{BlockDigest}
use Rattle.findings_index.specs.declared.heads.HeadRole.{HeadRole}
use Rattle.findings_index.specs.declared.sweep.Way.{Way}
use Rattle.findings_index.specs.declared.word.Word.{Word}
use Rattle.findings_index.specs.own.Ways.{IsMarkedSo}

-- the block at this place marks this name, which wasn't marked
pub record IsMarkedAt (way : Way) (words : List Word) (blocks : List BlockDigest) (roles : List HeadRole) (marks : List Bool) (place name : ℕ) (after : List Bool) : Type 0 where
  pub block : BlockDigest
  pub role : HeadRole
  pub at_block : slice_get blocks place ≡ Some block
  pub at_role : slice_get roles place ≡ Some role
  pub marked : IsMarkedSo way words marks block role after
  pub named : marked.head.name ≡ name

-- a block marks this name
pub record MarksNext (way : Way) (words : List Word) (blocks : List BlockDigest) (roles : List HeadRole) (marks : List Bool) (name : ℕ) (after : List Bool) : Type 0 where
  pub place : ℕ
  pub marked : IsMarkedAt way words blocks roles marks place name after
