-- Digests as they are kept: names by their numbers in a table, and gists in words.
use Rattle.std.specs.Prelude.{◌≡◌, ℕ, ◌≤◌, Bool, List, flat_map, length, Option, Some, None, Contains, slice_range}
use Rattle.std.specs.List.{AllZip}
use Rattle.abnf_parts.specs.Names.{Name, rule_number}
use Rattle.abnf_digests.specs.Digests.{Digest}
use Rattle.findings_index.specs.declared.digest.HeadNumber.{HeadNumber}
use Rattle.findings_index.specs.declared.digest.BlockDigest.{BlockDigest}
use Rattle.findings_index.specs.declared.word.Word.{Word}
use Rattle.findings_index.specs.Words.{words_of, names_in, number_in_table}

-- This is kept of a head: the number of its name in the table, and whether it adds. Where there is no head nothing is.
abbrev pub StandsFor : List Name → Option HeadNumber → Option (Name × Bool) → Type 0
StandsFor table None None = Unit {0}
StandsFor table (Some number) (Some head) = (rule_number table head.0 ≡ Some number.name) × (number.adds ≡ head.1)
StandsFor table _ _ = ⊥

-- This is kept of a digest, with this table and these words: names by their numbers, and gists as words, from one place up to another.
pub record IsStored (table : List Name) (all : List Word) (kept : BlockDigest) (digest : Digest) : Type 0 where
  pub head : StandsFor table kept.head digest.head
  pub order : kept.start ≤ kept.end
  pub within : kept.end ≤ length all
  pub words : slice_range all kept.start kept.end ≡ flat_map (words_of (number_in_table table)) digest.said
  pub known : (name : Name) → Contains (flat_map names_in digest.said) name → (number : ℕ) × (rule_number table name ≡ Some number)

-- Each of these is kept of its digest.
abbrev pub AreStored : List Name → List Word → List BlockDigest → List Digest → Type 0
AreStored table words kept digests = AllZip (IsStored table words) kept digests

-- a table of names, words, and what is kept of each block
pub record Stored : Type 0 where
  pub table : List Name
  pub words : List Word
  pub kept : List BlockDigest

-- Each of what is kept is kept of its digest.
abbrev pub AreDigests : Stored → List Digest → Type 0
AreDigests s digests = AreStored s.table s.words s.kept digests
