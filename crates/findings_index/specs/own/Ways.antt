-- Two ways of marking names by their numbers: those that hold, and those that lead to something opaque.
use Rattle.std.specs.Prelude.{◌≡◌, ◌↔◌, ℕ, suc, ◌<◌, ◌≤◌, Bool, true, false, not, ◌&&◌, nat_eq, Contains, List, [], ◌∷◌, Option, Some, None, flat_map, length, slice_get, slice_set, slice_range}
use Rattle.std.specs.List.{list_any}
use Rattle.std.specs.Option.{option_map_or}
use Rattle.abnf_parts.specs.Core.{is_core_name}
use Rattle.abnf_parts.specs.Names.{Name, rule_number}
use Rattle.abnf_parts.specs.Part.{Part, ref, opaque, subparts}
use Rattle.abnf_lint.specs.Marks.{mark_at}
use Rattle.abnf_digests.specs.Digests.{Digest}
use Rattle.findings_index.specs.declared.digest.HeadNumber.{HeadNumber}
use Rattle.findings_index.specs.declared.digest.BlockDigest.{BlockDigest}
use Rattle.findings_index.specs.declared.heads.HeadRole.{HeadRole}
use Rattle.findings_index.specs.declared.sweep.Way.{Way}
use Rattle.findings_index.specs.declared.sweep.Way.TheVariants.{Holding, Leading}
use Rattle.findings_index.specs.declared.word.Word.{Word}
use Rattle.findings_index.specs.declared.word.Word.TheVariants as w
use Rattle.findings_index.specs.ByTable.{name_mark}
use Rattle.findings_index.specs.own.HeadRoles.{AreRoles}
use Rattle.findings_index.specs.Holding.{IsOfCore, HoldsBy}
use Rattle.findings_index.specs.Leading.{LeadsToOpaqueBy}
use Rattle.findings_index.specs.Marked.{AreHoldingMarks, AreLeadingMarks, holds}
use Rattle.findings_index.specs.Stored.{AreStored}
use Rattle.findings_index.specs.Words.{words_of}

-- ---- marks of names by their numbers in a table

-- a name that isn't in the table holds where a core rule has it
abbrev pub held_at : List Name → List Bool → Name → Bool
held_at table marks name = option_map_or (mark_at marks) (rule_number table name) (is_core_name name)

-- ---- what leads to something opaque, by marks

-- a part is opaque, or a marked name
abbrev pub is_lead : (Name → Bool) → Part → Bool
is_lead at (ref name rule) = at name
is_lead at opaque = true
is_lead at _ = false

-- a part below it, or it itself, is
abbrev pub leads : (Name → Bool) → Part → Bool
leads at part = list_any (is_lead at) (subparts part)

-- the same of a word
abbrev pub is_leading_word : (ℕ → Bool) → Word → Bool
is_leading_word marks (w.Name number) = marks number
is_leading_word marks w.Opaque = true
is_leading_word marks _ = false

-- ---- either way

-- whether a name is marked: of names that hold those of core rules count, too
abbrev pub marked_at : Way → List Name → List Bool → Name → Bool
marked_at Holding = held_at
marked_at Leading = name_mark

-- whether a part is a reason to mark a name
abbrev pub says : Way → (Name → Bool) → Part → Bool
says Holding = holds
says Leading = leads

-- what is to be true of each name that is marked
abbrev pub IsSo : Way → List Digest → Name → Type 0
IsSo Holding digests name = (k : ℕ) × HoldsBy digests k name
IsSo Leading digests name = (uses : ℕ) × LeadsToOpaqueBy digests uses name

-- which names are marked at first
abbrev pub IsAtFirst : Way → List Digest → Name → Type 0
IsAtFirst Holding digests name = IsOfCore digests name
IsAtFirst Leading digests name = ⊥

-- one mark a name; each name that is marked is so, and those of the beginning are marked
pub record AreSoundByWay (way : Way) (table : List Name) (digests : List Digest) (marks : List Bool) : Type 0 where
  pub one_each : length marks ≡ length table
  pub so : (name : Name) → marked_at way table marks name ≡ true → IsSo way digests name
  pub first : (name : Name) → IsAtFirst way digests name → marked_at way table marks name ≡ true

-- ---- by blocks, as they are kept

-- of the gists of a block, whichever they are, one is a reason to mark a name, or none is
abbrev pub SaysSo : Way → List Word → List Bool → BlockDigest → Bool → Type 0
SaysSo way words marks block answer =
    (number : Name → ℕ) (parts : List Part) → slice_range words block.start block.end ≡ flat_map (words_of number) parts →
    list_any (says way (λ name. mark_at marks (number name))) parts ≡ answer

-- the name of a block that counts is marked, since one of its gists is a reason
pub record IsMarkedSo (way : Way) (words : List Word) (marks : List Bool) (block : BlockDigest) (role : HeadRole) (after : List Bool) : Type 0 where
  pub head : HeadNumber
  pub is : block.head ≡ Some head
  pub counts : role.is_duplicate ≡ false
  pub within : head.name < length marks
  pub fresh : mark_at marks head.name ≡ false
  pub reason : SaysSo way words marks block true
  pub marked : after ≡ slice_set marks head.name true

-- if a block counts whose name isn't marked, none of its gists is a reason
abbrev pub IsSwept : Way → List Word → List Bool → BlockDigest → HeadRole → Type 0
IsSwept way words marks block role =
    (head : HeadNumber) → block.head ≡ Some head → role.is_duplicate ≡ false → head.name < length marks → mark_at marks head.name ≡ false → block.start ≤ block.end →
    block.end ≤ length words → SaysSo way words marks block false

-- it is so of each block
abbrev pub AreSwept : Way → List Word → List BlockDigest → List HeadRole → List Bool → Type 0
AreSwept way words blocks roles marks =
    (k : ℕ) (block : BlockDigest) (role : HeadRole) → slice_get blocks k ≡ Some block → slice_get roles k ≡ Some role → IsSwept way words marks block role

-- the marks are sound, whichever digests are kept so
abbrev pub AreSoundByWayFor : Way → List Name → List Word → List BlockDigest → List HeadRole → List Bool → Type 0
AreSoundByWayFor way table words blocks roles marks =
    (digests : List Digest) → AreStored table words blocks digests → AreRoles digests roles → AreSoundByWay way table digests marks

-- they say which names hold, whichever digests are kept so
abbrev pub AreHoldingMarksFor : List Name → List Word → List BlockDigest → List HeadRole → List Bool → Type 0
AreHoldingMarksFor table words blocks roles marks =
    (digests : List Digest) → AreStored table words blocks digests → AreRoles digests roles → AreHoldingMarks digests (held_at table marks)

-- they say which names lead to something opaque, whichever digests are kept so
abbrev pub AreLeadingMarksFor : List Name → List Word → List BlockDigest → List HeadRole → List Bool → Type 0
AreLeadingMarksFor table words blocks roles marks =
    (digests : List Digest) → AreStored table words blocks digests → AreRoles digests roles → AreLeadingMarks digests (name_mark table marks)

-- ---- what leads to something opaque, of the names that don't hold

-- a name that isn't marked as one that holds is marked as one that leads to something opaque exactly where it does
abbrev pub IsLedRightly : List Digest → (Name → Bool) → (Name → Bool) → Name → Type 0
IsLedRightly digests held led name = held name ≡ false → (led name ≡ true) ↔ ((uses : ℕ) × LeadsToOpaqueBy digests uses name)

-- the name of each head is
abbrev pub AreHeadsLed : List Digest → (Name → Bool) → (Name → Bool) → Type 0
AreHeadsLed digests held led = (digest : Digest) (head : Name × Bool) → Contains digests digest → digest.head ≡ Some head → IsLedRightly digests held led head.0

-- whichever digests are kept so
abbrev pub AreHeadsLedFor : List Name → List Word → List BlockDigest → List HeadRole → List Bool → List Bool → Type 0
AreHeadsLedFor table words blocks roles held led =
    (digests : List Digest) → AreStored table words blocks digests → AreRoles digests roles → AreHeadsLed digests (held_at table held) (name_mark table led)

-- the head's name isn't marked
abbrev pub is_unmarked : List Bool → Option HeadNumber → Bool
is_unmarked marks None = false
is_unmarked marks (Some head) = not (mark_at marks head.name)

-- ---- the names that blocks define, and those of core rules that none defines

-- the head of a block has the name with this number
abbrev pub heads_number : ℕ → BlockDigest → Bool
heads_number number block = option_map_or (λ head. nat_eq head.name number) block.head false

-- one mark a name, which says whether the head of a block has it
pub record AreHeadMarks (table : List Name) (blocks : List BlockDigest) (marks : List Bool) : Type 0 where
  pub one_each : length marks ≡ length table
  pub each : (number : ℕ) → number < length table → mark_at marks number ≡ list_any (heads_number number) blocks

-- the name with this number isn't marked as one that a block defines, and a core rule has it
abbrev pub is_of_core : List Name → List Bool → ℕ → Bool
is_of_core table defined number = not (mark_at defined number) && option_map_or is_core_name (slice_get table number) false

-- one mark a name, which says whether a core rule has it and no block's head
pub record AreCoreMarks (table : List Name) (blocks : List BlockDigest) (marks : List Bool) : Type 0 where
  pub one_each : length marks ≡ length table
  pub each : (number : ℕ) (name : Name) → slice_get table number ≡ Some name →
      mark_at marks number ≡ (is_core_name name && not (list_any (heads_number number) blocks))

-- ---- how many names aren't marked

-- how many of the marks are false
abbrev pub count_unmarked : List Bool → ℕ
count_unmarked [] = 0
count_unmarked (true ∷ marks) = count_unmarked marks
count_unmarked (false ∷ marks) = suc (count_unmarked marks)
