-- What is kept of the texts that were asked about last. No answer depends on it.
use Rattle.std.specs.Prelude.{◌≡◌, ℕ, ◌-◌, ◌<◌, ◌⊎◌, List, [], length, Option, None, Some, slice_index_or}
use Rattle.incremental_findings.specs.Known.{Known}
use Rattle.incremental_findings.specs.Recent.{IsTaken, Texts, lent, with_last, with_text}
use Rattle.draft_grammars.specs.declared.format.Format.{Format}

-- a draft whose grammar was gathered
pub record KnownDraft : Type 0 where
  pub format : Format
  pub text : List ℕ

-- such drafts, the newest last (none of them is None)
abbrev pub Drafts : Type 0
Drafts = List (Option KnownDraft)

-- the grammars that were diagnosed last, each with what is found in it, and the drafts whose grammar was gathered last
pub record Remembered : Type 0 where
  pub grammars : Texts
  pub drafts : Drafts

-- nothing yet
abbrev pub nothing_kept : Remembered
nothing_kept = record { grammars = []; drafts = [] }

-- one of the drafts, or none
abbrev pub IsOneOf : Drafts → Option KnownDraft → Type 0
IsOneOf drafts draft = ((at : ℕ) × (at < length drafts) × (draft ≡ slice_index_or drafts at None)) ⊎ (draft ≡ None)

-- One of the drafts is shared, or none.
pub record IsShared (old given : Remembered) : Type 0 where
  pub shared : Option KnownDraft
  pub one_of : IsOneOf old.drafts shared
  pub given_is : given ≡ record { grammars = []; drafts = lent shared }

-- One of the grammars is lent, or none. It is gone from these meanwhile. One of the drafts is shared, or none.
pub record IsLent (old new given : Remembered) : Type 0 where
  pub taken : Option Known
  pub grammars : IsTaken old.grammars taken new.grammars
  pub lent_is : given.grammars ≡ lent taken
  pub shared : Option KnownDraft
  pub one_of : IsOneOf old.drafts shared
  pub drafts : new.drafts ≡ old.drafts
  pub shared_is : given.drafts ≡ lent shared

-- One of the grammars goes, or none, and so does one of the drafts.
pub record IsLetGo (old new gone : Remembered) : Type 0 where
  pub grammar : Option Known
  pub grammars : IsTaken old.grammars grammar new.grammars
  pub grammar_is : gone.grammars ≡ lent grammar
  pub draft : Option KnownDraft
  pub drafts : IsTaken old.drafts draft new.drafts
  pub draft_is : gone.drafts ≡ lent draft

-- This is so of something that went.
abbrev pub IsGone : Remembered → Remembered → Type 0
IsGone old new = (gone : Remembered) × IsLetGo old new gone

-- A draft is kept in the place of one of them, or of none.
pub record IsDraftKept (old : Drafts) (draft : KnownDraft) (new : Drafts) : Type 0 where
  pub replaced : Option KnownDraft
  pub left : Drafts
  pub taken : IsTaken old replaced left
  pub kept : new ≡ with_text left (Some draft)

-- A draft is kept in this way, if there is one.
abbrev pub IsDraftKeptIf : Drafts → Option KnownDraft → Drafts → Type 0
IsDraftKeptIf old None new = new ≡ old
IsDraftKeptIf old (Some draft) new = IsDraftKept old draft new

-- The last of the grammars and of the drafts of others are kept, too.
pub record IsTakenBack (old others new : Remembered) : Type 0 where
  pub grammars : new.grammars ≡ with_last old.grammars others.grammars
  pub drafts : IsDraftKeptIf old.drafts (slice_index_or others.drafts (length others.drafts - 1) None) new.drafts
