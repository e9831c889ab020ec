-- A short history, written out.
use Rattle.std.specs.Prelude.{◌≡◌, ℕ, List, [], ◌∷◌, Ok, Err}
use Rattle.ls_machine.specs.declared.client.ClientAnswer.TheVariants as answer
use Rattle.ls_machine.specs.declared.client.ClientEvent.TheVariants.{DidClose, Say}
use Rattle.ls_machine.specs.declared.event.DeskFault.{DeskFault}
use Rattle.ls_machine.specs.declared.event.DeskFault.TheVariants.{AlreadyOpen, NotOpen}
use Rattle.ls_machine.specs.declared.event.Event.TheVariants as event
use Rattle.ls_machine.specs.declared.event.Out.TheVariants as out
use Rattle.ls_history.specs.declared.history_entry.HistoryEntry.{HistoryEntry}
use Rattle.ls_history.specs.declared.history_entry.HistoryEntry.TheVariants.{Began, Heard, Left}
use Rattle.ls_history.specs.History.{IsLegalHistory}
use Rattle.ls_history.specs.Told.{events_of, heard_of, outs_of}

-- a body of two bytes, `hi`
abbrev pub body : List ℕ
body = 104 ∷ 105 ∷ []

-- a desk with room for three begins, a body is said and leaves, and then a document can't be closed, for this cause
abbrev pub refused_for : DeskFault → List HistoryEntry
refused_for fault = Began 3 ∷ Heard (Say body) (Ok answer.Said) ∷ Left (out.Said body) ∷ Heard (DidClose []) (Err fault) ∷ []

-- the same, for the cause that holds: no document of this uri is open
abbrev pub short : List HistoryEntry
short = refused_for NotOpen

-- What that history says of each kind, and that it is legal for the cause that holds, and for no other.
pub record IsShort : Type 0 where
  pub heard : heard_of short ≡ (Say body, Ok answer.Said) ∷ (DidClose [], Err NotOpen) ∷ []
  pub outs : outs_of short ≡ out.Said body ∷ []
  pub events : events_of short ≡ event.Said body ∷ event.Sent 0 ∷ []
  pub legal : IsLegalHistory short
  pub other : IsLegalHistory (refused_for AlreadyOpen) → ⊥
