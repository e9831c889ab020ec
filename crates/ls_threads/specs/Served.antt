-- What a run has done that ended well.
use Rattle.std.specs.Prelude.{ℕ, List, [], Option}
use Rattle.std.specs.Io.KnownBytes.{Appends}
use Rattle.ls_session.specs.declared.turn.Status.{Status}
use Rattle.ls_session.specs.declared.session.Stage.TheVariants.{BeforeInitialize}
use Rattle.ls_desk.specs.Stands.{IsSound, Seen}
use Rattle.ls_history.specs.History.{IsHistoryOf}
use Rattle.ls_history.specs.Told.{heard_of, outs_of}
use Rattle.ls_history.specs.declared.history_entry.HistoryEntry.{HistoryEntry}
use Rattle.ls_workers.specs.Jobs.{HasLimits}
use Rattle.ls_threads.specs.Input.{HasHeard}
use Rattle.ls_threads.specs.Settled.{IsSettled}
use Rattle.ls_threads.specs.Writing.{frames_for}
use Rattle.ls_devices.specs.declared.reading.ReaderEnd.{ReaderEnd}
use Rattle.ls_threads.specs.declared.ending.Early.{Early}

-- A run that ended well has one history, which is legal from the start of the session on, and has led to a desk of these limits, whose
-- journal is legal. The client's events in it, each with its answer or its refusal, are what hearing the messages of the input left, from
-- the first on and in their order. The status and the desk are as that end leaves them. What was written are the frames of the replies in
-- it, all of them, whole and in their order.
pub record IsServed (journal events : ℕ) (status : Status) (input left old new : Option (List ℕ)) : Type 0 where
  pub desk : Seen
  pub limits : HasLimits journal events desk
  pub sound : IsSound desk
  pub log : List HistoryEntry
  pub history : IsHistoryOf desk log
  pub end : ReaderEnd Early
  pub heard : HasHeard input left BeforeInitialize [] end (heard_of log)
  pub settled : IsSettled events status end desk
  pub written : Appends old new (frames_for (outs_of log))
