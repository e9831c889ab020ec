-- What is written of replies.
use Rattle.std.specs.Prelude.{◌≡◌, ◌≤◌, ◌++◌, ◌∷◌, ℕ, List, [], length, Bool, true, false, Option}
use Rattle.std.specs.List.{flat_map}
use Rattle.std.specs.Option.{option_map_or}
use Rattle.std.specs.Io.KnownBytes.{Appends}
use Rattle.ls_frame.specs.Frames.{frame_of}
use Rattle.ls_machine.specs.declared.event.Out.{Out}
use Rattle.ls_session.specs.Bodies.{body_of}
use Rattle.ls_session.specs.declared.session.Stage.TheVariants.{BeforeInitialize}
use Rattle.ls_desk.specs.Stands.{Seen, Sends}
use Rattle.ls_history.specs.History.{IsLegalHistory}
use Rattle.ls_history.specs.Told.{heard_of, outs_of}
use Rattle.ls_history.specs.declared.history_entry.HistoryEntry.{HistoryEntry}
use Rattle.ls_threads.specs.Ends.{has_failed}
use Rattle.ls_threads.specs.Input.{HasHeard}
use Rattle.ls_devices.specs.declared.reading.ReaderEnd.{ReaderEnd}
use Rattle.ls_threads.specs.declared.ending.Early.{Early}
use Rattle.ls_threads.specs.declared.ending.Wrote.{Wrote}
use Rattle.ls_threads.specs.declared.ending.Wrote.TheVariants.{All}

-- the frame of a reply; there is none of a job that was refused memory, and no desk lets such a reply leave
abbrev pub frame_for : Out → List ℕ
frame_for out = option_map_or frame_of (body_of out) []

-- the frames of replies, in their order
abbrev pub frames_for : List Out → List ℕ
frames_for outs = flat_map frame_for outs

-- Of replies all were written, each with its whole frame, but at most the last one. Of that one a prefix was written where the sink failed,
-- and else nothing.
pub record WritesFront (failed : Bool) (old new : Option (List ℕ)) (outs : List Out) : Type 0 where
  pub whole : List Out
  pub left : List Out
  pub outs_are : outs ≡ whole ++ left
  pub few : length left ≤ 1
  pub part : List ℕ
  pub more : List ℕ
  pub left_is : frames_for left ≡ part ++ more
  pub none : failed ≡ false → part ≡ []
  pub written : Appends old new (frames_for whole ++ part)

-- There is one legal history. Its client's events are what hearing the input left, from the first message on, however that ended. What was
-- written are, whole and in order, the frames of its replies, but at most the last one's; of that one a prefix, and only where the sink
-- failed.
pub record WritesFrames (failed : Bool) (input left old new : Option (List ℕ)) : Type 0 where
  pub log : List HistoryEntry
  pub legal : IsLegalHistory log
  pub end : ReaderEnd Early
  pub heard : HasHeard input left BeforeInitialize [] end (heard_of log)
  pub front : WritesFront failed old new (outs_of log)

-- The frames of these replies were written, but at most the last one's, and all of them where the writer ended well. A sink that held
-- nothing back and hasn't failed holds nothing back.
pub record HasWritten (old new : Option (List ℕ)) (held holds : Bool) (end : Wrote) (outs : List Out) : Type 0 where
  pub front : WritesFront (has_failed end) old new outs
  pub whole : end ≡ All → Appends old new (frames_for outs)
  pub flushed : held ≡ false → has_failed end ≡ false → holds ≡ false

-- These replies leave the desk, one after the other, and nothing else happens there.
abbrev pub Leave : List Out → Seen → Seen → Type 0
Leave [] before after = after ≡ before
Leave (out ∷ outs) before after = (next : Seen) × Sends before next out × Leave outs next after

-- These replies left the desk. Their frames were written, but at most the last one's, and all of them where that ended well.
pub record HasTold (end : Wrote) (before after : Seen) (old new : Option (List ℕ)) : Type 0 where
  pub outs : List Out
  pub leave : Leave outs before after
  pub front : WritesFront (has_failed end) old new outs
  pub whole : end ≡ All → Appends old new (frames_for outs)

-- Where its session is full, what a desk still had to say was written, all of it where that ended well. Otherwise nothing was.
pub record SaysTheRest (full : Bool) (end : Wrote) (before : Seen) (old new : Option (List ℕ)) : Type 0 where
  pub after : Seen
  pub told : HasTold end before after old new
  pub rest : full ≡ true → end ≡ All → after.outbox ≡ []
  pub same : full ≡ false → after ≡ before
