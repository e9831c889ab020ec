-- What is written of replies, one after the other, and what leaves a desk behind its history.
use Rattle.std.proofs.Common.{◌≡◌, ◌∙◌, ℕ, ◌+◌, Bool, true, false, List, [], ◌∷◌, ◌++◌, length, Option, Some, refl, sym, ap, subst, append_assoc, arith}
use Rattle.std.specs.Prelude.{◌≢◌}
use Rattle.std.specs.Option.{option_map_or}
use Rattle.std.specs.Io.KnownBytes.{Appends}
use Rattle.std.proofs.lemmas.List.{append-nil}
use Rattle.std.proofs.lemmas.Grind.{flat_map-append}
use Rattle.std.proofs.lemmas.List.Elements.{filter_map-append}
use Rattle.ls_frame.specs.Frames.{frame_of}
use Rattle.ls_machine.specs.Counts.{count_one, total}
use Rattle.ls_machine.specs.declared.base.Counts.{Counts}
use Rattle.ls_machine.specs.declared.event.Event.TheVariants.{Sent}
use Rattle.ls_machine.specs.declared.event.Out.{Out}
use Rattle.ls_session.specs.Bodies.{body_of}
use Rattle.ls_session.specs.declared.turn.Status.{Status}
use Rattle.ls_session.specs.declared.session.Stage.TheVariants.{BeforeInitialize}
use Rattle.ls_desk.specs.Stands.{IsSound, Seen, Sends, counts_of, ticket_of_out, used}
use Rattle.ls_devices.specs.Devices.{AppendsPrefix}
use Rattle.ls_devices.proofs.Known.{appends_appends, appends_none}
use Rattle.ls_history.specs.History.{IsHistoryOf}
use Rattle.ls_history.specs.Told.{heard_of, heard_of_one, out_of_one, outs_of}
use Rattle.ls_history.specs.declared.history_entry.HistoryEntry.{HistoryEntry}
use Rattle.ls_history.specs.declared.history_entry.HistoryEntry.TheVariants.{Left}
use Rattle.ls_history.proofs.Leads.{histories_go_on}
use Rattle.ls_workers.specs.Jobs.{HasLimits}
use Rattle.ls_workers.specs.Seats.{HasHistory, HaveHistory}
use Rattle.ls_threads.specs.Ends.{has_failed}
use Rattle.ls_threads.specs.Input.{HasHeard}
use Rattle.ls_threads.specs.Reading.{HeardReplies}
use Rattle.ls_threads.specs.Served.{IsServed}
use Rattle.ls_threads.specs.declared.ending.Early.TheVariants.{Memory as LacksMemory}
use Rattle.ls_devices.specs.declared.reading.ReaderEnd.{ReaderEnd}
use Rattle.ls_threads.specs.declared.ending.Early.{Early}
use Rattle.ls_devices.specs.declared.reading.ReaderEnd.TheVariants.{Broken}
use Rattle.ls_threads.specs.Settled.{IsSettled}
use Rattle.ls_threads.specs.Writing.{HasTold, HasWritten, Leave, SaysTheRest, WritesFrames, WritesFront, frame_for, frames_for}
use Rattle.ls_threads.specs.declared.ending.Wrote.{Wrote}
use Rattle.ls_threads.specs.declared.ending.Wrote.TheVariants.{All, Failed, Memory}
use Rattle.ls_devices.proofs.Listening.{refused_at_once}
use Rattle.ls_threads.specs.Reading.{BreaksOffAt, Hears}

pub frame_is : (out : Out) (body : List ℕ) → body_of out ≡ Some body → frame_for out ≡ frame_of body
frame_is out body e = ap (λ o. option_map_or frame_of o []) e

frames_more : (outs : List Out) (out : Out) → frames_for (outs ++ out ∷ []) ≡ frames_for outs ++ frame_for out
frames_more outs out = flat_map-append frame_for outs (out ∷ []) ∙ ap (λ l. frames_for outs ++ l) (append-nil (frame_for out))

-- all was written
pub all_front : (failed : Bool) (a b : Option (List ℕ)) (outs : List Out) → Appends a b (frames_for outs) → WritesFront failed a b outs
all_front failed a b outs w = record {
  whole = outs;
  left = [];
  outs_are = sym (append-nil outs);
  few = omega arith;
  part = [];
  more = [];
  left_is = refl;
  none = λ e. refl;
  written = subst (Appends a b) (sym (append-nil (frames_for outs))) w;
}

-- behind all that was written comes a front of one more
left_front : (failed : Bool) (a b c : Option (List ℕ)) (outs : List Out) (out : Out) → Appends a b (frames_for outs) → (f : AppendsPrefix b c (frame_for out)) → (failed ≡ false → f.0 ≡ [])
    → WritesFront failed a c (outs ++ out ∷ [])
left_front failed a b c outs out w f none = record {
  whole = outs;
  left = out ∷ [];
  outs_are = refl;
  few = omega arith;
  part = f.0;
  more = f.1;
  left_is = append-nil (frame_for out) ∙ f.2.0;
  none = none;
  written = appends_appends a b c (frames_for outs) f.0 w f.2.1;
}

-- a reply comes behind those that were all written
front_next : (end : Wrote) (a b c : Option (List ℕ)) (outs : List Out) (out : Out) → Appends a b (frames_for outs) → (end ≡ All → Appends b c (frame_for out))
    → AppendsPrefix b c (frame_for out) → (end ≡ Memory → Appends b c []) → WritesFront (has_failed end) a c (outs ++ out ∷ [])
front_next All a b c outs out w all front none =
    all_front false a c (outs ++ out ∷ []) (subst (Appends a c) (sym (frames_more outs out)) (appends_appends a b c (frames_for outs) (frame_for out) w (all refl)))
front_next Failed a b c outs out w all front none = left_front true a b c outs out w front (λ e. absurd (cc))
front_next Memory a b c outs out w all front none = left_front false a b c outs out w ([], frame_for out, (refl, none refl)) (λ e. refl)

-- behind all that was written comes more
front_behind : (failed : Bool) (a b c : Option (List ℕ)) (outs more : List Out) → Appends a b (frames_for outs) → WritesFront failed b c more → WritesFront failed a c (outs ++ more)
front_behind failed a b c outs more w f =
    let frames : frames_for (outs ++ f.whole) ≡ frames_for outs ++ frames_for f.whole = flat_map-append frame_for outs f.whole in
    record {
      whole = outs ++ f.whole;
      left = f.left;
      outs_are = ap (λ l. outs ++ l) f.outs_are ∙ sym (append_assoc outs f.whole f.left);
      few = f.few;
      part = f.part;
      more = f.more;
      left_is = f.left_is;
      none = f.none;
      written = subst (Appends a c) (sym (ap (λ l. l ++ f.part) frames ∙ append_assoc (frames_for outs) (frames_for f.whole) f.part))
          (appends_appends a b c (frames_for outs) (frames_for f.whole ++ f.part) w f.written);
    }

-- behind what was written comes nothing
front_stays : (failed : Bool) (a b c : Option (List ℕ)) (outs : List Out) → WritesFront failed a b outs → Appends b c [] → WritesFront failed a c outs
front_stays failed a b c outs f none = record {
  whole = f.whole;
  left = f.left;
  outs_are = f.outs_are;
  few = f.few;
  part = f.part;
  more = f.more;
  left_is = f.left_is;
  none = f.none;
  written = subst (Appends a c) (append-nil (frames_for f.whole ++ f.part)) (appends_appends a b c (frames_for f.whole ++ f.part) [] f.written none);
}

-- ---- the writer

-- nothing was given, and nothing written
pub has_begun : (a : Option (List ℕ)) (held : Bool) (outs : List Out) → outs ≡ [] → HasWritten a a held held All outs
has_begun a held outs none =
    let nothing : Appends a a (frames_for outs) = subst (λ (l : List Out). Appends a a (frames_for l)) (sym none) (appends_none a) in
    record { front = all_front false a a outs nothing; whole = λ e. nothing; flushed = λ e q. e }

-- a reply more was given, and its frame written, or a front of it
pub writes_on : (a b c : Option (List ℕ)) (held before holds : Bool) (end : Wrote) (outs later : List Out) (out : Out) → HasWritten a b held before All outs → later ≡ outs ++ out ∷ []
    → (end ≡ All → Appends b c (frame_for out)) → AppendsPrefix b c (frame_for out) → (end ≡ Memory → Appends b c []) → (before ≡ false → has_failed end ≡ false → holds ≡ false)
    → HasWritten a c held holds end later
writes_on a b c held before holds end outs later out h more whole front none flushed =
    subst (HasWritten a c held holds end) (sym more) (record {
      front = front_next end a b c outs out (h.whole refl) whole front none;
      whole = λ e. subst (Appends a c) (sym (frames_more outs out)) (appends_appends a b c (frames_for outs) (frame_for out) (h.whole refl) (whole e));
      flushed = λ e q. flushed (h.flushed e refl) q;
    })

-- nothing more was given
pub writes_all : (a b : Option (List ℕ)) (held holds : Bool) (outs later : List Out) → HasWritten a b held holds All outs → later ≡ outs → HasWritten a b held holds All later
writes_all a b held holds outs later h same = subst (HasWritten a b held holds All) (sym same) h

-- memory was refused for the next one
pub writes_less : (a b : Option (List ℕ)) (held holds : Bool) (outs later : List Out) → HasWritten a b held holds All outs → later ≡ outs → HasWritten a b held holds Memory later
writes_less a b held holds outs later h same =
    subst (HasWritten a b held holds Memory) (sym same) (record { front = h.front; whole = λ e. absurd (cc); flushed = h.flushed })

-- ---- replies that leave a desk

leave_more : (before middle after : Seen) (outs : List Out) (out : Out) → Leave outs before middle → Sends middle after out → Leave (outs ++ out ∷ []) before after
leave_more before middle after [] out none sends = (after, subst (λ (d : Seen). Sends d after out) none sends, refl)
leave_more before middle after (o ∷ outs) out l sends = (l.0, l.1, leave_more l.0 middle after outs out l.2 sends)

pub leave_sound : (before after : Seen) (outs : List Out) → Leave outs before after → IsSound before → IsSound after
leave_sound before after [] none sound = subst IsSound (sym none) sound
leave_sound before after (out ∷ outs) l sound = leave_sound l.0 after outs l.2 l.1.enters.sound

pub leave_limits : (journal events : ℕ) (before after : Seen) (outs : List Out) → Leave outs before after → HasLimits journal events before → HasLimits journal events after
leave_limits journal events before after [] none limits = subst (HasLimits journal events) (sym none) limits
leave_limits journal events before after (out ∷ outs) l limits =
    leave_limits journal events l.0 after outs l.2 (record { journal_is = l.1.enters.most_journal ∙ limits.journal_is; events_is = l.1.enters.most ∙ limits.events_is })

one_used : (c : Counts) (ticket : ℕ) → total (count_one c (Sent ticket)) ≡ total c + 1
one_used c ticket = omega arith

-- a reply that leaves takes its own place among what is used
sent_used : (before after : Seen) (out : Out) → Sends before after out → used after ≡ used before
sent_used before after out sends =
    let counted : total (counts_of after) ≡ total (counts_of before) + 1 = ap total sends.enters.counts ∙ one_used (counts_of before) (ticket_of_out out) in
    let unsent : length before.outbox ≡ length (out ∷ after.outbox) = ap length sends.first in
    omega (arith, counted, unsent)

pub leave_used : (before after : Seen) (outs : List Out) → Leave outs before after → used after ≡ used before
leave_used before after [] none = ap used none
leave_used before after (out ∷ outs) l = leave_used l.0 after outs l.2 ∙ sent_used before l.0 out l.1

-- ---- and come into its history

left_all : List Out → List HistoryEntry
left_all [] = []
left_all (out ∷ outs) = Left out ∷ left_all outs

outs_left : (outs : List Out) → outs_of (left_all outs) ≡ outs
unfolding left_all
outs_left [] = refl
outs_left (out ∷ outs) = ap (λ l. out ∷ l) (outs_left outs)

heard_left : (outs : List Out) → heard_of (left_all outs) ≡ []
unfolding left_all
heard_left [] = refl
heard_left (out ∷ outs) = heard_left outs

outs_behind : (log : List HistoryEntry) (outs : List Out) → outs_of (log ++ left_all outs) ≡ outs_of log ++ outs
outs_behind log outs = filter_map-append out_of_one log (left_all outs) ∙ ap (λ l. outs_of log ++ l) (outs_left outs)

heard_behind : (log : List HistoryEntry) (outs : List Out) → heard_of (log ++ left_all outs) ≡ heard_of log
heard_behind log outs = filter_map-append heard_of_one log (left_all outs) ∙ (ap (λ l. heard_of log ++ l) (heard_left outs) ∙ append-nil (heard_of log))

history_more : (before after : Seen) (log : List HistoryEntry) (outs : List Out) → IsHistoryOf before log → Leave outs before after → IsHistoryOf after (log ++ left_all outs)
unfolding left_all
history_more before after log [] history none = subst (IsHistoryOf after) (sym (append-nil log)) (subst (λ (d : Seen). IsHistoryOf d log) (sym none) history)
history_more before after log (out ∷ outs) history l =
    let one : IsHistoryOf l.0 (log ++ Left out ∷ []) = histories_go_on before l.0 log (Left out) history l.1.enters.sound l.1 in
    subst (IsHistoryOf after) (append_assoc log (Left out ∷ []) (left_all outs)) (history_more l.0 after (log ++ Left out ∷ []) outs one l.2)

-- ---- the rest

-- nothing left the desk, and nothing was written
pub told_none : (end : Wrote) (d : Seen) (a : Option (List ℕ)) → HasTold end d d a a
told_none end d a = record { outs = []; leave = refl; front = all_front (has_failed end) a a [] (appends_none a); whole = λ e. appends_none a }

-- a reply more left the desk, and its frame was written
pub told_more : (end : Wrote) (d e f : Seen) (a b c : Option (List ℕ)) (out : Out) → HasTold All d e a b → Sends e f out → (end ≡ All → Appends b c (frame_for out))
    → AppendsPrefix b c (frame_for out) → (end ≡ Memory → Appends b c []) → HasTold end d f a c
told_more end d e f a b c out h sends whole front none = record {
  outs = h.outs ++ out ∷ [];
  leave = leave_more d e f h.outs out h.leave sends;
  front = front_next end a b c h.outs out (h.whole refl) whole front none;
  whole = λ q. subst (Appends a c) (sym (frames_more h.outs out)) (appends_appends a b c (frames_for h.outs) (frame_for out) (h.whole refl) (whole q));
}

-- ---- the run

-- The writer wrote all that it was given, and what the desk of a full session still had to say was written too.
pub is_served : (journal events : ℕ) (status : Status) (input left a b c : Option (List ℕ)) (heard : ReaderEnd Early) (replies : HeardReplies) (outs : List Out) (held holds : Bool) (wrote : Wrote) (full : Bool) (d : Seen)
    → HasHistory replies outs d → IsSound d → HasLimits journal events d → HasWritten a b held holds wrote outs → wrote ≡ All → (rest : SaysTheRest full All d b c)
    → IsSettled events status heard rest.after → HasHeard input left BeforeInitialize [] heard replies → IsServed journal events status input left a c
is_served journal events status input left a b c heard replies outs held holds wrote full d history sound limits written all rest settled hears =
    let told = rest.told in
    let log = history.0 ++ left_all told.outs in
    let frames : frames_for (outs_of log) ≡ frames_for outs ++ frames_for told.outs
    = ap frames_for (outs_behind history.0 told.outs ∙ ap (λ l. l ++ told.outs) history.3) ∙ flat_map-append frame_for outs told.outs in
    record {
      desk = rest.after;
      limits = leave_limits journal events d rest.after told.outs told.leave limits;
      sound = leave_sound d rest.after told.outs told.leave sound;
      log = log;
      history = history_more d rest.after history.0 told.outs history.1 told.leave;
      end = heard;
      heard = subst (HasHeard input left BeforeInitialize [] heard) (sym (heard_behind history.0 told.outs ∙ history.2)) hears;
      settled = settled;
      written = subst (Appends a c) (sym frames) (appends_appends a b c (frames_for outs) (frames_for told.outs) (written.whole all) (told.whole refl));
    }

-- ---- what was written, whatever the answer

-- nothing was, and nothing was read
pub none_written : (failed : Bool) (input a b : Option (List ℕ)) → Appends a b [] → WritesFrames failed input input a b
none_written failed input a b w = record {
  log = [];
  legal = tt;
  end = Broken LacksMemory;
  heard = (BeforeInitialize, refused_at_once Hears (λ body at early next. BreaksOffAt body at next) (λ early. early ≡ LacksMemory) input (BeforeInitialize, []) LacksMemory refl);
  front = all_front failed a b [] w;
}

-- the seats have one history, and the writer wrote what it was given
pub seats_written : (failed : Bool) (end : ReaderEnd Early) (input left a b : Option (List ℕ)) (replies : HeardReplies) (outs : List Out) → HaveHistory replies outs
    → HasHeard input left BeforeInitialize [] end replies → WritesFront failed a b outs → WritesFrames failed input left a b
seats_written failed end input left a b replies outs history heard front = record {
  log = history.0;
  legal = history.1;
  end = end;
  heard = subst (HasHeard input left BeforeInitialize [] end) (sym history.2) heard;
  front = subst (WritesFront failed a b) (sym history.3) front;
}

-- the rest came behind what the writer had written
rest_behind : (end : Wrote) (full : Bool) (d : Seen) (heard : ReaderEnd Early) (input left a b c : Option (List ℕ)) (replies : HeardReplies) (outs : List Out) → HasHistory replies outs d
    → HasHeard input left BeforeInitialize [] heard replies → Appends a b (frames_for outs) → SaysTheRest full end d b c → WritesFrames (has_failed end) input left a c
rest_behind end full d heard input left a b c replies outs history hears written rest =
    let told = rest.told in
    record {
      log = history.0 ++ left_all told.outs;
      legal = (history_more d rest.after history.0 told.outs history.1 told.leave).legal;
      end = heard;
      heard = subst (HasHeard input left BeforeInitialize [] heard) (sym (heard_behind history.0 told.outs ∙ history.2)) hears;
      front = subst (WritesFront (has_failed end) a c) (sym (outs_behind history.0 told.outs ∙ ap (λ l. l ++ told.outs) history.3))
          (front_behind (has_failed end) a b c outs told.outs written told.front);
    }

writes_nothing_more : (before after : Wrote) (d : Seen) (heard : ReaderEnd Early) (input left a b c : Option (List ℕ)) (replies : HeardReplies) (outs : List Out) → HasHistory replies outs d
    → HasHeard input left BeforeInitialize [] heard replies → WritesFront (has_failed before) a b outs → (after ≡ before) × Appends b c [] → WritesFrames (has_failed after) input left a c
writes_nothing_more before after d heard input left a b c replies outs history hears front still =
    subst (λ (end : Wrote). WritesFrames (has_failed end) input left a c) (sym still.0)
    (seats_written (has_failed before) heard input left a c replies outs (history.0, history.1.legal, history.2, history.3) hears (front_stays (has_failed before) a b c outs front still.1))

failed_is_not_all : Failed ≢ All
failed_is_not_all e = absurd (cc (e))

memory_is_not_all : Memory ≢ All
memory_is_not_all e = absurd (cc (e))

-- what the writer wrote, and what was written behind it
pub all_frames : (before after : Wrote) (full : Bool) (d : Seen) (heard : ReaderEnd Early) (input left a b c : Option (List ℕ)) (replies : HeardReplies) (outs : List Out) (held holds : Bool) → HasHistory replies outs d
    → HasHeard input left BeforeInitialize [] heard replies → HasWritten a b held holds before outs → (before ≡ All → SaysTheRest full after d b c) → (before ≢ All → (after ≡ before) × Appends b c [])
    → WritesFrames (has_failed after) input left a c
all_frames All after full d heard input left a b c replies outs held holds history hears written rest still =
    rest_behind after full d heard input left a b c replies outs history hears (written.whole refl) (rest refl)
all_frames Failed after full d heard input left a b c replies outs held holds history hears written rest still =
    writes_nothing_more Failed after d heard input left a b c replies outs history hears written.front (still failed_is_not_all)
all_frames Memory after full d heard input left a b c replies outs held holds history hears written rest still =
    writes_nothing_more Memory after d heard input left a b c replies outs history hears written.front (still memory_is_not_all)

-- where all was written in the end, it was before
pub all_before : (before after : Wrote) → (before ≢ All → after ≡ before) → after ≡ All → before ≡ All
all_before All after still all = refl
all_before Failed after still all = absurd (failed_is_not_all (sym (still failed_is_not_all) ∙ all))
all_before Memory after still all = absurd (memory_is_not_all (sym (still memory_is_not_all) ∙ all))

-- where the sink hasn't failed in the end, it hadn't before
pub fine_before : (before after : Wrote) → (before ≢ All → after ≡ before) → has_failed after ≡ false → has_failed before ≡ false
fine_before All after still fine = refl
fine_before Failed after still fine = sym (ap has_failed (still failed_is_not_all)) ∙ fine
fine_before Memory after still fine = refl
