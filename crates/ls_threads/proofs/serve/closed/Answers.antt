use Rattle.std.proofs.Common.{◌∙◌, false, refl, sym, subst, ap, true}
use Rattle.ls_history.specs.Told.{heard_of, outs_of}
use Rattle.ls_threads.specs.Settled.{is_settled}
use Rattle.ls_threads.specs.Ends.{has_failed}
use Rattle.ls_threads.specs.Writing.{SaysTheRest, WritesFrames}
use Rattle.ls_threads.specs.declared.ending.Wrote.{Wrote}
use Rattle.ls_threads.proofs.Ends.{all_is_written, if_ok, ok_shows}
use Rattle.ls_threads.proofs.Settled.{is_settled_holds}
use Rattle.ls_threads.proofs.Written.{all_before, all_frames, fine_before, is_served, leave_used, seats_written}
use Rattle.ls_threads.proofs.serve.closed.Goals as goal

pub returns-in_default-clause-causes : goal.returns-in_default-clause-causes
returns-in_default-clause-causes g c = λ m. record {
  wrote = c.args.ran.written.end;
  audited = false;
  settled = false;
  answer_is = c.result_of.ensures;
  failed_is = c.args.ran.written.failed;
  wrote_is = λ e. refl;
  cause = λ e. (c.in_default.field-0, c.in_default.ensures.err);
  desk = λ e. absurd (cc);
}

pub returns-clause-causes : goal.returns-clause-causes
returns-clause-causes g c = λ m. record {
  wrote = c.finished-wrote.result;
  audited = true;
  settled = c.is_settled-settled.result;
  answer_is = c.result_of-2.ensures;
  failed_is = c.finished-wrote.ensures.failed;
  wrote_is = λ e. c.finished-wrote.ensures.kept (c.has_met_full_session-full.ensures ∙ e);
  cause = λ e. absurd (cc);
  desk = λ e. (
    c.in-Ok.desk,
    record { sound = c.journal-sound.ensures.sound; counts = (c.in-Ok.ensures.counts, c.in-Ok.ensures.limits); agrees = c.in-Ok.ensures.agrees },
    ap (λ n. is_settled n c.args.ran.done.read.end c.args.ran.done.worked c.in-Ok.desk) c.requires.limit ∙ sym c.is_settled-settled.ensures,
  );
}

pub returns-clause-served : goal.returns-clause-served
returns-clause-served g c = if_ok c.result_of-2.result (λ s e.
    let h = c.args.ran.done.read.end in
    let k = c.args.ran.done.worked in
    let w = c.args.ran.written in
    let f = c.finished-wrote in
    let desk = c.in-Ok.desk in
    let answered = sym c.result_of-2.ensures ∙ e in
    let shown = ok_shows h f.result k c.is_settled-settled.result s answered in
    let all = all_is_written h f.result k c.is_settled-settled.result s answered in
    let before = all_before w.end f.result (λ n. (f.ensures.still n).0) all in
    let met = c.has_met_full_session-full.ensures in
    let full = c.has_met_full_session-full.result in
    let P : Wrote → Type 0 = λ end. SaysTheRest full end desk (g.W.Sink.contents w.sink) (g.W.Sink.contents f.new.sink) in
    let rest = subst P all (f.ensures.told before) in
    let settled = is_settled_holds g.C.Crew.max_events h k full s desk rest.after (sym met)
    (ap (λ n. is_settled n h k desk) c.requires.limit ∙ (sym c.is_settled-settled.ensures ∙ shown.is_settled))
    shown.not_read (λ q. shown.is_full (sym met ∙ q)) (λ q. shown.is_last (sym met ∙ q)) (λ q. rest.rest q refl) rest.same (leave_used desk rest.after rest.told.outs rest.told.leave) in
    is_served g.C.Crew.max_journal g.C.Crew.max_events s (g.I.Source.remaining c.args.input.value) (g.I.Source.remaining c.args.ran.done.read.source) (g.W.Sink.contents c.args.begun.value) (g.W.Sink.contents w.sink) (g.W.Sink.contents f.new.sink)
    h (heard_of c.args.ran.done.read.seat.front) (outs_of w.seat.front) (g.W.Sink.unflushed c.args.begun.value) (g.W.Sink.unflushed w.sink) w.end full desk
    c.in-Ok.ensures.history c.journal-sound.ensures.sound c.in-Ok.ensures.limits c.requires.written before rest settled c.requires.heard)

-- what the writer has written
pub returns-then-not-made-clause-frames : goal.returns-then-not-made-clause-frames
returns-then-not-made-clause-frames g c =
    let w = c.args.ran.written in
    subst (λ b. WritesFrames b (g.I.Source.remaining c.args.input.value) (g.I.Source.remaining c.args.ran.done.read.source) (g.W.Sink.contents c.args.begun.value) (g.W.Sink.contents w.sink)) (sym w.failed)
    (seats_written (has_failed w.end) c.args.ran.done.read.end _ _ _ _ (heard_of c.args.ran.done.read.seat.front) (outs_of w.seat.front) c.close-audited.ensures.told c.requires.heard c.requires.written.front)

pub returns-in_default-clause-frames : goal.returns-in_default-clause-frames
returns-in_default-clause-frames g c =
    let w = c.args.ran.written in
    subst (λ b. WritesFrames b (g.I.Source.remaining c.args.input.value) (g.I.Source.remaining c.args.ran.done.read.source) (g.W.Sink.contents c.args.begun.value) (g.W.Sink.contents w.sink)) (sym w.failed)
    (seats_written (has_failed w.end) c.args.ran.done.read.end _ _ _ _ (heard_of c.args.ran.done.read.seat.front) (outs_of w.seat.front) c.close-audited.ensures.told c.requires.heard c.requires.written.front)

pub returns-clause-frames : goal.returns-clause-frames
returns-clause-frames g c =
    let w = c.args.ran.written in
    let f = c.finished-wrote in
    subst (λ b. WritesFrames b (g.I.Source.remaining c.args.input.value) (g.I.Source.remaining c.args.ran.done.read.source) (g.W.Sink.contents c.args.begun.value) (g.W.Sink.contents f.new.sink)) (sym f.ensures.failed)
    (all_frames w.end f.result c.has_met_full_session-full.result c.in-Ok.desk c.args.ran.done.read.end (g.I.Source.remaining c.args.input.value) (g.I.Source.remaining c.args.ran.done.read.source)
    (g.W.Sink.contents c.args.begun.value) (g.W.Sink.contents w.sink) (g.W.Sink.contents f.new.sink) (heard_of c.args.ran.done.read.seat.front) (outs_of w.seat.front)
    (g.W.Sink.unflushed c.args.begun.value) (g.W.Sink.unflushed w.sink) c.in-Ok.ensures.history c.requires.heard c.requires.written f.ensures.told f.ensures.still)

pub returns-clause-good : goal.returns-clause-good
returns-clause-good g c = if_ok c.result_of-2.result (λ s e.
    let f = c.finished-wrote in
    let shown = ok_shows c.args.ran.done.read.end f.result c.args.ran.done.worked c.is_settled-settled.result s (sym c.result_of-2.ensures ∙ e) in
    f.ensures.failed ∙ shown.not_failed)

pub returns-clause-flushed : goal.returns-clause-flushed
returns-clause-flushed g c = λ e q.
    let w = c.args.ran.written in
    let f = c.finished-wrote in
    let fine = sym f.ensures.failed ∙ q in
    f.ensures.flushed (c.requires.written.flushed e (fine_before w.end f.result (λ n. (f.ensures.still n).0) fine)) fine

pub returns-in_default-clause-not_made : goal.returns-in_default-clause-not_made
returns-in_default-clause-not_made g c = λ e. absurd (cc)

pub returns-clause-not_made : goal.returns-clause-not_made
returns-clause-not_made g c = λ e. absurd (cc)
