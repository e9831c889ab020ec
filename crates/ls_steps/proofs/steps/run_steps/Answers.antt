use Rattle.std.proofs.Common.{true, ◌+◌, ◌++◌, List, ℕ, Some, ap, ◌∙◌, arith}
use Rattle.std.specs.Prelude.{Vec}
use Rattle.std.specs.Result.{result_err}
use Rattle.std.specs.declared.alloc.Global.{Global}
use Rattle.std.proofs.lemmas.List.{length-map}
use Rattle.ls_frame.specs.Feeds.{contents_of}
use Rattle.ls_steps.specs.Runs.{Runs, acts_of, begun}
use Rattle.ls_steps.proofs.Going.{body_at, broken_on, ends_on, finished_on, goes_as, heard_on, passed_on, run_most, sent_on, taken_on, unsent_on}
use Rattle.ls_steps.proofs.steps.run_steps.Goals as goal
use Rattle.ls_steps.proofs.steps.run_steps.Goals.{After-drop-framer-inside-2, in-Message+then-read-len+in_ok-hear-in-Message, in-Message+else-read-len+in-Err, in-Message+else-read-len+in_default, in-Take+in_ok-take-in-Take, in-Finish+in_ok-finish-in-Finish, in-Send+in_ok-frame-in-Send+in-Some+in_ok-extend_from_slice-in-Send, in-Send+in_ok-frame-in-Send+in_default-2}

abbrev items : Vec ℕ Global → List ℕ
items v = v.items

pub loop-step-preserved : goal.loop-step-preserved
loop-step-preserved c =
    elim c.match-step.branch [
      | in-Message+then-read-len+in_ok-hear-in-Message w ↦
          goes_as (contents_of c.feed_all.new.bodies.items) (result_err c.end-end.result) c.args.steps.now w.hear.new.self _ c.loop-step.bytes.items _ (c.loop-step.read + 1) _ (c.loop-step.step-index + 1) w.talk-is (ap items w.bytes-is) w.read-is
          (heard_on (contents_of c.feed_all.new.bodies.items) (result_err c.end-end.result) c.args.steps.now c.loop-step.step-index c.loop-step.read c.loop-step.talk w.hear.new.self c.loop-step.bytes.items w.deref.result.now c.loop-step-test.true w.in-Message.is (simp length-map (omega arith)) (body_at c.feed_all.new.bodies.items c.loop-step.read w.index.result.now w.deref.result.now w.index.ensures w.deref.ensures.value) w.in_ok-hear-in-Message.ensures c.loop-step.invariant)
      | in-Message+else-read-len+in-Err w ↦
          goes_as (contents_of c.feed_all.new.bodies.items) (result_err c.end-end.result) c.args.steps.now w.break_off.new.self _ c.loop-step.bytes.items _ c.loop-step.read _ (c.loop-step.step-index + 1) w.talk-is (ap items w.bytes-is) w.read-is
          (broken_on (contents_of c.feed_all.new.bodies.items) (result_err c.end-end.result) w.in-Err.fault c.args.steps.now c.loop-step.step-index c.loop-step.read c.loop-step.talk w.break_off.new.self c.loop-step.bytes.items c.loop-step-test.true w.in-Message.is (simp length-map (omega arith)) (ap result_err w.in-Err.is) w.break_off.ensures c.loop-step.invariant)
      | in-Message+else-read-len+in_default w ↦
          goes_as (contents_of c.feed_all.new.bodies.items) (result_err c.end-end.result) c.args.steps.now c.loop-step.talk _ c.loop-step.bytes.items _ c.loop-step.read _ (c.loop-step.step-index + 1) w.talk-is (ap items w.bytes-is) w.read-is
          (passed_on (contents_of c.feed_all.new.bodies.items) (result_err c.end-end.result) c.args.steps.now c.loop-step.step-index c.loop-step.read c.loop-step.talk c.loop-step.bytes.items c.loop-step-test.true w.in-Message.is (simp length-map (omega arith)) (ap result_err w.in_default.is) c.loop-step.invariant)
      | in-Take+in_ok-take-in-Take w ↦
          goes_as (contents_of c.feed_all.new.bodies.items) (result_err c.end-end.result) c.args.steps.now w.take.new.self _ c.loop-step.bytes.items _ c.loop-step.read _ (c.loop-step.step-index + 1) w.talk-is (ap items w.bytes-is) w.read-is
          (taken_on (contents_of c.feed_all.new.bodies.items) (result_err c.end-end.result) c.args.steps.now c.loop-step.step-index c.loop-step.read c.loop-step.talk w.take.new.self c.loop-step.bytes.items c.loop-step-test.true w.in-Take.is w.in_ok-take-in-Take.ensures.steps c.loop-step.invariant)
      | in-Finish+in_ok-finish-in-Finish w ↦
          goes_as (contents_of c.feed_all.new.bodies.items) (result_err c.end-end.result) c.args.steps.now w.finish.new.self _ c.loop-step.bytes.items _ c.loop-step.read _ (c.loop-step.step-index + 1) w.talk-is (ap items w.bytes-is) w.read-is
          (finished_on (contents_of c.feed_all.new.bodies.items) (result_err c.end-end.result) c.args.steps.now c.loop-step.step-index c.loop-step.read w.in-Finish.at c.loop-step.talk w.finish.new.self c.loop-step.bytes.items c.loop-step-test.true w.in-Finish.is w.in_ok-finish-in-Finish.ensures c.loop-step.invariant)
      | in-Send+in_ok-frame-in-Send+in-Some+in_ok-extend_from_slice-in-Send w ↦
          goes_as (contents_of c.feed_all.new.bodies.items) (result_err c.end-end.result) c.args.steps.now w.send.new.self _ (c.loop-step.bytes.items ++ w.in-Some.frame.items) _ c.loop-step.read _ (c.loop-step.step-index + 1) w.talk-is (ap items w.bytes-is ∙ (w.in_ok-extend_from_slice-in-Send.ensures.items ∙ ap (λ (l : List ℕ). c.loop-step.bytes.items ++ l) w.deref-in-Some.ensures.value)) w.read-is
          (sent_on (contents_of c.feed_all.new.bodies.items) (result_err c.end-end.result) c.args.steps.now c.loop-step.step-index c.loop-step.read c.loop-step.talk w.send.new.self c.loop-step.bytes.items _ (Some w.in-Some.frame) c.loop-step-test.true w.in-Send.is w.in-Some.is w.in_ok-frame-in-Send.ensures.sent c.loop-step.invariant)
      | in-Send+in_ok-frame-in-Send+in_default-2 w ↦
          goes_as (contents_of c.feed_all.new.bodies.items) (result_err c.end-end.result) c.args.steps.now w.send.new.self _ c.loop-step.bytes.items _ c.loop-step.read _ (c.loop-step.step-index + 1) w.talk-is (ap items w.bytes-is) w.read-is
          (unsent_on (contents_of c.feed_all.new.bodies.items) (result_err c.end-end.result) c.args.steps.now c.loop-step.step-index c.loop-step.read c.loop-step.talk w.send.new.self c.loop-step.bytes.items _ c.loop-step-test.true w.in-Send.is w.in_default-2.is w.in_ok-frame-in-Send.ensures.sent c.loop-step.invariant)
    ]

run : (c : After-drop-framer-inside-2) → Runs true begun (acts_of (contents_of c.feed_all.new.bodies.items) (result_err c.end-end.result) c.args.steps.now) c.loop-step.talk c.loop-step.bytes.items
run c = ends_on (contents_of c.feed_all.new.bodies.items) (result_err c.end-end.result) c.args.steps.now c.loop-step.talk c.loop-step.bytes.items c.loop-step.read c.loop-step.step-index c.loop-step-test.false c.loop-step.invariant

pub returns-clause-run : goal.returns-clause-run
returns-clause-run c = (
  c.loop-step.talk,
  record { contents = contents_of c.feed_all.new.bodies.items; rest = c.feed_all.new.framer; stream = c.in_ok-feed_all.ensures; end = c.end-end.result; ends = c.end-end.ensures; runs = run c },
  c.into_desk.ensures.base,
  c.into_desk.ensures.journal,
  c.status-status.ensures,
)

pub returns-clause-sound : goal.returns-clause-sound
returns-clause-sound c = (c.into_desk.ensures.sound, c.into_desk.ensures.most.1 ∙ run_most begun c.loop-step.talk _ _ (run c))
