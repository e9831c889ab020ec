use Rattle.std.proofs.Common.{◌≡◌, ◌∙◌}
use Rattle.ls_devices.proofs.Listening.{input_keeps, input_seen}
use Rattle.ls_devices.specs.declared.fault.ServeFault.TheVariants.{Memory}
use Rattle.ls_plain.specs.own.Answering.{Answers, AnswersPart, standing_of}
use Rattle.ls_plain.proofs.Serving.{caused, ready, run_ended, run_stopped, run_unread}
use Rattle.ls_plain.proofs.serve.answer_input.Goals as goal

pub listen-requires-clause-ready : goal.listen-requires-clause-ready
listen-requires-clause-ready g c = ready c.args.answering.now.talk c.requires.begun

pub returns-in-Ended : goal.returns-in-Ended
returns-in-Ended g c =
    let seen = input_seen (rw c.in-Ended.is at c.listen.ensures.heard)
    (λ it. standing_of it.talk (g.W.Sink.contents it.writer.now) (g.W.Sink.failed it.writer.now) (g.W.Sink.unflushed it.writer.now)) Answers AnswersPart (λ f. f ≡ Memory)
    (λ body a b e h. h.1) (λ body a b fault h. h.1) (λ fault h. h.1) in
    let run = run_ended _ _ (Unit {0}) (Unit {0}) _ _ c.requires.begun c.in-Ended.status seen in
    record {
      same_reference = input_keeps c.listen.ensures.heard (λ it. it.writer.ghost_name) (λ body a b e h. h.0) (λ body a b fault h. h.0);
      served = run.served;
      good = run.good ∙ c.requires.sink;
      flushed = run.flushed;
    }

pub returns-in-Failed : goal.returns-in-Failed
returns-in-Failed g c =
    let seen = input_seen (rw c.in-Failed.is at c.listen.ensures.heard)
    (λ it. standing_of it.talk (g.W.Sink.contents it.writer.now) (g.W.Sink.failed it.writer.now) (g.W.Sink.unflushed it.writer.now)) Answers AnswersPart (λ f. f ≡ Memory)
    (λ body a b e h. h.1) (λ body a b fault h. h.1) (λ fault h. h.1) in
    let run = run_unread _ _ _ (Unit {0}) _ _ c.requires.begun seen (caused _ _ _ (rw c.in-Failed.is at c.listen.ensures.cause)) in
    record {
      same_reference = input_keeps c.listen.ensures.heard (λ it. it.writer.ghost_name) (λ body a b e h. h.0) (λ body a b fault h. h.0);
      served = run.served;
      good = run.good;
      flushed = run.flushed;
    }

pub returns-in-Broken : goal.returns-in-Broken
returns-in-Broken g c =
    let seen = input_seen (rw c.in-Broken.is at c.listen.ensures.heard)
    (λ it. standing_of it.talk (g.W.Sink.contents it.writer.now) (g.W.Sink.failed it.writer.now) (g.W.Sink.unflushed it.writer.now)) Answers AnswersPart (λ f. f ≡ Memory)
    (λ body a b e h. h.1) (λ body a b fault h. h.1) (λ fault h. h.1) in
    let run = run_stopped _ _ _ _ _ _ c.requires.begun c.in-Broken.fault seen (λ e. e) in
    record {
      same_reference = input_keeps c.listen.ensures.heard (λ it. it.writer.ghost_name) (λ body a b e h. h.0) (λ body a b fault h. h.0);
      served = run.served;
      good = run.good;
      flushed = run.flushed;
    }
