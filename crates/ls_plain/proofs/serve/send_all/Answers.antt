use Rattle.std.proofs.Common.{rules, refl, ◌∙◌}
use Rattle.std.proofs.lemmas.Result.{err_from_is_err_and}
use Rattle.ls_steps.proofs.Serving.{frame_sent, replies_end}
use Rattle.ls_plain.proofs.Sending.{sent_before, sent_end, sent_more, sent_part, sent_start}
use Rattle.ls_plain.proofs.serve.send_all.Goals as goal

pub replies-init : goal.replies-init
replies-init g c = record { sent = sent_start _ _; failed = refl; flushed = λ p. p }

pub replies-smaller : goal.replies-smaller
replies-smaller g c = (frame_sent c.replies.talk c.send.new.self _ c.in-Some.frame c.in-Some.is c.in_ok-frame.ensures.sent c.in_ok-frame.ensures.some).fewer

pub replies-preserved : goal.replies-preserved
replies-preserved g c =
    let one = frame_sent c.replies.talk c.send.new.self _ c.in-Some.frame c.in-Some.is c.in_ok-frame.ensures.sent c.in_ok-frame.ensures.some in
    record {
      sent = sent_more _ c.replies.talk c.send.new.self _ _ _ c.in-Some.frame.items c.replies.invariant.sent one.sends (rw c.deref.ensures.value at c.in_ok-send_frame.ensures.ok);
      failed = search rules;
      flushed = λ p. c.in_ok-send_frame.ensures.flushed;
    }

pub returns-in_err-frame-clause-sends : goal.returns-in_err-frame-clause-sends
returns-in_err-frame-clause-sends g c =
    let p = err_from_is_err_and c.from_residual.result c.from_residual.ensures.1 in
    sent_before _ c.replies.talk c.send.new.self _ _ c.from_residual.result p.0 p.1 p.2 c.replies.invariant.sent

pub returns-in_err-send_frame-clause-sends : goal.returns-in_err-send_frame-clause-sends
returns-in_err-send_frame-clause-sends g c =
    let one = frame_sent c.replies.talk c.send.new.self _ c.in-Some.frame c.in-Some.is c.in_ok-frame.ensures.sent c.in_ok-frame.ensures.some in
    let p = err_from_is_err_and c.from_residual-in_err-send_frame.result c.from_residual-in_err-send_frame.ensures.1 in
    sent_part _ c.send.new.self _ _ c.from_residual-in_err-send_frame.result p.0 p.1 (p.2 ∙ c.in_err-send_frame.ensures.fault) (record {
      before = c.replies.talk;
      between = g.W.Sink.contents c.replies.writer;
      earlier = c.replies.invariant.sent;
      frame = c.in-Some.frame.items;
      last = one.sends;
      prefix = rw c.deref.ensures.value at c.in_err-send_frame.ensures.prefix;
    })

pub returns-clause-sends : goal.returns-clause-sends
returns-clause-sends g c =
    sent_end _ c.replies.talk c.send.new.self _ _ c.requires c.replies.invariant.sent
    (replies_end c.replies.talk c.send.new.self _ c.in_default.not-Some c.in_ok-frame.ensures.sent c.in_ok-frame.ensures.none)
