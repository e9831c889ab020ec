use Rattle.std.proofs.Common.{◌++◌, true, suc, [], sym, ap, subst, ◌∙◌, append_assoc}
use Rattle.ls_steps.specs.Plain.{Replies}
use Rattle.std.proofs.lemmas.List.{append-nil}
use Rattle.ls_steps.proofs.Serving.{frame_sent, replies_end, replies_more}
use Rattle.ls_steps.proofs.conversation.Conversation.send_all.Goals as goal

pub frames-init : goal.frames-init
frames-init c = record { goes_on = λ n h later w. (n, subst (λ l. Replies true n c.args.self.now h (l ++ later)) (sym c.new-bytes.ensures.items) w) }

pub frames-smaller : goal.frames-smaller
frames-smaller c = (frame_sent c.frames.self c.send.new.self _ c.in-Some.frame c.in-Some.is c.in_ok-frame.ensures.sent c.in_ok-frame.ensures.some).fewer

pub frames-preserved : goal.frames-preserved
frames-preserved c =
    let one = frame_sent c.frames.self c.send.new.self _ c.in-Some.frame c.in-Some.is c.in_ok-frame.ensures.sent c.in_ok-frame.ensures.some in
    record {
      goes_on = λ n h later w.
          let all = c.frames.invariant.goes_on (suc n) h (c.in-Some.frame.items ++ later) (replies_more c.frames.self c.send.new.self h n c.in-Some.frame.items later one w) in (
            all.0,
            subst (Replies true all.0 c.args.self.now h)
                (sym (append_assoc c.frames.bytes.items c.in-Some.frame.items later) ∙ ap (λ l. l ++ later) (sym c.in_ok-bytes.ensures)) all.1,
          );
    }

pub returns : goal.returns
returns c =
    let end = replies_end c.frames.self c.send.new.self _ c.in_default.not-Some c.in_ok-frame.ensures.sent c.in_ok-frame.ensures.none in
    let all = c.frames.invariant.goes_on 0 c.send.new.self [] end in
    (all.0, subst (Replies true all.0 c.args.self.now c.send.new.self) (append-nil c.frames.bytes.items) all.1)
