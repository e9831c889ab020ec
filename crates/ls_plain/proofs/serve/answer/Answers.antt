use Rattle.std.proofs.Common.{true}
use Rattle.std.proofs.lemmas.Result.{err_from_is_err_and}
use Rattle.ls_steps.proofs.Settled.{can_send}
use Rattle.ls_plain.proofs.Writing.{fault_answered, none_answered, one_answer}
use Rattle.ls_plain.proofs.serve.answer.Goals as goal

pub returns-in_err-meet-clause-answers : goal.returns-in_err-meet-clause-answers
returns-in_err-meet-clause-answers g c =
    let p = err_from_is_err_and c.from_residual.result c.from_residual.ensures.1 in none_answered _ c.meet.new.self c.args.body.now c.from_residual.result p.0 _ p.1 p.2

pub send_all-requires : goal.send_all-requires
send_all-requires g c = can_send true c.args.talk.now c.meet.new.self c.requires.0 c.requires.1 c.args.body.now c.requires.2 c.in_ok-meet.ensures

pub returns-in_err-send_all-clause-answers : goal.returns-in_err-send_all-clause-answers
returns-in_err-send_all-clause-answers g c =
    let p = err_from_is_err_and c.from_residual-in_err-send_all.result c.from_residual-in_err-send_all.ensures.1 in
    let can = can_send true c.args.talk.now c.meet.new.self c.requires.0 c.requires.1 c.args.body.now c.requires.2 c.in_ok-meet.ensures in
    fault_answered _ c.meet.new.self c.send_all.new.talk c.args.body.now c.from_residual-in_err-send_all.result p.0 c.in_err-send_all.field-0.0 _ _ p.1 p.2
    c.in_ok-meet.ensures can c.in_err-send_all.ensures.sends

pub returns-clause-answers : goal.returns-clause-answers
returns-clause-answers g c =
    one_answer _ c.meet.new.self c.send_all.new.talk c.args.body.now _ _ _ c.in_ok-meet.ensures c.in_ok-send_all.ensures.sends c.status.ensures
