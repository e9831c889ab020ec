use Rattle.std.proofs.lemmas.Result.{IfOk-weaker}
use Rattle.ls_answers.proofs.DraftAnswers.{other_answer}
use Rattle.ls_answers.proofs.in_draft.answer_with.Goals as goal

pub returns-in_default : goal.returns-in_default
returns-in_default c =
    IfOk-weaker c.carried.result _ _
    (λ given h. other_answer c.args.format c.args.places.now c.args.ask.now given c.in_default.not-Tokens c.in_default.not-Diagnose h)
    c.carried.ensures
