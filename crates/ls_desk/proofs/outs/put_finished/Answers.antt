use Rattle.std.proofs.Common.{◌≡◌, Bool, true, false, cond, [], ◌∷◌, ◌++◌, length, sym, ap, ◌∙◌, arith, rules}
use Rattle.std.specs.Prelude.{is_none}
use Rattle.ls_answers.specs.Told.{Told}
use Rattle.ls_machine.specs.declared.state.Waiting.{Waiting}
use Rattle.ls_machine.specs.Machine.{internal_error}
use Rattle.ls_desk.specs.Stands.{failed, finished, out_of}
use Rattle.ls_desk.proofs.outs.put_finished.Goals as goal
use Rattle.ls_desk.proofs.outs.put_finished.Goals.{in-Some, in-None}

as_failed : (w : Waiting) (done : Told) (b : Bool) → b ≡ is_none done.answer → b ≡ true → length (finished w done) ≡ length (failed internal_error w)
as_failed w done b is holds = ap (λ (x : Bool). length (cond x (failed internal_error w) (out_of w w.request done ∷ []))) (sym is ∙ holds)

as_replied : (w : Waiting) (done : Told) (b : Bool) → b ≡ is_none done.answer → b ≡ false → length (finished w done) ≡ 1
as_replied w done b is fails = ap (λ (x : Bool). length (cond x (failed internal_error w) (out_of w w.request done ∷ []))) (sym is ∙ fails)

pub put_failure-requires : goal.put_failure-requires
put_failure-requires c = let one = as_failed c.args.job c.args.done c.args.failed c.requires.failed c.if-failed.true in let r = c.requires.room in omega arith

pub push_back_reserved-requires : goal.push_back_reserved-requires
push_back_reserved-requires c = let one = as_replied c.args.job c.args.done c.args.failed c.requires.failed c.if-failed.false in let r = c.requires.room in omega arith

pub returns : goal.returns
returns c =
    let told = c.args.outbox.now.items in
    let reply : c.match-request.reply ≡ out_of c.args.job c.args.job.request c.args.done = elim c.match-request.branch [
      | in-Some w ↦ search rules
      | in-None w ↦ search rules
    ] in
    c.push_back_reserved.ensures.items
    ∙ ((λ i. told ++ reply i ∷ [])
    ∙ ap (λ (failed-in : Bool). told ++ cond failed-in (failed internal_error c.args.job) (out_of c.args.job c.args.job.request c.args.done ∷ [])) (sym c.if-failed.false ∙ c.requires.failed))
