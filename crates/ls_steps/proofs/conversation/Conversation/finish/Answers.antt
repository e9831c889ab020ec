use Rattle.std.proofs.Common.{◌≡◌, true, false, None, ap, subst, sym, ◌∙◌, arith}
use Rattle.std.specs.Prelude.{is_some, slice_get}
use Rattle.ls_steps.specs.Runs.{Going}
use Rattle.ls_steps.proofs.Talks.{finished_as, no_job, none_held, unfinished}
use Rattle.ls_steps.proofs.conversation.Conversation.finish.Goals as goal
use Rattle.ls_steps.proofs.conversation.Conversation.finish.Goals.{then-is_full-via-then-is_full, then-is_full-via-else-is_full+then-at-len}

pub returns-then-branch : goal.returns-then-branch
returns-then-branch c =
    finished_as c.args.self.now c.self.inside.session c.self.inside.desk c.finish.new.desk c.self.inside.held.items c.remove-job.new.self.items c.self.inside.status c.args.at c.remove-job.result
    c.run_job-done.result c.in_ok-finish.field-0 true c.is_full.result c.self.view_is c.is_full.ensures c.if-is_full.false (omega arith) c.remove-job.ensures.value c.remove-job.ensures.items
    c.run_job-done.ensures.ticket c.run_job-done.ensures.text c.run_job-done.ensures.encoding c.run_job-done.ensures.ask (λ none. ap is_some (c.run_job-done.ensures.not_a_name none)) c.if-branch.true c.in_ok-finish.ensures.left

pub returns-else-branch : goal.returns-else-branch
returns-else-branch c =
    finished_as c.args.self.now c.self.inside.session c.self.inside.desk c.finish.new.desk c.self.inside.held.items c.remove-job.new.self.items c.self.inside.status c.args.at c.remove-job.result
    c.run_job-done.result c.in_ok-finish.field-0 false c.is_full.result c.self.view_is c.is_full.ensures c.if-is_full.false (omega arith) c.remove-job.ensures.value c.remove-job.ensures.items
    c.run_job-done.ensures.ticket c.run_job-done.ensures.text c.run_job-done.ensures.encoding c.run_job-done.ensures.ask (λ none. ap is_some (c.run_job-done.ensures.not_a_name none)) c.if-branch.false c.in_ok-finish.ensures.left

pub returns-then-is_full : goal.returns-then-is_full
returns-then-is_full c =
    elim c.then-is_full.branch [
      | then-is_full-via-then-is_full w ↦ unfinished c.args.self.now c.args.at (sym c.is_full.ensures ∙ w.if-is_full.true)
      | then-is_full-via-else-is_full+then-at-len w ↦
          no_job c.args.self.now c.args.at
          (let P : Going → Type 0 = λ g. slice_get g.held c.args.at ≡ None in
          subst P c.self.view_is (none_held c.self.inside.held.items c.args.at (omega (arith, w.if-at-len.true, w.len.ensures))))
    ]
