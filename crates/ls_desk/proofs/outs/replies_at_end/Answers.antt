use Rattle.std.proofs.Common.{◌≡◌, ◌∙◌, arith}
use Rattle.std.specs.Prelude.{count_by}
use Rattle.std.proofs.lemmas.Grind.{common_steps}
use Rattle.ls_desk.proofs.Told.{is_told, told_length}
use Rattle.ls_desk.proofs.outs.replies_at_end.Goals as goal

pub returns : goal.returns
returns c =
    let all : c.loop-job.count ≡ count_by (is_told c.args.uri.now) c.args.waiting.now = grind (arith, common_steps) in
    all ∙ told_length c.args.uri.now c.args.waiting.now
