use Rattle.std.proofs.Common.{subst}
use Rattle.abnf_names.proofs.BlockPass.{IsPassed, passed_more}
use Rattle.abnf_names.proofs.sections.sections_of.Goals as goal

pub loop-block-preserved : goal.loop-block-preserved
loop-block-preserved c =
    passed_more c.args.snapshot.now c.loop-block.yielded c.in-Some.block c.next.new.self.rest.items c.loop-block.sections.items c.push.new.self.items _
    (subst (λ rest. IsPassed c.args.snapshot.now c.loop-block.yielded rest c.loop-block.sections.items) c.in-Some.ensures.steps.0 c.loop-block.invariant)
    c.in_ok-section_of.ensures c.in_ok-push.ensures.items
