use Rattle.std.proofs.Common.{◌∙◌}
use Rattle.joined_grammars.specs.Joined.{with_heads}
use Rattle.joined_grammars.proofs.JoinLaws.{joined_all, joined_next}
use Rattle.joined_grammars.proofs.join.joined.Goals as goal

pub loop-other-preserved : goal.loop-other-preserved
loop-other-preserved c = joined_next _ c.loop-other.other-index _ _ _ c.other-item.result c.loop-other-test.true c.other-item.is c.loop-other.invariant c.in_ok-push_other.ensures

pub returns : goal.returns
returns c =
    joined_all c.args.told.now c.args.others.now c.loop-other.other-index c.in_ok-found.found.items _ _ c.loop-other-test.false
    (record { all = c.in_ok-found.ensures.all; items = c.in_ok-found.ensures.items })
    (c.in_ok-add_heads.ensures ∙ (λ i. with_heads (c.new-names.ensures i) (c.as_slice.ensures.value i)))
    c.in_ok-text.ensures c.loop-other.invariant
