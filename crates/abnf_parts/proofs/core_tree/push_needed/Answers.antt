use Rattle.std.proofs.Common.{refl}
use Rattle.abnf_parts.specs.CoreTable.{core_of, number_in}
use Rattle.abnf_parts.proofs.Pushing.{trees_next}
use Rattle.abnf_parts.proofs.core_tree.push_needed.Goals as goal

pub loop-core-preserved : goal.loop-core-preserved
loop-core-preserved c =
    trees_next (λ core. (core_of core).tree (number_in c.args.first c.args.names.now)) c.args.needed.now _ _ c.loop-core.core-index
    c.args.nodes.now.items c.loop-core.nodes.items c.push_core.new.nodes.items c.args.roots.now c.loop-core.roots c.add_next.new.numbers
    c.loop-core-test.true refl c.loop-core.invariant
    c.in_ok-add_next.ensures
    c.in_ok-push_core.ensures
