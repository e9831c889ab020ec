use Rattle.std.proofs.Common.{◌-◌, arith}
use Rattle.abnf_least.proofs.At.{has_form}
use Rattle.abnf_least.proofs.sweep.Sweeps.sweep_parts.Goals as goal

pub entry_given-requires-clause-refers : goal.entry_given-requires-clause-refers
entry_given-requires-clause-refers c =
    (has_form c.args.grammar.now.rules c.nodes-nodes.result.now (c.loop-at.at - 1) c.index-nodes-at.result c.nodes-nodes.ensures
    (omega (arith, c.nodes-nodes.ensures.one_each, c.loop-at.invariant.1, c.requires.within, c.loop-at-test.true)) c.index-nodes-at.is).refers
