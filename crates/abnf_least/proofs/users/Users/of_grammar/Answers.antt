use Rattle.std.proofs.Common.{arith}
use Rattle.abnf_parts.specs.Part.{root_number}
use Rattle.abnf_least.specs.own.Form.{node_form}
use Rattle.abnf_least.proofs.At.{has_form}
use Rattle.abnf_least.proofs.Listed.{listed_more, listed_all}
use Rattle.abnf_least.proofs.users.Users.of_grammar.Goals as goal

pub add_node-requires : goal.add_node-requires
add_node-requires c =
    (has_form c.args.grammar.now.rules c.nodes-nodes.result.now c.loop-number.number c.index-nodes-number.result c.nodes-nodes.ensures c.loop-number-test.true c.index-nodes-number.is).refers

pub loop-number-preserved : goal.loop-number-preserved
loop-number-preserved c =
    let f = has_form c.args.grammar.now.rules c.nodes-nodes.result.now c.loop-number.number c.index-nodes-number.result c.nodes-nodes.ensures c.loop-number-test.true c.index-nodes-number.is in
    listed_more c.args.grammar.now.rules c.loop-number.users c.add_node.new.self c.loop-number.number (node_form (root_number c.args.grammar.now.rules) c.index-nodes-number.result) c.loop-number.invariant f.form c.in_ok-add_node.ensures

pub returns : goal.returns
returns c =
    listed_all c.args.grammar.now.rules c.loop-number.users c.loop-number.number c.loop-number.invariant (omega (arith, c.nodes-nodes.ensures.one_each, c.loop-number-test.false))
