use Rattle.std.proofs.Common.{◌∙◌, length, Some}
use Rattle.abnf_syntax.specs.declared.tree.Element.TheVariants as e
use Rattle.abnf_parts.proofs.Pushing.{adds_one, rep_added, quoted_part_alone, number_part_alone}
use Rattle.abnf_parts.proofs.tree.begin_element.Goals as goal

pub returns-in_ok-push_node-in-Quoted : goal.returns-in_ok-push_node-in-Quoted
returns-in_ok-push_node-in-Quoted c = λ tree new is.
    rw (c.in-Quoted.is, e.outs-Quoted c.in-Quoted.token, quoted_part_alone c.in-Quoted.token.text.now)
    (adds_one _ c.quoted_node.result c.args.nodes.now.items new (is ∙ c.in_ok-push_node-in-Quoted.ensures) (c.quoted_node.ensures (length c.args.nodes.now.items)))

pub returns-in_ok-push_node-in-Number : goal.returns-in_ok-push_node-in-Number
returns-in_ok-push_node-in-Number c = λ tree new is.
    rw (c.in-Number.is, e.outs-Number c.in-Number.token, number_part_alone c.in-Number.token.text.now)
    (adds_one _ c.in_ok-node-in-Number.node c.args.nodes.now.items new (is ∙ c.in_ok-push_node-in-Number.ensures) (c.in_ok-node-in-Number.ensures (length c.args.nodes.now.items)))

pub returns-in_ok-push_rep-in-Choice : goal.returns-in_ok-push_rep-in-Choice
returns-in_ok-push_rep-in-Choice c = λ tree new inside.
    rw (c.in-Choice.is, e.outs-Choice c.in-Choice.inside)
    (rep_added 0 (Some 1) (tree c.in-Choice.inside) c.args.nodes.now.items c.push_rep.new.nodes.items new c.in_ok-push_rep-in-Choice.ensures (rw c.as_slice-in-Choice.ensures at inside))
