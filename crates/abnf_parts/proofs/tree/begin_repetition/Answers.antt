use Rattle.std.proofs.Common.{sym}
use Rattle.abnf_syntax.specs.declared.tree.Element.{out-Element}
use Rattle.abnf_syntax.specs.declared.tree.Repetition.{out-Repetition}
use Rattle.abnf_parts.specs.Names.{all_names, rule_number}
use Rattle.abnf_parts.specs.Tree.{element_part}
use Rattle.abnf_parts.proofs.Pushing.{if_ok, rep_begun}
use Rattle.abnf_parts.proofs.tree.begin_repetition.Goals as goal

pub returns : goal.returns
returns c =
    let layer = out-Repetition c.args.repetition.now in
    rw (c.in-Some.is, sym c.repeat_bounds-least.ensures)
    (if_ok c.begin_element-2.result _ _
    (λ inside. rep_begun c.repeat_bounds-least.result.0 c.repeat_bounds-least.result.1 (λ tree. element_part (rule_number (all_names c.args.names.now)) tree (out-Element layer.element)) inside c.args.nodes.now.items c.push_rep.new.nodes.items c.begin_element-2.new.nodes.items c.in_ok-push_rep.ensures)
    c.begin_element-2.ensures)
