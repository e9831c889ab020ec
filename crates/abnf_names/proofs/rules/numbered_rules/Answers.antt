use Rattle.std.proofs.Common.{[], sym, subst, List, ℕ}
use Rattle.abnf_parts.specs.declared.node.Node.{Node}
use Rattle.abnf_parts.specs.Pushed.{AddsTrees}
use Rattle.abnf_names.specs.Rules.{rules_of}
use Rattle.abnf_names.proofs.rules.numbered_rules.Goals as goal

pub returns : goal.returns
returns c blocks own are needed =
    let trees = rules_of blocks in
    subst (λ (nodes : List Node). AddsTrees trees [] nodes [] c.into_vec.result.items) (sym c.shrink_to_fit.ensures.items)
    (subst (λ (roots : List ℕ). AddsTrees trees [] c.push_rules.new.nodes.items [] roots) (sym c.into_vec.ensures)
    (subst (λ (roots : List ℕ). AddsTrees trees [] c.push_rules.new.nodes.items roots c.push_rules.new.roots) c.new-roots.ensures
    (subst (λ (nodes : List Node). AddsTrees trees nodes c.push_rules.new.nodes.items c.new-roots.result c.push_rules.new.roots) c.in_ok-nodes.ensures.items
    (c.in_ok-push_rules.ensures blocks own are needed))))
