use Rattle.std.proofs.Common.{◌∙◌, ap, subst, length, map, List}
use Rattle.abnf_parts.specs.Names.{Name}
use Rattle.abnf_parts.specs.CoreTable.{core_of, number_in}
use Rattle.abnf_parts.specs.Pushed.{AddsTrees}
use Rattle.abnf_parts.proofs.Pushing.{on_ok}
use Rattle.abnf_names.proofs.RulePass.{rules_added}
use Rattle.abnf_names.proofs.rules.push_rules.Goals as goal

pub returns : goal.returns
returns c =
    on_ok c.push_needed.result _ _
    (λ added blocks own are needed.
    rules_added blocks c.args.numbering.now.names.now c.args.own.now c.args.needed.now c.len.result c.args.nodes.now.items c.push_own.new.nodes.items c.push_needed.new.nodes.items
    c.args.roots.now c.push_own.new.roots c.push_needed.new.roots own are (c.len.ensures.len ∙ ap length c.own.ensures) needed c.in_ok-push_own.ensures
    (subst (λ (names : List Name). AddsTrees (map (λ core. (core_of core).tree (number_in c.len.result names)) c.args.needed.now) c.push_own.new.nodes.items c.push_needed.new.nodes.items c.push_own.new.roots c.push_needed.new.roots)
    c.core.ensures added))
    c.push_needed.ensures
