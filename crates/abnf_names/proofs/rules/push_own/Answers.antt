use Rattle.std.proofs.Common.{◌∷◌, ◌++◌, [], ◌∙◌, ap}
use Rattle.abnf_parts.specs.Names.{all_names, rule_number}
use Rattle.abnf_names.proofs.RulePass.{own_next, own_end}
use Rattle.abnf_names.proofs.rules.push_own.Goals as goal

pub loop-sections-preserved : goal.loop-sections-preserved
loop-sections-preserved c definitions told =
    let number = rule_number (all_names c.args.numbering.now.names.now) in
    own_next number c.args.own.now definitions c.loop-sections.sections-index c.sections-item.result
    c.args.nodes.now.items c.loop-sections.nodes.items c.push_rule.new.nodes.items c.args.roots.now c.loop-sections.roots c.push.new.self
    told c.loop-sections-test.true c.sections-item.is (c.loop-sections.invariant definitions told)
    (c.in_ok-push.ensures.ok ∙ ap (λ n. c.loop-sections.roots ++ n ∷ []) (c.new.ensures ∙ (c.len.ensures ∙ c.loop-sections.nodes.ok.0)))
    c.in_ok-push_rule.ensures

pub returns : goal.returns
returns c definitions told =
    own_end (rule_number (all_names c.args.numbering.now.names.now)) c.args.own.now definitions c.loop-sections.sections-index c.args.nodes.now.items c.loop-sections.nodes.items c.args.roots.now c.loop-sections.roots
    told c.loop-sections-test.false (c.loop-sections.invariant definitions told)
