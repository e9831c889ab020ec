use Rattle.std.proofs.Common.{◌∙◌, refl}
use Rattle.std.specs.Prelude.{flat_map}
use Rattle.abnf_parts.specs.Names.{all_names, rule_number}
use Rattle.abnf_names.specs.own.Passes.{alternatives_of, counted_among}
use Rattle.abnf_parts.proofs.Pushing.{choice_added}
use Rattle.abnf_names.proofs.RulePass.{pushed_within}
use Rattle.abnf_names.proofs.rules.push_rule.Goals as goal

pub fill-requires : goal.fill-requires
fill-requires c = pushed_within c.len-at.result c.args.nodes.now.items c.push.new.self.items c.push_counted.new.nodes.items _ (c.len-at.ensures ∙ c.args.nodes.now.ok.0) c.in_ok-push.ensures.items c.in_ok-push_counted.ensures.kept

pub returns : goal.returns
returns c definitions told =
    choice_added (flat_map (alternatives_of (rule_number (all_names c.args.numbering.now.names.now))) (counted_among definitions)) c.len-at.result _ c.args.nodes.now.items c.push.new.self.items
    c.push_counted.new.nodes.items c.fill.new.nodes.items c.new-numbers.result c.push_counted.new.numbers c.push_counted.new.numbers
    (c.len-at.ensures ∙ c.args.nodes.now.ok.0) c.new-numbers.ensures c.in_ok-push.ensures.items (c.in_ok-push_counted.ensures.alternatives definitions told) refl c.fill.ensures
