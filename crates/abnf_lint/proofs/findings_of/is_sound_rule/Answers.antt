use Rattle.std.proofs.Common.{◌∙◌, ◌≤◌, ap, subst, suc, sym}
use Rattle.std.specs.List.{list_all}
use Rattle.abnf_parts.specs.Part.{root_number}
use Rattle.abnf_lint.specs.own.Passes.{is_sound}
use Rattle.abnf_lint.proofs.Sound.{rule_sound}
use Rattle.abnf_lint.proofs.findings_of.is_sound_rule.Goals as goal

pub nodes_between-requires : goal.nodes_between-requires
nodes_between-requires c = record {
  order = c.range_of-start.ensures.order;
  within = subst (λ n. c.range_of-start.result.1 ≤ n) (sym c.nodes.ensures.one_each) c.range_of-start.ensures.within;
}

pub returns : goal.returns
returns c sound =
    let rules = c.args.grammar.now.rules in
    rule_sound rules c.nodes.result.now c.nodes.ensures c.args.rule c.range_of-start.result.0 c.range_of-start.result.1
    (c.range_of-start.ensures.start ∙ ap (root_number rules) c.new.ensures) (c.range_of-start.ensures.end ∙ ap (λ r. root_number rules (suc r)) c.new.ensures)
    (ap (list_all is_sound) (sym c.nodes_between.ensures) ∙ (sym c.are_sound.ensures ∙ sound))
