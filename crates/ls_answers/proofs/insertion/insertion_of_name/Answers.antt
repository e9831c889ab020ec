use Rattle.std.proofs.Common.{◌∙◌, ap}
use Rattle.abnf_parts.specs.Names.{folded_text}
use Rattle.ls_text.specs.Lines.{units}
use Rattle.ls_text.specs.Positions.{place_range}
use Rattle.ls_answers.proofs.InsertionLaws.{by_none, by_some}
use Rattle.ls_answers.proofs.insertion.insertion_of_name.Goals as goal

pub returns-in_default : goal.returns-in_default
returns-in_default c = by_none c.args.encoding c.args.grammar.now (folded_text c.args.name) c.spots.result.now _ c.spots.ensures c.in_default.ensures

pub returns : goal.returns
returns c =
    by_some c.args.encoding c.args.grammar.now (folded_text c.args.name) c.spots.result.now _ c.in-Some-rule_of.rule c.range_of-line.result.start.line c.in-Some.head.now c.insertion_of_rule.result
    c.spots.ensures c.in-Some.ensures c.in-Some-rule_of.ensures.rule (ap (λ r. r.start.line) c.range_of-line.ensures.range ∙ ap (λ t. (place_range (units c.args.encoding) t c.in-Some.head.now.place).start.line) c.source.ensures.text) c.insertion_of_rule.ensures
