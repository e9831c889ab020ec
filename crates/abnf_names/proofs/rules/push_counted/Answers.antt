use Rattle.std.proofs.Common.{◌≡◌, ◌∙◌, ◌∷◌, ◌+◌, List, ap, arith, drop, get_or, length, suc, subst, sym}
use Rattle.std.specs.Prelude.{◌||◌, not}
use Rattle.abnf_names.specs.declared.section.Listed.{Listed}
use Rattle.abnf_names.specs.own.Passes.{AreTold, alternatives_of}
use Rattle.abnf_parts.specs.Names.{all_names, rule_number}
use Rattle.abnf_names.proofs.RulePass.{HasPushed, counted_first, counted_next, counted_end}
use Rattle.abnf_names.proofs.rules.push_counted.Goals as goal

pub loop-listed-init : goal.loop-listed-init
loop-listed-init c = (
  c.in_ok-push_alternatives.ensures.kept,
  λ definitions told.
      counted_first (rule_number (all_names c.args.numbering.now.names.now)) c.sections.inside.first c.sections.inside.rest definitions c.adds-is_defined.result
      c.args.nodes.now.items c.push_alternatives.new.nodes.items c.args.numbers.now c.push_alternatives.new.numbers
      (subst (λ (sections : List Listed). AreTold sections definitions) (sym c.sections.view_is) told) c.adds-is_defined.ensures c.in_ok-push_alternatives.ensures.alternatives,
)

pub loop-listed-preserved : goal.loop-listed-preserved
loop-listed-preserved c =
    let before = c.loop-listed.invariant.0 in
    let kept = c.in_ok-push_if.ensures.kept in
    let rest = c.sections.inside.rest in
    let i = c.loop-listed.listed-index in
    let lt = c.loop-listed-test.true in
    let count = ap length c.as_slice-listed-items.ensures in (
      omega (arith, before, kept),
      λ definitions told.
          subst (λ k. HasPushed (alternatives_of (rule_number (all_names c.args.numbering.now.names.now))) definitions (c.loop-listed.is_defined || not c.adds-adds.result) (drop k definitions) c.args.nodes.now.items c.push_if.new.nodes.items c.args.numbers.now c.push_if.new.numbers)
          (let same : suc i + 1 ≡ suc (i + 1) = omega arith in same)
          (counted_next (rule_number (all_names c.args.numbering.now.names.now)) (c.sections.inside.first ∷ rest) definitions (suc i) c.listed-item.result c.loop-listed.is_defined c.adds-adds.result
          c.args.nodes.now.items c.loop-listed.nodes.items c.push_if.new.nodes.items c.args.numbers.now c.loop-listed.numbers c.push_if.new.numbers
          (subst (λ (sections : List Listed). AreTold sections definitions) (sym c.sections.view_is) told) (omega (arith, lt, count)) (c.listed-item.is ∙ ap (λ (ls : List Listed). get_or ls i c.listed-item.result) c.as_slice-listed-items.ensures)
          c.adds-adds.ensures (c.loop-listed.invariant.1 definitions told) c.in_ok-push_if.ensures.alternatives),
    )

pub returns-clause-alternatives : goal.returns-clause-alternatives
returns-clause-alternatives c definitions told =
    let end = c.loop-listed-test.false in
    let count = ap length c.as_slice-listed-items.ensures in
    counted_end (rule_number (all_names c.args.numbering.now.names.now)) (c.sections.inside.first ∷ c.sections.inside.rest) definitions (suc c.loop-listed.listed-index) c.loop-listed.is_defined c.args.nodes.now.items c.loop-listed.nodes.items c.args.numbers.now c.loop-listed.numbers
    (subst (λ (sections : List Listed). AreTold sections definitions) (sym c.sections.view_is) told) (omega (arith, end, count)) (c.loop-listed.invariant.1 definitions told)
