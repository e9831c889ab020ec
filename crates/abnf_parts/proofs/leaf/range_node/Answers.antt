use Rattle.std.proofs.Common.{◌∙◌, ap, refl, sym, subst}
use Rattle.abnf_parts.specs.Leaf.{both_ends, numbers_from}
use Rattle.abnf_parts.specs.Nodes.{IsNode}
use Rattle.abnf_parts.specs.Part.{Part}
use Rattle.abnf_parts.specs.declared.node.Node.TheVariants.{Span, Opaque}
use Rattle.abnf_parts.proofs.Ends.{span_in, opaque_in}
use Rattle.abnf_parts.proofs.leaf.range_node.Goals as goal

pub returns-in-Some : goal.returns-in-Some
returns-in-Some c n =
    let numbers = numbers_from c.args.base 0 c.args.digits.now in
    let is = span_in numbers c.in-Some.low c.in-Some.high (sym (c.both_ends.ensures ∙ ap both_ends c.first_ends.ensures) ∙ c.in-Some.is) in
    subst (λ (p : Part). IsNode n p (Span c.in-Some.low c.in-Some.high)) (sym is) refl

pub returns-in-None : goal.returns-in-None
returns-in-None c n =
    let numbers = numbers_from c.args.base 0 c.args.digits.now in
    let is = opaque_in numbers (sym (c.both_ends.ensures ∙ ap both_ends c.first_ends.ensures) ∙ c.in-None.is) in
    subst (λ (p : Part). IsNode n p Opaque) (sym is) refl
