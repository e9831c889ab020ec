use Rattle.std.proofs.Common.{List, ℕ, sym, subst}
use Rattle.abnf_parts.specs.declared.node.Node.{Node}
use Rattle.abnf_parts.specs.Nodes.{AreNumbered}
use Rattle.abnf_names.proofs.Kept.{numbered, rules_added, rules_made}
use Rattle.abnf_names.proofs.rules.rules_said.Goals as goal

pub reaching-requires : goal.reaching-requires
reaching-requires c =
    let blocks = c.requires.blocks in
    let nodes = c.in_ok-nodes.nodes in
    let roots = c.in_ok-nodes.roots in
    let added =
    rules_added c.args.sections.now c.args.places.now blocks c.in_ok-groups.groups c.into_parts-own.result.0 c.into_parts-own.result.1.items c.as_slice.result.now c.in_ok-names.names c.as_slice-2.result.now c.in_ok-names.needed
    nodes.items roots.items c.requires.are c.in_ok-groups.ensures c.into_parts-own.ensures.names c.into_parts-own.ensures.members c.into_parts-own.ensures.beside c.as_slice.ensures.value c.as_slice-2.ensures
    c.in_ok-names.ensures c.in_ok-nodes.ensures in
    let are : AreNumbered nodes.items roots.items = numbered blocks nodes.items roots.items added.1 in
    subst (λ (ns : List Node). AreNumbered ns c.as_slice-4.result.now) (sym c.as_slice-3.ensures.value)
    (subst (λ (rs : List ℕ). AreNumbered nodes.items rs) (sym c.as_slice-4.ensures.value) are)

pub returns : goal.returns
returns c blocks read =
    rules_made _ blocks c.as_slice-3.result.now c.as_slice-4.result.now
    (rules_added c.args.sections.now c.args.places.now blocks c.in_ok-groups.groups c.into_parts-own.result.0 c.into_parts-own.result.1.items c.as_slice.result.now c.in_ok-names.names c.as_slice-2.result.now c.in_ok-names.needed
    c.in_ok-nodes.nodes.items c.in_ok-nodes.roots.items read c.in_ok-groups.ensures c.into_parts-own.ensures.names c.into_parts-own.ensures.members c.into_parts-own.ensures.beside c.as_slice.ensures.value c.as_slice-2.ensures
    c.in_ok-names.ensures c.in_ok-nodes.ensures)
    c.as_slice-3.ensures.value c.as_slice-4.ensures.value c.in_ok-opaque.ensures
