use Rattle.std.proofs.Common.{◌∙◌, map, ap, sym}
use Rattle.abnf_names.specs.Excerpts.{excerpt}
use Rattle.abnf_names.proofs.Kept.{kept, read}
use Rattle.abnf_names.proofs.OwnPass.{faults_by}
use Rattle.abnf_names.proofs.grammar.Grammar.of.Goals as goal

pub rules_said-requires : goal.rules_said-requires
rules_said-requires c = record {
  blocks = c.in_ok-sections.ensures.blocks;
  are =
      read c.args.snapshot.now c.in_ok-sections.sections c.as_slice-3.result.now c.in_ok-places.places c.in_ok-sections.ensures c.as_slice-3.ensures
      (λ blocks same. c.in_ok-places.ensures blocks (ap (map excerpt) (c.as_slice-2.ensures ∙ sym c.as_slice-3.ensures) ∙ same));
}

pub invariant_of-result : goal.invariant_of-result
invariant_of-result c =
    let sections = c.in_ok-sections.ensures in
    let are =
    read c.args.snapshot.now c.in_ok-sections.sections c.as_slice-3.result.now c.in_ok-places.places sections c.as_slice-3.ensures
    (λ blocks same. c.in_ok-places.ensures blocks (ap (map excerpt) (c.as_slice-2.ensures ∙ sym c.as_slice-3.ensures) ∙ same)) in
    let rules = c.in_ok-rules.ensures sections.blocks are in
    kept _ sections.blocks sections.of_text rules.names rules.nodes are.places.spots
    (c.in_ok-faults.ensures ∙ faults_by c.as_slice.result.now sections.blocks (ap (map excerpt) c.as_slice.ensures ∙ sections.excerpts))
    rules.reaching sections.excerpts

pub returns-clause-grammar : goal.returns-clause-grammar
returns-clause-grammar c =
    let sections = c.in_ok-sections.ensures in
    let are =
    read c.args.snapshot.now c.in_ok-sections.sections c.as_slice-3.result.now c.in_ok-places.places sections c.as_slice-3.ensures
    (λ blocks same. c.in_ok-places.ensures blocks (ap (map excerpt) (c.as_slice-2.ensures ∙ sym c.as_slice-3.ensures) ∙ same)) in
    let rules = c.in_ok-rules.ensures sections.blocks are in
    let inside =
    kept (record {
      source = c.args.snapshot;
      nodes = c.in_ok-rules.rules.nodes;
      roots = c.in_ok-rules.rules.roots;
      names = c.in_ok-rules.rules.names;
      spots = c.in_ok-places.places.spots;
      faults = c.in_ok-faults.faults;
      opaque = c.in_ok-rules.rules.opaque;
      sections = c.in_ok-sections.sections;
    })
    sections.blocks sections.of_text rules.names rules.nodes are.places.spots
    (c.in_ok-faults.ensures ∙ faults_by c.as_slice.result.now sections.blocks (ap (map excerpt) c.as_slice.ensures ∙ sections.excerpts))
    rules.reaching sections.excerpts
    in inside.is_grammar
