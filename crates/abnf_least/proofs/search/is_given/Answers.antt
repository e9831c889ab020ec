use Rattle.std.proofs.Common.{◌≡◌, ◌<◌, ap, sym, ◌∙◌, length, arith}
use Rattle.abnf_cert.specs.declared.entry.Entry.TheVariants.{Nothing}
use Rattle.abnf_cert.specs.Accepted.{entry_at}
use Rattle.abnf_least.specs.own.Form.{entry_given}
use Rattle.abnf_least.proofs.At.{has_form, given_from, pair_from}
use Rattle.abnf_least.proofs.search.is_given.Goals as goal

pub entry_given-requires-clause-refers : goal.entry_given-requires-clause-refers
entry_given-requires-clause-refers c =
    (has_form c.args.grammar.now.rules c.nodes-nodes.result.now c.args.candidate.number c.index-nodes-candidate.result c.nodes-nodes.ensures c.if-candidate-nodes.false c.index-nodes-candidate.is).refers

pub returns-in-Nothing : goal.returns-in-Nothing
returns-in-Nothing c =
    let f = has_form c.args.grammar.now.rules c.nodes-nodes.result.now c.args.candidate.number c.index-nodes-candidate.result c.nodes-nodes.ensures c.if-candidate-nodes.false c.index-nodes-candidate.is in
    let is = c.entry_given.ensures.value ∙ ap (entry_given (entry_at c.args.table.now)) (sym f.form) in
    let waits : entry_at c.args.table.now c.args.candidate.number ≡ Nothing = sym c.in-Nothing.ensures in
    let within : c.args.candidate.number < length c.args.table.now = omega (arith, c.requires.one_each, c.nodes-nodes.ensures.one_each, c.if-candidate-nodes.false) in (
      λ t. given_from c.args.grammar.now.rules c.args.table.now c.args.candidate c.entry_given.result within waits is (c.has_pair.ensures.0 t),
      λ g. c.has_pair.ensures.1 (pair_from c.args.grammar.now.rules c.args.table.now c.args.candidate c.entry_given.result is g),
    )
