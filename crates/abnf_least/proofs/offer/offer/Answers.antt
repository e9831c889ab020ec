use Rattle.abnf_parts.specs.Part.{root_number}
use Rattle.abnf_cert.specs.Accepted.{entry_at}
use Rattle.abnf_least.specs.own.Form.{node_form}
use Rattle.abnf_least.specs.own.Search.{form_at}
use Rattle.abnf_least.proofs.At.{has_form}
use Rattle.abnf_least.proofs.Offers.{on_ok, offered_from}
use Rattle.abnf_least.proofs.offer.offer.Goals as goal

pub offered_entry-requires-clause-refers : goal.offered_entry-requires-clause-refers
offered_entry-requires-clause-refers c =
    (has_form c.args.grammar.now.rules c.nodes-nodes.result.now c.args.user c.index-nodes-user.result c.nodes-nodes.ensures c.if-user-nodes.false c.index-nodes-user.is).refers

pub returns-clause-offered : goal.returns-clause-offered
returns-clause-offered c =
    let f = has_form c.args.grammar.now.rules c.nodes-nodes.result.now c.args.user c.index-nodes-user.result c.nodes-nodes.ensures c.if-user-nodes.false c.index-nodes-user.is in
    on_ok c.push_given.result c.push_given.ensures.pushed
    (offered_from (form_at c.args.grammar.now.rules) (entry_at c.args.table.now) c.args.part c.args.user c.push_given.new.queue c.offered_entry.result
    (node_form (root_number c.args.grammar.now.rules) c.index-nodes-user.result) f.form c.offered_entry.ensures)
