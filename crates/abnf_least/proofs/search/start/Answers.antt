use Rattle.std.proofs.Common.{◌≤◌, ◌+◌, List, length, arith, subst, sym, ap, ◌∙◌}
use Rattle.abnf_parts.specs.Part.{parts_of, root_number}
use Rattle.abnf_cert.specs.Accepted.{entry_at}
use Rattle.abnf_least.specs.declared.candidate.Candidate.{Candidate}
use Rattle.abnf_least.specs.own.Form.{entry_given, node_form}
use Rattle.abnf_least.specs.own.Search.{form_at}
use Rattle.abnf_least.proofs.At.{has_form}
use Rattle.abnf_least.proofs.Awaits.{room_for_all, still_nothing}
use Rattle.abnf_least.proofs.Offers.{WaitUpTo, wait_more, wait_past, wait_all}
use Rattle.abnf_least.proofs.search.start.Goals.{then-not-awaits_parts+in_ok-push_given, else-not-awaits_parts}
use Rattle.abnf_least.proofs.search.start.Goals as goal

pub entry_given-requires-clause-refers : goal.entry_given-requires-clause-refers
entry_given-requires-clause-refers c =
    (has_form c.args.grammar.now.rules c.nodes-nodes.result.now c.loop-number.number c.index-nodes-number.result c.nodes-nodes.ensures c.loop-number-test.true c.index-nodes-number.is).refers

pub entry_given-requires-clause-room : goal.entry_given-requires-clause-room
entry_given-requires-clause-room c = room_for_all c.args.table.now c.requires.none

pub loop-number-preserved : goal.loop-number-preserved
loop-number-preserved c =
    let trees = c.args.grammar.now.rules in
    let at = entry_at c.args.table.now in
    let n = c.loop-number.number in
    let f = has_form trees c.nodes-nodes.result.now n c.index-nodes-number.result c.nodes-nodes.ensures c.loop-number-test.true c.index-nodes-number.is in
    elim c.if-not-awaits_parts.branch [
      | then-not-awaits_parts+in_ok-push_given w ↦
          subst (λ (q : List Candidate). WaitUpTo (form_at trees) at (n + 1) q) (sym w.queue-is)
          (wait_more (form_at trees) at n c.loop-number.queue w.push_given.new.queue w.entry_given.result (node_form (root_number trees) c.index-nodes-number.result)
          c.loop-number.invariant w.in_ok-push_given.ensures.kept f.form w.entry_given.ensures.value w.in_ok-push_given.ensures.pushed)
      | else-not-awaits_parts w ↦
          subst (λ (q : List Candidate). WaitUpTo (form_at trees) at (n + 1) q) (sym w.queue-is)
          (wait_past (form_at trees) at n c.loop-number.queue c.loop-number.invariant
          (ap (entry_given at) f.form
          ∙ still_nothing c.args.table.now c.requires.none (node_form (root_number trees) c.index-nodes-number.result) ((c.awaits_parts.ensures (root_number trees)).0 w.if-not-awaits_parts.false)))
    ]

pub returns : goal.returns
returns c =
    let all : length (parts_of c.args.grammar.now.rules) ≤ c.loop-number.number = omega (arith, c.nodes-nodes.ensures.one_each, c.loop-number-test.false) in
    wait_all c.args.grammar.now.rules (entry_at c.args.table.now) c.loop-number.number c.loop-number.queue c.loop-number.invariant all
