use Rattle.std.proofs.Common.{◌+◌, ◌≤◌, List, length, arith, subst, sym, ap, ◌∙◌, map}
use Rattle.abnf_cert.specs.declared.entry.Entry.{Entry}
use Rattle.abnf_parts.specs.Part.{parts_of, root_number}
use Rattle.abnf_cert.specs.Accepted.{entry_at}
use Rattle.abnf_least.specs.own.Form.{first_least, node_form}
use Rattle.abnf_least.specs.own.Search.{form_at}
use Rattle.abnf_least.proofs.At.{has_form}
use Rattle.abnf_least.proofs.Chosen.{ChosenUpTo, IsChoiceForm, other_form, none_chosen, choice_named, no_choice, all_chosen}
use Rattle.abnf_least.proofs.search.choose.Goals.{in-Alt, in_default}
use Rattle.abnf_least.proofs.search.choose.Goals as goal

pub loop-number-init : goal.loop-number-init
loop-number-init c = none_chosen (form_at c.args.grammar.now.rules) c.args.table.now

pub loop-number-preserved : goal.loop-number-preserved
loop-number-preserved c =
    let trees = c.args.grammar.now.rules in
    let n = c.loop-number.number in
    let f = has_form trees c.nodes-node-items.result.now n c.node-item.result c.nodes-node-items.ensures c.loop-number-test.true c.node-item.is in
    elim c.match-node.branch [
      | in-Alt w ↦
          subst (λ (t : List Entry). ChosenUpTo (form_at trees) c.args.table.now t (n + 1)) (sym w.table-is)
          (choice_named trees c.args.table.now c.requires c.loop-number.table n c.loop-number.invariant w.in-Alt.parts w.chosen.result
          (omega (arith, c.loop-number.auto.table, c.requires.one_each, c.nodes-node-items.ensures.one_each, c.loop-number-test.true))
          (f.form ∙ ap (node_form (root_number trees)) w.in-Alt.is)
          (w.chosen.ensures ∙ ap (λ ns. first_least 0 (map (entry_at c.loop-number.table) ns)) w.as_slice.ensures))
      | in_default w ↦
          subst (λ (t : List Entry). ChosenUpTo (form_at trees) c.args.table.now t (n + 1)) (sym w.table-is)
          (no_choice trees c.args.table.now c.requires c.loop-number.table n c.loop-number.invariant (λ is. other_form (root_number trees) c.node-item.result w.in_default.not-Alt (subst IsChoiceForm f.form is)))
    ]

pub returns : goal.returns
returns c =
    let all : length (parts_of c.args.grammar.now.rules) ≤ c.loop-number.number = omega (arith, c.nodes-node-items.ensures.one_each, c.loop-number-test.false) in
    all_chosen c.args.grammar.now.rules c.args.table.now c.requires c.loop-number.table c.loop-number.number c.loop-number.invariant all
