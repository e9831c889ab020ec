use Rattle.std.proofs.Common.{◌≡◌, ◌<◌, ◌∙◌, ◌∷◌, ℕ, List, length, arith, ap}
use Rattle.abnf_parts.specs.Part.{root_number}
use Rattle.abnf_cert.specs.Accepted.{entry_at}
use Rattle.abnf_cert.proofs.Checked.{stands_at}
use Rattle.abnf_least.specs.declared.work.Task.{Task}
use Rattle.abnf_least.specs.declared.work.Task.TheVariants.{End}
use Rattle.abnf_least.specs.own.Walk.{choice_of, work_after}
use Rattle.abnf_least.proofs.Draft.{node_of}
use Rattle.abnf_least.proofs.Offers.{on_ok}
use Rattle.abnf_least.proofs.walk.expand.Goals as goal

pub replace-requires : goal.replace-requires
replace-requires c =
    let within : c.args.part < length c.nodes.result.now = omega (arith, c.nodes.ensures.one_each, c.requires) in
    (stands_at c.args.grammar.now.rules c.nodes.result.now c.args.part c.index-nodes-part.result c.nodes.ensures within c.index-nodes-part.is).refers

pub returns : goal.returns
returns c =
    let at = entry_at c.args.entries.now in
    let root = root_number c.args.grammar.now.rules in
    let node = c.index-nodes-part.result in
    let choice : c.choice_in.result ≡ choice_of (at c.args.part) = c.choice_in.ensures ∙ ap choice_of c.entry_of.ensures in
    let count : c.len.result ≡ length c.args.text.now.items = omega arith in
    let end : c.push_end.new.self ≡ End c.args.part (length c.args.text.now.items) ∷ c.args.work.now = c.in_ok-push_end.ensures ∙ ap (λ (k : ℕ). End c.args.part k ∷ c.args.work.now) count in
    on_ok c.replace.result c.replace.ensures
    (λ after. (
      node,
      node_of c.args.grammar.now.rules c.nodes.result.now c.args.part node c.nodes.ensures c.requires c.index-nodes-part.is,
      after ∙ ap (λ (k : ℕ). work_after at root node k c.push_end.new.self) choice ∙ ap (λ (ts : List Task). work_after at root node (choice_of (at c.args.part)) ts) end,
      c.in_ok-write.ensures,
    ))
