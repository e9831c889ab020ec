use Rattle.std.proofs.Common.{not, length, eqb, subst, sym, ap, ◌∙◌}
use Rattle.std.specs.Prelude.{IsTrue, ◌↔◌}
use Rattle.abnf_least.specs.own.Form.{AwaitsParts, node_form, row}
use Rattle.abnf_least.proofs.Awaits.{others_await, row_awaits}
use Rattle.abnf_least.proofs.given.awaits_parts.Goals as goal

pub returns-in-Seq : goal.returns-in-Seq
returns-in-Seq c root =
    subst (λ f. IsTrue (not c.is_empty.result) ↔ AwaitsParts f) (sym (ap (node_form root) c.in-Seq.is))
    (subst (λ b. IsTrue (not b) ↔ AwaitsParts (row c.in-Seq.parts)) (sym (c.is_empty.ensures ∙ ap (λ ns. eqb (length ns) 0) c.as_slice.ensures)) (row_awaits c.in-Seq.parts))

pub returns-in-Alt : goal.returns-in-Alt
returns-in-Alt c root = others_await root c.args.node.now c.in-Alt.is
