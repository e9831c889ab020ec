use Rattle.std.proofs.Common.{◌≡◌, ◌+◌, ◌-◌, get_or, sym, ap, ◌∙◌, arith}
use Rattle.std.proofs.lemmas.List.{get_or_default}
use Rattle.abnf_cert.specs.Accepted.{entry_at}
use Rattle.abnf_least.specs.own.Form.{better}
use Rattle.abnf_least.proofs.Choice.{first_more}
use Rattle.abnf_least.proofs.given.chosen.Goals as goal

pub loop-at-preserved : goal.loop-at-preserved
loop-at-preserved c =
    let e : c.loop-at.at - 1 + 1 ≡ c.loop-at.at = omega arith in
    let here : c.get.result ≡ get_or c.args.numbers.now (c.loop-at.at - 1) 0 =
    c.get.ensures ∙ (c.index-numbers-at.is ∙ get_or_default c.args.numbers.now (c.loop-at.at - 1) c.index-numbers-at.result 0 (omega arith)) in
    let step = first_more (entry_at c.args.table.now) c.args.numbers.now c.loop-at.at (c.loop-at.at - 1) e (omega arith) in
    record {
      within = omega arith;
      best = c.better_of-best.ensures ∙ ap (λ x. better (c.loop-at.at - 1) x c.loop-at.best) (c.entry_of.ensures ∙ ap (entry_at c.args.table.now) here)
          ∙ ap (λ x. better (c.loop-at.at - 1) (entry_at c.args.table.now (get_or c.args.numbers.now (c.loop-at.at - 1) 0)) x) c.loop-at.invariant.best ∙ sym step;
    }
