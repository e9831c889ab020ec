use Rattle.std.proofs.Common.{◌↔◌, IsTrue, arith, subst, sym, ◌∙◌}
use Rattle.abnf_parts.specs.Part.{root_number}
use Rattle.abnf_cert.specs.FitsNode.{FitsNode}
use Rattle.abnf_cert.specs.Accepted.{entry_at}
use Rattle.abnf_cert.proofs.Checked.{stands_at, fit_step, not_false, accepted_if}
use Rattle.abnf_cert.proofs.Right.{accepted_is_right}
use Rattle.abnf_cert.proofs.checker.all_fit.Goals as goal
use Rattle.abnf_cert.proofs.checker.all_fit.Goals.{then-fits, else-fits}

pub fits-requires : goal.fits-requires
fits-requires c =
    (stands_at c.args.grammar.now.rules c.nodes-nodes.result.now c.loop-number.number c.index-nodes-number.result c.nodes-nodes.ensures c.loop-number-test.true c.index-nodes-number.is).refers

pub loop-number-preserved : goal.loop-number-preserved
loop-number-preserved c =
    let at = stands_at c.args.grammar.now.rules c.nodes-nodes.result.now c.loop-number.number c.index-nodes-number.result c.nodes-nodes.ensures c.loop-number-test.true c.index-nodes-number.is in
    let one = subst (λ e. IsTrue c.fits.result ↔ FitsNode (entry_at c.args.entries.now) (root_number c.args.grammar.now.rules) c.index-nodes-number.result e) c.entry_of.ensures c.fits.ensures in
    let step = fit_step c.args.grammar.now.rules c.args.entries.now c.loop-number.number c.index-nodes-number.result at c.fits.result c.loop-number.all c.if-fits.all one c.loop-number.invariant in
    elim c.if-fits.branch [
      | then-fits w ↦ step
          (λ t. (w.if-fits.true, subst (λ x. IsTrue x) w.all-is t))
          (λ x y. subst (λ x. IsTrue x) (sym w.all-is) y)
      | else-fits w ↦ step
          (λ t. absurd (not_false c.if-fits.all (w.all-is ∙ w.if-fits.false) t))
          (λ x y. absurd (not_false c.fits.result w.if-fits.false x))
    ]

pub returns : goal.returns
returns c =
    let exact = accepted_if c.args.grammar.now.rules c.args.entries.now c.loop-number.number c.loop-number.all c.loop-number.invariant
    (omega (arith, c.nodes-nodes.ensures.one_each))
    (omega (arith, c.nodes-nodes.ensures.one_each)) in
    record { exact = exact; right = λ yes. accepted_is_right c.args.grammar.now.rules c.args.entries.now (exact.0 yes) }
