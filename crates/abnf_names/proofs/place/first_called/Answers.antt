use Rattle.std.proofs.Common.{◌∙◌, sym, true, false}
use Rattle.abnf_names.proofs.SpotLaws.{among_end, among_next}
use Rattle.abnf_names.proofs.place.first_called.Goals as goal

pub loop-at-preserved : goal.loop-at-preserved
loop-at-preserved c = c.loop-at.invariant ∙ among_next c.args.name c.args.spots.now c.loop-at.at _ c.loop-at-test.true false (sym c.eq.ensures ∙ c.if-eq.false)

pub returns-then-eq : goal.returns-then-eq
returns-then-eq c = c.loop-at.invariant ∙ among_next c.args.name c.args.spots.now c.loop-at.at _ c.loop-at-test.true true (sym c.eq.ensures ∙ c.if-eq.true)

pub returns : goal.returns
returns c = c.loop-at.invariant ∙ among_end c.args.name c.args.spots.now c.loop-at.at c.loop-at-test.false
