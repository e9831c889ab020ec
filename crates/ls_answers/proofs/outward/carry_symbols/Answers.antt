use Rattle.std.proofs.Common.{arith, get_or}
use Rattle.draft_grammars.proofs.CarryLaws.{written_over}
use Rattle.ls_answers.specs.InDrafts.{outward_symbol}
use Rattle.ls_answers.proofs.outward.carry_symbols.Goals as goal

pub loop-symbol-preserved : goal.loop-symbol-preserved
loop-symbol-preserved c =
    written_over (outward_symbol c.args.places.now) c.args.symbols.now c.loop-symbol.symbols c.loop-symbol.symbol-index c.symbol-item.result _
    (omega (arith, c.loop-symbol-test.true)) c.loop-symbol.invariant
    (λ i. record { name = (get_or c.loop-symbol.symbols c.loop-symbol.symbol-index c.symbol-item.result).name; range = c.outward_range-symbol.ensures i; name_range = c.outward_range-symbol-in-loop-symbol.ensures i })
