use Rattle.std.proofs.Common.{◌≡◌, ◌++◌, map, take, drop}
use Rattle.ls_answers.specs.InDrafts.{outward_symbol}
use Rattle.ls_answers.proofs.outward.carry_symbols.Given as goal

abbrev pub invariant-loop-symbol : goal.invariant-loop-symbol
invariant-loop-symbol l = l.symbols ≡ map (outward_symbol l.places) (take l.symbol-index l.initial.symbols) ++ drop l.symbol-index l.initial.symbols
