use Rattle.ls_text.specs.own.Parts.{AreAlike}
use Rattle.ls_text.proofs.part.are_alike.Given as goal

abbrev pub invariant-loop-at : goal.invariant-loop-at
invariant-loop-at l = AreAlike l.place l.there l.ours l.theirs l.at
