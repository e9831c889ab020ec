use Rattle.std.specs.Prelude.{◌↔◌, IsTrue}
use Rattle.ls_workers.specs.Seats.{AreSame}
use Rattle.ls_workers.proofs.ended.Ended.compare_some.Given as goal

abbrev pub invariant-loop : goal.invariant-loop
invariant-loop l = AreSame l.initial.self ↔ (IsTrue l.agree × AreSame l.self)
