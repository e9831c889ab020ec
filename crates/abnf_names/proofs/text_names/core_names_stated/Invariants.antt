use Rattle.std.proofs.Common.{◌≡◌, map, take}
use Rattle.abnf_names.specs.Places.{named_at}
use Rattle.abnf_names.specs.own.Passes.{stated}
use Rattle.abnf_names.proofs.text_names.core_names_stated.Given as goal

abbrev pub invariant-loop-spot : goal.invariant-loop-spot
invariant-loop-spot l = l.names ≡ stated (map named_at (take l.spot-index l.spots))
