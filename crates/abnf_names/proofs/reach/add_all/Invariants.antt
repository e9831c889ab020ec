use Rattle.std.proofs.Common.{◌≡◌, take}
use Rattle.std.specs.Prelude.{fold}
use Rattle.abnf_names.specs.own.Search.{with_place}
use Rattle.abnf_names.proofs.reach.add_all.Given as goal

abbrev pub invariant-loop-place : goal.invariant-loop-place
invariant-loop-place l = l.found ≡ (l.initial.found.0, fold with_place l.initial.found.1 (take l.place-index l.places))
