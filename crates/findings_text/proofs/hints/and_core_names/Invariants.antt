use Rattle.std.proofs.Common.{◌≡◌, ◌++◌, map, take}
use Rattle.findings_text.proofs.hints.and_core_names.Given as goal

abbrev pub invariant-loop-name : goal.invariant-loop-name
invariant-loop-name l = map (λ name. name.now) l.known ≡ map (λ name. name.now) l.fn.names ++ map (λ name. name.now) (take l.name-index l.name-items)
