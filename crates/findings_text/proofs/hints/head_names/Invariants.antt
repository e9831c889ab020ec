use Rattle.std.proofs.Common.{◌≡◌, map, take}
use Rattle.findings_text.specs.Hints.{head_names}
use Rattle.findings_text.specs.Rules.{head_at}
use Rattle.findings_text.proofs.hints.head_names.Given as goal

abbrev pub invariant-loop-head : goal.invariant-loop-head
invariant-loop-head l = map (λ name. name.now) l.names ≡ head_names (map head_at (take l.head-index l.heads))
