use Rattle.ls_bodies.specs.Bodies.{draft_diagnostic_json}
use Rattle.ls_bodies.proofs.Arrays.{ToFirst}
use Rattle.ls_bodies.proofs.diagnostics.write_draft_diagnostics.Given as goal

abbrev pub invariant-loop-diagnostic : goal.invariant-loop-diagnostic
invariant-loop-diagnostic g l = ToFirst draft_diagnostic_json l.diagnostics l.diagnostic-index (g.S.Serializer.written l.initial.out) (g.S.Serializer.written l.out)
