use Rattle.std.proofs.Common.{arith, subst}
use Rattle.std.proofs.lemmas.Result.{on_ok_weaker}
use Rattle.serde_json.specs.Events.{SendsValue}
use Rattle.ls_bodies.specs.Bodies.{draft_diagnostic_json}
use Rattle.ls_bodies.proofs.Arrays.{next, whole}
use Rattle.ls_bodies.proofs.diagnostics.write_draft_diagnostics.Goals as goal

pub loop-diagnostic-preserved : goal.loop-diagnostic-preserved
loop-diagnostic-preserved g c =
    next draft_diagnostic_json c.args.diagnostics.now c.loop-diagnostic.diagnostic-index c.diagnostic-item.result _ _ _ (omega arith) c.loop-diagnostic.invariant
    (subst (λ diagnostic. SendsValue (draft_diagnostic_json diagnostic) (g.S.Serializer.written c.loop-diagnostic.out) (g.S.Serializer.written c.write_finding.new.out)) c.diagnostic-item.is (rw (c.text.ensures, c.as_str-message.ensures, c.severity.ensures) at c.in_ok-write_finding.ensures))

pub returns : goal.returns
returns g c =
    on_ok_weaker c.end_seq.result (λ e.
    whole draft_diagnostic_json c.args.diagnostics.now c.loop-diagnostic.diagnostic-index _ _ _ _ (omega arith) c.in_ok-begin_seq.ensures c.loop-diagnostic.invariant e) c.end_seq.ensures
