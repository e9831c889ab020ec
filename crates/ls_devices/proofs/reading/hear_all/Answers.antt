use Rattle.std.proofs.Common.{refl}
use Rattle.std.proofs.lemmas.Result.{err_from_is_err_and}
use Rattle.ls_devices.specs.Reading.{IsRefusal}
use Rattle.ls_devices.proofs.Hearing.{hears_last, hears_next, hears_part}
use Rattle.ls_devices.proofs.reading.hear_all.Goals as goal

pub loop-body-init : goal.loop-body-init
loop-body-init g c = record { heard = refl; ready = c.requires }

pub loop-body-preserved : goal.loop-body-preserved
loop-body-preserved g c = record {
  heard = hears_next g.L.Listener.hears c.args.bodies.now c.loop-body.body-index c.body-item.result c.deref.result.now _ c.loop-body.listener _
      c.loop-body-test.true c.body-item.is c.deref.ensures.value c.loop-body.invariant.heard (rw c.in_default.is at c.in_ok-status.ensures.ok);
  ready = rw c.in_default.is at c.in_ok-status.ensures.ready;
}

pub returns-in-Some-clause-ok : goal.returns-in-Some-clause-ok
returns-in-Some-clause-ok g c = hears_last g.L.Listener.hears c.args.bodies.now c.loop-body.body-index c.body-item.result c.deref.result.now _ c.loop-body.listener _ c.in-Some.status
    c.loop-body-test.true c.body-item.is c.deref.ensures.value c.loop-body.invariant.heard (rw c.in-Some.is at c.in_ok-status.ensures.ok)

pub returns-in_err-status-clause-err : goal.returns-in_err-status-clause-err
returns-in_err-status-clause-err g c =
    let p = err_from_is_err_and c.from_residual.result c.from_residual.ensures.1 in
    rw (p.1, p.2) (hears_part g.L.Listener.hears g.L.Listener.breaks (IsRefusal g.L.Fault.From.from_gives) c.in_err-status.field-0.0 c.args.bodies.now c.loop-body.body-index c.body-item.result c.deref.result.now _ c.loop-body.listener _
    c.loop-body-test.true c.body-item.is c.deref.ensures.value c.loop-body.invariant.heard c.in_err-status.ensures.err)
