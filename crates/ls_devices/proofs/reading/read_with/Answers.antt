use Rattle.std.proofs.Common.{rules, arith, Ok, None, [], take, refl, length-take}
use Rattle.ls_devices.specs.Reading.{IsRefusal}
use Rattle.ls_devices.proofs.Known.{or_true}
use Rattle.ls_devices.proofs.Input.{consumes_consumes, consumes_keeps, consumes_none}
use Rattle.ls_devices.proofs.Listening.{begins, by_fault, by_status, ended, piece_more, spent}
use Rattle.ls_devices.proofs.reading.read_with.Goals as goal

pub loop-i-init : goal.loop-i-init
loop-i-init g c = record {
  read = ([], consumes_none _, begins g.L.Listener.hears _ _ c.new-framer.ensures);
  reads = omega (arith, c.requires.none);
  good = c.requires.good;
  ready = c.requires.ready;
}

pub read-requires : goal.read-requires
read-requires g c = omega (arith, c.loop-i.invariant.reads, c.ranges.reads.fits)

pub loop-i-preserved-in-Err-Interrupted : goal.loop-i-preserved-in-Err-Interrupted
loop-i-preserved-in-Err-Interrupted g c =
    let before = c.loop-i.invariant.read in
    record {
      read = (before.0, consumes_keeps _ _ _ before.0 before.1 c.in-Err-Interrupted.ensures.bytes, before.2);
      reads = omega (arith, c.loop-i.invariant.reads, c.read.ensures.counted);
      good = search rules;
      ready = c.loop-i.invariant.ready;
    }

pub returns-in-Err-Failed-clause-cause : goal.returns-in-Err-Failed-clause-cause
returns-in-Err-Failed-clause-cause g c = rw (or_true _ (g.I.Source.failed c.loop-i.source) (rw c.in-Err-Failed.field-0-is at c.in-Err-Failed.ensures.failed)) refl

pub returns-in-Err-Failed-clause-heard : goal.returns-in-Err-Failed-clause-heard
returns-in-Err-Failed-clause-heard g c =
    let before = c.loop-i.invariant.read in record { heard = (before.0, _, consumes_keeps _ _ _ before.0 before.1 c.in-Err-Failed.ensures.bytes, before.2) }

pub returns-then-count-eq0-clause-heard : goal.returns-then-count-eq0-clause-heard
returns-then-count-eq0-clause-heard g c =
    let before = c.loop-i.invariant.read in
    ended g.L.Listener.hears g.L.Listener.breaks (IsRefusal g.L.Fault.From.from_gives) _ _ _ before.0 (take c.in-Ok.count c.read.new.buf) c.loop-i.framer _ _ _ (rw c.if-count-eq0.true refl) before.1 before.2 c.in-Ok.ensures.bytes.0
    (c.in-Ok.ensures.bytes.1 c.if-count-eq0.true (omega (arith, c.requires.room, c.loop-i.auto.buffer, c.read.auto.buf))) c.at_end.ensures

pub slice_bounds-take_piece-end : goal.slice_bounds-take_piece-end
slice_bounds-take_piece-end g c = omega (arith, c.in-Ok.ensures.bound)

pub slice_bounds-take_piece-end-in-loop-i : goal.slice_bounds-take_piece-end-in-loop-i
slice_bounds-take_piece-end-in-loop-i g c = omega (arith, c.in-Ok.ensures.bound, length-take c.in-Ok.count c.read.new.buf)

pub take_piece-requires-clause-partial : goal.take_piece-requires-clause-partial
take_piece-requires-clause-partial g c = c.loop-i.invariant.read.2.stream.partial

pub take_piece-requires-clause-good : goal.take_piece-requires-clause-good
take_piece-requires-clause-good g c = c.loop-i.invariant.read.2.fault

pub take_piece-requires-clause-ready : goal.take_piece-requires-clause-ready
take_piece-requires-clause-ready g c = c.loop-i.invariant.ready

pub returns-in-Ok-Some-clause-heard : goal.returns-in-Ok-Some-clause-heard
returns-in-Ok-Some-clause-heard g c =
    let before = c.loop-i.invariant.read in
    by_status g.L.Listener.hears g.L.Listener.breaks (IsRefusal g.L.Fault.From.from_gives) _ _ _ before.0 (take c.in-Ok.count c.read.new.buf) c.loop-i.framer c.take_piece.new.framer _ c.loop-i.listener c.take_piece.new.listener c.in-Ok-Some.status
    before.1 before.2 c.in-Ok.ensures.bytes.0 (rw c.in-Ok-Some.field-0-is at c.in-Ok-Some.ensures.piece)

pub returns-in-Err-clause-heard : goal.returns-in-Err-clause-heard
returns-in-Err-clause-heard g c =
    let before = c.loop-i.invariant.read in
    by_fault g.L.Listener.hears g.L.Listener.breaks (IsRefusal g.L.Fault.From.from_gives) _ _ _ before.0 (take c.in-Ok.count c.read.new.buf) c.loop-i.framer c.take_piece.new.framer _ c.loop-i.listener c.take_piece.new.listener c.in-Err.fault
    before.1 before.2 c.in-Ok.ensures.bytes.0 c.in-Err.ensures.piece

pub loop-i-preserved : goal.loop-i-preserved
loop-i-preserved g c =
    let before = c.loop-i.invariant.read in
    record {
      read = (
        _,
        consumes_consumes _ _ _ before.0 (take c.in-Ok.count c.read.new.buf) before.1 c.in-Ok.ensures.bytes.0,
        piece_more g.L.Listener.hears g.L.Listener.breaks (IsRefusal g.L.Fault.From.from_gives) before.0 c.loop-i.framer (take c.in-Ok.count c.read.new.buf) c.take_piece.new.framer _ c.loop-i.listener c.take_piece.new.listener (Ok None)
            before.2 (rw c.in-Ok-None.field-0-is at c.in-Ok-None.ensures.piece),
      );
      reads = omega (arith, c.loop-i.invariant.reads, c.read.ensures.counted);
      good = search rules;
      ready = rw c.in-Ok-None.field-0-is at c.in-Ok-None.ensures.ready;
    }

pub returns-clause-cause : goal.returns-clause-cause
returns-clause-cause g c = spent (g.I.Source.failed c.loop-i.source) (g.I.Source.reads c.loop-i.source) _ (omega (arith, c.loop-i.invariant.reads, c.loop-i-test.false, c.loop-i.auto.i-end, c.requires.some))

pub returns-clause-heard : goal.returns-clause-heard
returns-clause-heard g c = let before = c.loop-i.invariant.read in record { heard = (before.0, _, before.1, before.2) }

pub same-framer : goal.same-framer
same-framer g c = refl

pub returns-then-count-eq0-clause-cause : goal.returns-then-count-eq0-clause-cause
returns-then-count-eq0-clause-cause g c = refl

pub same-framer-in-loop-i : goal.same-framer-in-loop-i
same-framer-in-loop-i g c = refl

pub returns-in-Ok-Some-clause-cause : goal.returns-in-Ok-Some-clause-cause
returns-in-Ok-Some-clause-cause g c = refl

pub returns-in-Err-clause-cause : goal.returns-in-Err-clause-cause
returns-in-Err-clause-cause g c = refl

pub same-framer-in-loop-i-2 : goal.same-framer-in-loop-i-2
same-framer-in-loop-i-2 g c = refl
