use Rattle.std.proofs.Common.{ap}
use Rattle.std.proofs.lemmas.Result.{err_from_is_err_and}
use Rattle.ls_frame.specs.Feeds.{contents_of}
use Rattle.ls_devices.specs.Reading.{IsRefusal}
use Rattle.ls_devices.proofs.Listening.{piece_breaks, piece_exits, piece_heard}
use Rattle.ls_devices.proofs.reading.take_piece.Goals as goal

pub returns-clause-piece : goal.returns-clause-piece
returns-clause-piece g c =
    piece_heard g.L.Listener.hears g.L.Listener.breaks (IsRefusal g.L.Fault.From.from_gives) c.args.framer.now c.args.piece.now _ (contents_of c.new-bodies.result.items) (contents_of c.feed-fed.new.out.items) (contents_of c.deref.result.now) c.args.listener.now c.hear_all.new.listener c.feed-fed.result _
    c.requires.partial c.requires.good c.feed-fed.ensures.taken (ap contents_of c.new-bodies.ensures.items) (ap contents_of c.deref.ensures.value) c.end_of_piece.ensures (rw c.in-None.is at c.in_ok-status.ensures.ok)

pub returns-in-Some-clause-piece : goal.returns-in-Some-clause-piece
returns-in-Some-clause-piece g c =
    piece_exits g.L.Listener.hears g.L.Listener.breaks (IsRefusal g.L.Fault.From.from_gives) c.args.framer.now c.args.piece.now _ (contents_of c.new-bodies.result.items) (contents_of c.feed-fed.new.out.items) (contents_of c.deref.result.now) c.args.listener.now c.hear_all.new.listener c.feed-fed.result c.in-Some.status
    c.requires.good c.feed-fed.ensures.taken (ap contents_of c.new-bodies.ensures.items) (ap contents_of c.deref.ensures.value) (rw c.in-Some.is at c.in_ok-status.ensures.ok)

pub returns-in_err-status-clause-piece : goal.returns-in_err-status-clause-piece
returns-in_err-status-clause-piece g c =
    let p = err_from_is_err_and c.from_residual.result c.from_residual.ensures.1 in
    rw (p.1, p.2)
    (piece_breaks g.L.Listener.hears g.L.Listener.breaks (IsRefusal g.L.Fault.From.from_gives) c.args.framer.now c.args.piece.now _ (contents_of c.new-bodies.result.items) (contents_of c.feed-fed.new.out.items) (contents_of c.deref.result.now) c.args.listener.now c.hear_all.new.listener c.feed-fed.result c.in_err-status.field-0.0
    c.requires.partial c.requires.good c.feed-fed.ensures.taken (ap contents_of c.new-bodies.ensures.items) (ap contents_of c.deref.ensures.value) c.in_err-status.ensures.err)
