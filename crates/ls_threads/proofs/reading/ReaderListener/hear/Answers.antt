use Rattle.ls_session.proofs.Asks.{event_is_allowed}
use Rattle.ls_threads.proofs.reading.ReaderListener.hear.Goals as goal

pub meet-requires : goal.meet-requires
meet-requires g c = event_is_allowed _ _ _ _ _ c.in_ok-event.ensures.turn c.in-Event.is
