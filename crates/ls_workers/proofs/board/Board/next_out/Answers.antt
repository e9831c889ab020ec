use Rattle.std.proofs.Common.{◌≡◌, ◌∙◌, ap, rules, subst, sym, true}
use Rattle.ls_desk.specs.Stands.{IsSound}
use Rattle.ls_history.specs.Ends.{stop_of}
use Rattle.ls_history.specs.History.{replay_entries}
use Rattle.ls_history.specs.Places.{beginning, place_of_desk}
use Rattle.ls_workers.specs.Ends.{has_news}
use Rattle.ls_workers.proofs.Placed.{nothing_more, of_none}
use Rattle.ls_workers.proofs.board.Board.next_out.Goals as goal

pub returns-clause-nothing : goal.returns-clause-nothing
returns-clause-nothing g c =
    let was = c.deref_mut.result.now in
    let now = c.next_out.new.self in
    let log = c.next_out.new.seat.front in
    let all : log ≡ now.history = c.next_out.ensures.all in
    let news : has_news was.stop was.desk ≡ true = search rules in
    let stays : now.stop ≡ was.stop = search rules in
    of_none c.next_out.result _ _ _
    (λ none sound.
    nothing_more was.desk was.stop log (subst IsSound none.0 sound) (ap place_of_desk (sym none.0) ∙ (now.led ∙ sym (ap (replay_entries beginning) all))) (sym stays ∙ (now.ended ∙ sym (ap stop_of all))) news none.2)
    c.next_out.ensures.nothing c.next_out.ensures.sound

pub returns-clause-history : goal.returns-clause-history
returns-clause-history g c = c.next_out.ensures.history

pub returns-clause-unseen : goal.returns-clause-unseen
returns-clause-unseen g c = c.next_out.ensures.unseen

pub returns-clause-follows : goal.returns-clause-follows
returns-clause-follows g c = c.next_out.ensures.follows

pub returns-clause-some : goal.returns-clause-some
returns-clause-some g c = c.next_out.ensures.some

pub returns-clause-mark : goal.returns-clause-mark
returns-clause-mark g c = c.next_out.ensures.mark
