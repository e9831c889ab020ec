use Rattle.ls_text.proofs.AlikeLaws.{text_within, text_front}
use Rattle.ls_text.proofs.snapshot.Snapshot.same_front.Goals as goal

pub returns-clause-within : goal.returns-clause-within
returns-clause-within c =
    text_within c.self.inside.lines c.other.inside.lines _ _ c.self.invariant.lines c.other.invariant.lines c.self.view_is c.other.view_is _ c.same_front.ensures.ours c.same_front.ensures.theirs

pub returns-clause-same : goal.returns-clause-same
returns-clause-same c =
    text_front c.self.inside.lines c.other.inside.lines _ _ c.self.invariant.lines c.other.invariant.lines c.self.view_is c.other.view_is _ c.same_front.ensures
