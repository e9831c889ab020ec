use Rattle.ls_text.proofs.AlikeLaws.{text_within, text_back}
use Rattle.ls_text.proofs.snapshot.Snapshot.same_back.Goals as goal

pub returns-clause-within : goal.returns-clause-within
returns-clause-within c =
    text_within c.self.inside.lines c.other.inside.lines _ _ c.self.invariant.lines c.other.invariant.lines c.self.view_is c.other.view_is _ c.same_back.ensures.same.ours c.same_back.ensures.same.theirs

pub returns-clause-same : goal.returns-clause-same
returns-clause-same c =
    text_back c.self.inside.lines c.other.inside.lines _ _ c.self.invariant.lines c.other.invariant.lines c.self.view_is c.other.view_is _ c.same_back.ensures.same
