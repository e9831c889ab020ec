use Rattle.abnf_syntax.proofs.SameLines.{within, same_fronts}
use Rattle.abnf_syntax.proofs.sheet.Sheet.same_front.Goals as goal

pub returns-clause-within : goal.returns-clause-within
returns-clause-within c = (within _ _ _ c.self.view_is c.same_front.ensures.within.0, within _ _ _ c.other.view_is c.same_front.ensures.within.1)

pub returns-clause-same : goal.returns-clause-same
returns-clause-same c = same_fronts _ _ _ _ _ c.self.view_is c.other.view_is c.same_front.ensures.same
