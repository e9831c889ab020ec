use Rattle.ls_history.proofs.Tells.{beginnings_agree, histories_count, replies_unique}
use Rattle.ls_history.proofs.laws.histories_tell_once.Goals as goal

pub returns-clause-replies : goal.returns-clause-replies
returns-clause-replies c = replies_unique

pub returns-clause-counts : goal.returns-clause-counts
returns-clause-counts c = histories_count

pub returns-clause-beginnings : goal.returns-clause-beginnings
returns-clause-beginnings c = beginnings_agree
