use Rattle.std.proofs.Common.{rules}
use Rattle.ls_threads.proofs.settling.is_settled.Goals as goal

pub returns-then-has_met_full_session : goal.returns-then-has_met_full_session
returns-then-has_met_full_session = search rules depth 3
