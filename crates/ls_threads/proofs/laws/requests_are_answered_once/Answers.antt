use Rattle.ls_threads.proofs.Runs.{requests_once}
use Rattle.ls_threads.proofs.laws.requests_are_answered_once.Goals as goal

pub returns : goal.returns
returns c = requests_once
