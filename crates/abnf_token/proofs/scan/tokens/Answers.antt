use Rattle.abnf_token.proofs.Laws.{apart, one_answer, slices, all_joined, gives_all}
use Rattle.abnf_token.proofs.scan.tokens.Goals as goal

pub returns-clause-all : goal.returns-clause-all
returns-clause-all c = gives_all _

pub returns-clause-apart : goal.returns-clause-apart
returns-clause-apart c = apart

pub returns-clause-one : goal.returns-clause-one
returns-clause-one c = one_answer c.args.text.now

pub returns-clause-joined : goal.returns-clause-joined
returns-clause-joined c = all_joined c.args.text.now

pub returns-clause-slices : goal.returns-clause-slices
returns-clause-slices c = slices c.args.text.now
