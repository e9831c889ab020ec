use Rattle.ls_answers.proofs.diagnostics.diagnostic.Goals as goal

pub returns-clause-told : goal.returns-clause-told
returns-clause-told c = λ i. record { range = c.range_of.ensures.range i; code = c.args.finding.now.code; message = c.in_ok-message.ensures i }
