use Rattle.findings_index.proofs.Pushing.{is_something}
use Rattle.findings_index.proofs.word.number_word.Goals as goal

pub returns-in_default : goal.returns-in_default
returns-in_default c = is_something c.args.token.text.now c.if-token-lt2.false c.in_default.ensures
