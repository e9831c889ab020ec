use Rattle.abnf_syntax.proofs.Whole.{some_answer}
use Rattle.abnf_syntax.proofs.existence.items_say_something.Goals as goal

pub returns : goal.returns
returns c = some_answer
