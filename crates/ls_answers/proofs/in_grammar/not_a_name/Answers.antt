use Rattle.std.proofs.Common.{arith}
use Rattle.std.proofs.lemmas.Str.{length-le-encodes}
use Rattle.ls_answers.proofs.NoName.{no_name}
use Rattle.ls_answers.proofs.in_grammar.not_a_name.Goals as goal

pub returns-clause-answer : goal.returns-clause-answer
returns-clause-answer c = λ encoding at new other.
    no_name encoding c.args.snapshot.now at new (omega (arith, c.char_count-count.ensures.small, length-le-encodes c.args.snapshot.now)) other
