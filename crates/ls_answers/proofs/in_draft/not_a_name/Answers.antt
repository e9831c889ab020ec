use Rattle.std.proofs.Common.{arith}
use Rattle.std.proofs.lemmas.Str.{length-le-encodes}
use Rattle.ls_answers.proofs.DraftAnswers.{not_named}
use Rattle.ls_answers.proofs.in_draft.not_a_name.Goals as goal

pub returns-clause-answer : goal.returns-clause-answer
returns-clause-answer c = λ encoding at new other.
    not_named c.args.format encoding c.args.draft.now at new (omega (arith, length-le-encodes c.args.draft.now, c.char_count-count.ensures.small)) other
