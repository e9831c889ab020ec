use Rattle.std.proofs.Common.{refl, ap, arith, length}
use Rattle.std.proofs.lemmas.Str.{encodes-chars}
use Rattle.ls_text.proofs.EditLaws.{small_one}
use Rattle.ls_text.proofs.edit.whole.Goals as goal

pub returns-then-text-gt-MAX_BYTES-clause-too_large : goal.returns-then-text-gt-MAX_BYTES-clause-too_large
returns-then-text-gt-MAX_BYTES-clause-too_large c = (λ is. omega (arith, c.if-text-gt-MAX_BYTES.true, ap length (encodes-chars c.args.text.now c.utf8.text)), λ larger. refl)

pub returns-clause-too_large : goal.returns-clause-too_large
returns-clause-too_large c = small_one c.cut_whole.result c.cut_whole.ensures.memory (λ larger. omega (arith, larger, c.if-text-gt-MAX_BYTES.false, ap length (encodes-chars c.args.text.now c.utf8.text)))
