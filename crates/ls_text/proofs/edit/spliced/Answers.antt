use Rattle.std.proofs.Common.{refl, arith}
use Rattle.ls_text.proofs.EditLaws.{small_one}
use Rattle.ls_text.proofs.SizeLaws.{counted}
use Rattle.ls_text.proofs.edit.spliced.Goals as goal

pub joined-requires-clause-small : goal.joined-requires-clause-small
joined-requires-clause-small c =
    omega (arith, counted c.args.lines.now c.args.from c.args.to c.args.new.now c.bytes_around.result c.utf8.new c.bytes_around.ensures, c.saturating_add.ensures, c.if-saturating_add-gt-MAX_BYTES.false)

pub returns-then-saturating_add-gt-MAX_BYTES-clause-too_large : goal.returns-then-saturating_add-gt-MAX_BYTES-clause-too_large
returns-then-saturating_add-gt-MAX_BYTES-clause-too_large c = (
  λ is. omega (arith, counted c.args.lines.now c.args.from c.args.to c.args.new.now c.bytes_around.result c.utf8.new c.bytes_around.ensures, c.saturating_add.ensures, c.if-saturating_add-gt-MAX_BYTES.true),
  λ larger. refl,
)

pub returns-clause-too_large : goal.returns-clause-too_large
returns-clause-too_large c =
    small_one c.joined.result c.joined.ensures.memory
    (λ larger. omega (arith, larger, counted c.args.lines.now c.args.from c.args.to c.args.new.now c.bytes_around.result c.utf8.new c.bytes_around.ensures, c.saturating_add.ensures, c.if-saturating_add-gt-MAX_BYTES.false))
