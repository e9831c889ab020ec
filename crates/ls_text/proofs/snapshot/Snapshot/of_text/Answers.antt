use Rattle.std.proofs.Common.{refl, sym, ap, ◌∙◌, arith, length}
use Rattle.std.specs.Prelude.{Err}
use Rattle.std.specs.Str.{chars, encode_utf8_all}
use Rattle.std.specs.String.{string_bytes}
use Rattle.std.proofs.lemmas.Str.{encodes-chars, IsUtf8-string_bytes}
use Rattle.std.proofs.lemmas.Result.{err_from_is_err_and}
use Rattle.ls_text.proofs.snapshot.Snapshot.of_text.Goals as goal

pub returns-then-len-gt-MAX_BYTES-clause-too_large : goal.returns-then-len-gt-MAX_BYTES-clause-too_large
returns-then-len-gt-MAX_BYTES-clause-too_large c = (λ is. omega (arith, c.len.ensures, c.if-len-gt-MAX_BYTES.true), λ larger. refl)

pub returns-in_err-whole-clause-too_large : goal.returns-in_err-whole-clause-too_large
returns-in_err-whole-clause-too_large c =
    let p = err_from_is_err_and c.from_residual.result c.from_residual.ensures.1 in (
      λ is. omega (
        arith,
        c.in_err-whole.ensures.too_large.0 (ap Err (sym p.2 ∙ (cc p.1))),
        ap (λ x. length (encode_utf8_all (chars x))) c.as_str.ensures.value ∙ ap length (encodes-chars (string_bytes c.args.text) (IsUtf8-string_bytes c.args.text)),
        c.args.text.bytes.ok.0,
      ),
      λ larger. absurd (omega (arith, larger)),
    )

pub returns-clause-ok : goal.returns-clause-ok
returns-clause-ok c =
    let text_is = c.in_ok-whole.ensures.ok.1 ∙ ap chars c.as_str.ensures.value in
    (c.kept.ensures.text ∙ text_is, omega (arith))

pub returns-clause-too_large : goal.returns-clause-too_large
returns-clause-too_large c = (λ is. absurd (cc), λ larger. absurd (omega (arith, larger)))
