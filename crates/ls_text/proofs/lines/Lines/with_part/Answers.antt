use Rattle.std.proofs.Common.{sym, ◌∙◌, arith}
use Rattle.std.proofs.lemmas.Result.{err_from_is_err_and}
use Rattle.ls_text.proofs.ChunkLaws.{byte_length_append}
use Rattle.ls_text.proofs.lines.Lines.with_part.Goals as goal

pub returns-in_err-chunk-clause-too_large : goal.returns-in_err-chunk-clause-too_large
returns-in_err-chunk-clause-too_large c =
    let p = err_from_is_err_and c.from_residual.result c.from_residual.ensures.1 in
    rw p.1 (λ e. omega (arith, c.in_err-chunk.ensures.too_large (sym p.2 ∙ e), byte_length_append c.args.self (c.args.part)))
