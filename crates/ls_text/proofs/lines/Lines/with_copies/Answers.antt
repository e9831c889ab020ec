use Rattle.std.proofs.Common.{◌+◌, ◌-◌, ◌≤◌, ◌∙◌, ◌++◌, ap, sym, arith, take, drop}
use Rattle.std.proofs.lemmas.Result.{err_from_is_err_and}
use Rattle.ls_text.proofs.ChunkLaws.{parts_more, parts_bytes}
use Rattle.ls_text.proofs.lines.Lines.with_copies.Goals as goal

pub returns-in_err-lines-clause-too_large : goal.returns-in_err-lines-clause-too_large
returns-in_err-lines-clause-too_large c =
    let p = err_from_is_err_and c.from_residual-in_err-lines.result c.from_residual-in_err-lines.ensures.1 in
    let part_is = c.in_ok-part.ensures ∙ ap (λ z. z ++ take (c.parts.from + c.min.result - c.parts.from) (drop c.parts.from c.args.new.now)) c.new.ensures in
    let le : c.parts.from ≤ c.parts.from + c.min.result = omega arith in
    rw p.1 (λ e. omega (
      arith,
      c.in_err-lines.ensures.too_large (sym p.2 ∙ e),
      parts_bytes c.args.self c.args.new.now (c.parts.lines ++ c.in_ok-part.part) (c.parts.from + c.min.result) (parts_more c.args.self c.args.new.now c.parts.lines (c.parts.lines ++ c.in_ok-part.part) c.parts.from (c.parts.from + c.min.result) le c.parts.invariant.lines_are (ap (λ z. c.parts.lines ++ z) part_is)),
    ))

pub parts-preserved : goal.parts-preserved
parts-preserved c =
    let part_is = c.in_ok-part.ensures ∙ ap (λ z. z ++ take (c.parts.from + c.min.result - c.parts.from) (drop c.parts.from c.args.new.now)) c.new.ensures in
    let le : c.parts.from ≤ c.parts.from + c.min.result = omega arith in
    record {
      lines_are = parts_more c.args.self c.args.new.now c.parts.lines c.in_ok-lines.lines c.parts.from (c.parts.from + c.min.result) le c.parts.invariant.lines_are (c.in_ok-lines.ensures.ok ∙ ap (λ z. c.parts.lines ++ z) part_is);
      within = omega (arith, c.min.ensures, c.len-in-parts.ensures, c.parts.invariant.within);
    }
