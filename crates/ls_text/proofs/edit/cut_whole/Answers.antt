use Rattle.std.proofs.Common.{◌≡◌, ◌++◌, [], List, ℕ, ap, sym, subst, refl, ◌∙◌, arith, length}
use Rattle.std.specs.Str.{chars, encode_utf8_all, IsUtf8}
use Rattle.std.proofs.lemmas.List.{append-nil}
use Rattle.std.proofs.lemmas.Result.{err_from_is_err_and, IfOk-weaker, IfErr-weaker}
use Rattle.std.proofs.lemmas.Str.{encodes-chars}
use Rattle.ls_text.specs.Cut.{Row, IsCut, IsCutOnto}
use Rattle.ls_text.specs.declared.fault.TextFault.TheVariants.{Memory}
use Rattle.ls_text.proofs.EditLaws.{memory_alone}
use Rattle.ls_text.proofs.CutLaws.{onto_plain, onto_last, onto_more, lines_of_cut, parts_le, pushed_behind, pushed_last, cut_bytes}
use Rattle.ls_text.proofs.edit.cut_whole.Goals as goal

-- all lines, at the last one
all_cut : (c : goal.After-with_part) → IsCut (chars c.args.text.now) (c.lines.lines ++ c.in_ok-part-2.part)
all_cut c =
    lines_of_cut (onto_last c.lines.invariant.cut c.first_line-end.ensures c.in-Eof.is) (onto_plain c.first_line-end.ensures)
    (pushed_last c.in-Eof.is (pushed_behind c.lines.lines c.in_ok-part-2.ensures)) refl

pub returns-in-Eof-clause-ok : goal.returns-in-Eof-clause-ok
returns-in-Eof-clause-ok c =
    IfOk-weaker c.with_part.result _ (λ (lines : List Row). IsCut (chars c.args.text.now) lines) (λ lines is. subst (IsCut (chars c.args.text.now)) (sym is) (all_cut c)) c.with_part.ensures.ok

-- the text's bytes are those of its characters
bytes_are : (text : List ℕ) → IsUtf8 text → length (encode_utf8_all (chars text)) ≡ length text
bytes_are text utf8 = ap length (encodes-chars text utf8)

pub returns-in-Eof-clause-memory : goal.returns-in-Eof-clause-memory
returns-in-Eof-clause-memory c =
    IfErr-weaker c.with_part.result _ (λ e. e ≡ Memory)
    (λ e before. memory_alone e (λ is. omega (arith, before is, ap (λ t. length (encode_utf8_all t)) (all_cut c).1, bytes_are c.args.text.now c.utf8.text, c.requires))) c.with_part.ensures.too_large

pub returns-in_err-lines-2-clause-memory : goal.returns-in_err-lines-2-clause-memory
returns-in_err-lines-2-clause-memory c =
    let p = err_from_is_err_and c.from_residual-in_err-lines-2.result c.from_residual-in_err-lines-2.ensures.1 in
    rw p.1 (p.2 ∙ memory_alone _ (λ e. omega (
      arith,
      c.in_err-lines-2.ensures.too_large e,
      cut_bytes (onto_more c.lines.invariant.cut c.first_line-end.ensures (pushed_behind c.lines.lines c.in_ok-part-2.ensures) c.in_default.not-Eof),
      bytes_are c.args.text.now c.utf8.text,
      c.requires,
    )))

pub lines-preserved-in_ok-part-3 : goal.lines-preserved-in_ok-part-3
lines-preserved-in_ok-part-3 c = record {
  cut = subst (λ z. IsCutOnto [] c.args.text.now c.first_line-end.result.2.now z)
      (sym ((λ i. c.in_ok-lines-2.ensures.ok i ++ c.in_ok-part-3.ensures i) ∙ append-nil _))
      (onto_more c.lines.invariant.cut c.first_line-end.ensures (pushed_behind c.lines.lines c.in_ok-part-2.ensures) c.in_default.not-Eof);
  few = omega (arith, ap length c.in_ok-part-3.ensures);
  small = omega (arith, c.lines.invariant.small, (parts_le _ _ _ _ c.first_line-end.ensures).1);
}

pub lines-preserved : goal.lines-preserved
lines-preserved c = record {
  cut = onto_more c.lines.invariant.cut c.first_line-end.ensures (pushed_behind c.lines.lines c.in_ok-part-2.ensures) c.in_default.not-Eof;
  few = omega (arith, c.if-len-ge-MOST_LINES.false, c.len.ensures);
  small = omega (arith, c.lines.invariant.small, (parts_le _ _ _ _ c.first_line-end.ensures).1);
}
