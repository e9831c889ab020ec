use Rattle.std.proofs.Common.{◌≡◌, ◌+◌, ◌-◌, ◌∙◌, ◌++◌, ap, sym, arith, subst, length, take, drop, List, []}
use Rattle.std.specs.Str.{chars, encode_utf8_all}
use Rattle.std.specs.String.{string_bytes}
use Rattle.std.proofs.lemmas.Str.{encodes-chars, IsUtf8-string_bytes}
use Rattle.std.proofs.lemmas.Result.{IfOk-weaker, IfErr-weaker}
use Rattle.ls_text.specs.Cut.{end_at, IsCut, IsCutOnto}
use Rattle.ls_text.specs.Cut.{Row}
use Rattle.ls_text.specs.declared.fault.TextFault.TheVariants.{Memory}
use Rattle.ls_text.proofs.EditLaws.{memory_alone}
use Rattle.ls_text.proofs.PositionLaws.{line_small}
use Rattle.ls_text.proofs.SpliceLaws.{spliced_eof, spliced_rest, wanted_text, middle_bytes}
use Rattle.ls_text.proofs.SpotLaws.{end_found}
use Rattle.ls_text.proofs.edit.joined.Goals as goal
use Rattle.ls_text.proofs.edit.joined.Goals.{in-Eof+in_ok-cut-2, in_default}

pub overflow_add-to : goal.overflow_add-to
overflow_add-to c = omega (arith, line_small c.args.lines.now c.requires.lines c.args.to.line c.requires.to.line_in_range)

pub with_lines-requires : goal.with_lines-requires
with_lines-requires c =
    let kept_is : c.saturating_sub-kept.result ≡ c.args.from.line - 1 = c.saturating_sub-kept.ensures in
    omega (
      arith,
      ap length c.as_str.ensures.value,
      ap length (encodes-chars (string_bytes c.in_ok-part.part) (IsUtf8-string_bytes c.in_ok-part.part)),
      ap (λ z. length (encode_utf8_all z)) c.in_ok-part.ensures,
      middle_bytes c.args.lines.now c.requires.lines.lines c.args.from c.args.to c.requires.from c.requires.to c.saturating_sub-kept.result kept_is (chars c.args.new.now),
      c.requires.small,
    )

pub pushed-requires : goal.pushed-requires
pushed-requires c =
    let kept_is : c.saturating_sub-kept.result ≡ c.args.from.line - 1 = c.saturating_sub-kept.ensures in
    omega (
      arith,
      c.in_ok-cut.ensures.small,
      ap length c.as_str.ensures.value,
      ap length (encodes-chars (string_bytes c.in_ok-part.part) (IsUtf8-string_bytes c.in_ok-part.part)),
      ap (λ z. length (encode_utf8_all z)) c.in_ok-part.ensures,
      middle_bytes c.args.lines.now c.requires.lines.lines c.args.from c.args.to c.requires.from c.requires.to c.saturating_sub-kept.result kept_is (chars c.args.new.now),
      c.requires.small,
    )

cut_is : (c : goal.After-drop-part-2) → IsCut (wanted_text c.args.lines.now c.args.from c.args.to (chars c.args.new.now)) (take c.saturating_sub-kept.result c.args.lines.now ++ (c.match-end.cut ++ drop (c.args.to.line + 1) c.args.lines.now))
cut_is c =
    let kept_is : c.saturating_sub-kept.result ≡ c.args.from.line - 1 = c.saturating_sub-kept.ensures in
    let end_is : end_at c.args.lines.now c.args.to.line ≡ c.line-last.result.0.end = end_found c.args.lines.now c.args.to.line c.line-last.result.0 c.line-last.ensures.in_range c.line-last.ensures.line_is in
    let text_is = ap chars c.as_str.ensures.value ∙ c.in_ok-part.ensures in
    let onto : IsCutOnto [] c.as_str.result.now c.in_ok-cut.rest.now c.in_ok-cut.cut = subst (λ z. IsCutOnto z c.as_str.result.now c.in_ok-cut.rest.now c.in_ok-cut.cut) c.new.ensures c.in_ok-cut.ensures.cut in
    elim c.match-end.branch [
      | in-Eof+in_ok-cut-2 w ↦
          subst (λ (v : List Row). IsCut (wanted_text c.args.lines.now c.args.from c.args.to (chars c.args.new.now)) (take c.saturating_sub-kept.result c.args.lines.now ++ (v ++ drop (c.args.to.line + 1) c.args.lines.now))) (sym w.cut-is)
          (spliced_eof c.args.lines.now c.requires.lines.lines c.args.from c.args.to c.requires.from c.requires.to c.saturating_sub-kept.result kept_is (chars c.args.new.now) onto c.in_ok-cut.ensures.plain text_is w.in_ok-cut-2.ensures (end_is ∙ sym c.end.ensures ∙ w.in-Eof.is))
      | in_default w ↦
          subst (λ (v : List Row). IsCut (wanted_text c.args.lines.now c.args.from c.args.to (chars c.args.new.now)) (take c.saturating_sub-kept.result c.args.lines.now ++ (v ++ drop (c.args.to.line + 1) c.args.lines.now))) (sym w.cut-is)
          (spliced_rest c.args.lines.now c.requires.lines.lines c.args.from c.args.to c.requires.from c.requires.to c.saturating_sub-kept.result kept_is (chars c.args.new.now) onto c.in_ok-cut.ensures.plain text_is (λ e. w.in_default.not-Eof (c.end.ensures ∙ sym end_is ∙ e)))
    ]

pub returns-clause-ok : goal.returns-clause-ok
returns-clause-ok c = IfOk-weaker c.replaced.result _ (λ (cut : List Row). IsCut (wanted_text c.args.lines.now c.args.from c.args.to (chars c.args.new.now)) cut) (λ cut is. subst (IsCut (wanted_text c.args.lines.now c.args.from c.args.to (chars c.args.new.now))) (sym is) (cut_is c)) c.replaced.ensures.ok

pub returns-clause-memory : goal.returns-clause-memory
returns-clause-memory c =
    IfErr-weaker c.replaced.result _ (λ e. e ≡ Memory)
    (λ e before. memory_alone e (λ is. omega (arith, before is, ap (λ z. length (encode_utf8_all z)) (cut_is c).1, c.requires.small))) c.replaced.ensures.too_large
