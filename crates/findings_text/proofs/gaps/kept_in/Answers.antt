use Rattle.std.proofs.Common.{◌≡◌, ◌∙◌, [], arith, sym}
use Rattle.std.specs.Prelude.{string_bytes, string_len}
use Rattle.std.proofs.lemmas.Bool.{eqb-true}
use Rattle.std.proofs.lemmas.List.{nil_from_length}
use Rattle.findings_text.proofs.GapLaws.{kept_as_is, kept_with, small_as_is, small_with}
use Rattle.findings_text.proofs.gaps.kept_in.Goals as goal

pub returns-then-is_empty-clause-kept : goal.returns-then-is_empty-clause-kept
returns-then-is_empty-clause-kept c =
    let lines = c.in_ok-behind.behind in
    let empty : string_len lines ≡ 0 = eqb-true (string_len lines) 0 (sym c.is_empty.ensures ∙ c.if-is_empty.true) in
    let none : string_bytes lines ≡ [] = nil_from_length (string_bytes lines) (omega (arith, empty, lines.bytes.ok.0)) in
    kept_as_is c.args.told.now c.args.text.now c.args.found.now c.requires (string_bytes lines) c.in_ok-behind.ensures none c.in_ok-of.field-0 c.in_ok-of.ensures

pub returns-then-is_empty-clause-small : goal.returns-then-is_empty-clause-small
returns-then-is_empty-clause-small c =
    let lines = c.in_ok-behind.behind in
    let empty : string_len lines ≡ 0 = eqb-true (string_len lines) 0 (sym c.is_empty.ensures ∙ c.if-is_empty.true) in
    let none : string_bytes lines ≡ [] = nil_from_length (string_bytes lines) (omega (arith, empty, lines.bytes.ok.0)) in
    small_as_is c.args.told.now c.args.text.now c.args.found.now c.requires (string_bytes lines) c.in_ok-behind.ensures none c.char_count-count.ensures.small

pub returns-clause-kept : goal.returns-clause-kept
returns-clause-kept c =
    kept_with c.args.told.now c.args.text.now c.args.found.now c.requires c.as_str.result.now (c.as_str.ensures.value ∙ c.in_ok-behind.ensures) c.kept_behind.result c.kept_behind.ensures.kept

pub returns-clause-small : goal.returns-clause-small
returns-clause-small c =
    small_with c.args.told.now c.args.text.now c.args.found.now c.requires c.as_str.result.now (c.as_str.ensures.value ∙ c.in_ok-behind.ensures) c.kept_behind.result c.kept_behind.ensures.small
