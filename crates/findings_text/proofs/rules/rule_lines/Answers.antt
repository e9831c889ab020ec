use Rattle.std.proofs.Common.{◌≡◌, ◌∙◌, ◌++◌, ◌<◌, ap, refl, subst, sym, length}
use Rattle.std.specs.Prelude.{string_bytes}
use Rattle.std.proofs.lemmas.List.Elements.{All-get_or}
use Rattle.ls_text.specs.Lines.{units}
use Rattle.ls_text.specs.Positions.{Measured, place_start, position_of}
use Rattle.ls_text.specs.declared.position.Position.{Position}
use Rattle.abnf_names.specs.Places.{named_at}
use Rattle.findings_text.specs.declared.rules.Head.{Head}
use Rattle.findings_text.specs.Sources.{located}
use Rattle.findings_text.specs.Rules.{head_begin, rule_line, rule_line_at}
use Rattle.findings_text.proofs.RuleLines.{lines_next}
use Rattle.findings_text.proofs.rules.rule_lines.Goals as goal

pub example-requires-clause-rule : goal.example-requires-clause-rule
example-requires-clause-rule c =
    let rules = c.args.grammar.now.rules in
    subst (λ (head : Head). head.rule < length rules) (sym c.head-item.is)
    (All-get_or (λ (head : Head). head.rule < length rules) c.args.heads.now c.loop-head.head-index c.head-item.result c.loop-head-test.true c.requires.within)

pub loop-head-preserved : goal.loop-head-preserved
loop-head-preserved c =
    let file = c.args.file.now in
    let g = c.args.grammar.now in
    let head = c.head-item.result in
    let shown = c.in_ok-shown.shown in
    let lines = string_bytes c.loop-head.lines in
    let begins : c.range_of.result.start ≡ head_begin g.text (named_at head.spot) =
    ap (λ r. r.start) c.range_of.ensures.range ∙ ap (λ (m : Measured). position_of (units m.encoding) m.text (place_start m.text head.spot.place)) c.loop-head.invariant.text in
    let at : c.located-at.result ≡ located c.args.source g.text (head_begin g.text (named_at head.spot)) = c.located-at.ensures ∙ (λ i. located c.args.source (c.source-text.ensures.text i) (begins i)) in
    record {
      text = c.range_of.ensures.text ∙ c.loop-head.invariant.text;
      told = lines_next (located c.args.source g.text) file g c.args.heads.now c.loop-head.head-index head lines (string_bytes c.push_rule_line.new.lines)
          (rule_line (located c.args.source g.text) file g.text (named_at head.spot) shown) c.loop-head-test.true c.head-item.is c.loop-head.invariant.told
          (shown, c.in_ok-shown.ensures.shown, refl)
          (c.in_ok-push_rule_line.ensures ∙ ap (λ (p : Position). lines ++ rule_line_at file p (named_at head.spot) shown) at);
    }
