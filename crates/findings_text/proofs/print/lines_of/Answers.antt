use Rattle.std.proofs.Common.{◌≡◌, ◌∙◌, ◌+◌, ◌++◌, ◌∷◌, ℕ, List, ap, arith, drop, drop-cons, map, suc, sym, take}
use Rattle.std.specs.Prelude.{Option, string_bytes}
use Rattle.ls_text.specs.declared.position.Position.{Position}
use Rattle.origins.specs.declared.unread.Unread.{Unread}
use Rattle.draft_findings.specs.Reports.{Remarked}
use Rattle.findings_text.specs.Print.{begin_of, finding_line, line_of_finding}
use Rattle.findings_text.specs.Sources.{asides_in, located}
use Rattle.findings_text.specs.Unread.{count_before, unread_lines}
use Rattle.findings_text.proofs.UnreadLaws.{line_put}
use Rattle.findings_text.proofs.print.lines_of.Goals as goal

pub loop-one-preserved : goal.loop-one-preserved
loop-one-preserved c =
    let source = c.args.source in
    let text = c.args.text.now in
    let file = c.args.file.now in
    let names : List (List ℕ) = map (λ name. name.now) c.args.found.now.names in
    let kept : Option (List ℕ) = c.args.found.now.kept in
    let told : List Remarked = c.args.reported.now in
    let index = c.loop-one.one-index in
    let r = c.one-item.result in
    let place : Unread → Position = (asides_in source).0 in
    let begin : Remarked → Position = λ t. located source text (begin_of text t.finding) in
    let left : List Unread = c.loop-one.left.now in
    let lines : List ℕ = string_bytes c.loop-one.lines in
    let front : List ℕ = string_bytes c.push_ahead.new.lines in
    let at = c.standing_of-at.ensures in
    let one : suc index ≡ index + 1 = omega arith in
    let next : drop index told ≡ r ∷ drop (index + 1) told = drop-cons told index r c.loop-one-test.true ∙ (λ i. sym c.one-item.is i ∷ drop (one i) told) in
    record {
      text = at.same ∙ c.loop-one.invariant.text;
      told = line_put file place begin (finding_line (located source text) kept names file text) lines left (drop index told) c.loop-one.invariant.told
          r (drop (index + 1) told) front (string_bytes c.push_line.new.lines) c.in_ok-left.left.now next
          (c.in_ok-left.ensures.lines ∙ ap (λ (p : Position). lines ++ unread_lines file place (take (count_before place p left) left)) at.begin)
          (c.in_ok-push_line.ensures ∙ (λ i. front ++ line_of_finding (map (λ name. name.now) (c.as_slice-names.ensures i)) file (at.begin i) (at.original i) (at.hint i) r))
          (c.in_ok-left.ensures.left ∙ ap (λ (p : Position). drop (count_before place p left) left) at.begin);
    }
