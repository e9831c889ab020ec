use Rattle.std.proofs.Common.{List, sym, ap, ◌∙◌}
use Rattle.std.proofs.lemmas.Result.{IfOk-weaker}
use Rattle.joined_grammars.specs.declared.repeats.Repeat.{Repeat}
use Rattle.joined_grammars.proofs.RepeatLaws.{one_repeats}
use Rattle.draft_findings.specs.Reports.{reported}
use Rattle.ls_answers.proofs.RepeatedLaws.{reported_alike}
use Rattle.ls_answers.proofs.draft_diagnostics.repeats_for.Goals as goal

pub returns-then-has_duplicate : goal.returns-then-has_duplicate
returns-then-has_duplicate c =
    IfOk-weaker c.of.result _ _
    (λ repeats h all ends p. ap (λ (rs : List Repeat). reported rs ends c.args.found.now) (one_repeats c.args.text.now all repeats p h))
    c.of.ensures.found

pub returns-else-has_duplicate : goal.returns-else-has_duplicate
returns-else-has_duplicate c =
    let none = sym c.has_duplicate.ensures ∙ c.if-has_duplicate.false in
    λ all ends p.
    reported_alike all ends c.args.found.now none ∙ ap (λ (rs : List Repeat). reported rs ends c.args.found.now) (sym c.none.ensures)
