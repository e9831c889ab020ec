use Rattle.std.proofs.Common.{arith, ℕ, ◌<◌, ◌^◌, List, length, ap, subst, ◌∙◌}
use Rattle.std.proofs.lemmas.Result.{IfOk-weaker}
use Rattle.std.proofs.lemmas.Str.{length-le-encodes}
use Rattle.abnf_lint.specs.Rows.{AreRows}
use Rattle.origins.specs.Origins.{characters}
use Rattle.joined_grammars.proofs.RepeatLaws.{some_repeats}
use Rattle.draft_grammars.specs.Drafts.{Contents}
use Rattle.ls_answers.proofs.draft_diagnostics.draft_diagnostics.Goals as goal

pub returns : goal.returns
returns c =
    let text = characters c.args.places.now.grammar in
    let own_is = c.text-text.ensures ∙ ap (λ (contents : Contents). characters contents.grammar) c.grammar.ensures in
    let small = subst (λ (t : List ℕ). length t < 2 ^ 62) (c.deref.ensures ∙ own_is) (omega (arith, length-le-encodes c.deref.result.now, c.char_count-count.ensures.small)) in
    let text_is = c.in_ok-diagnosed.ensures ∙ own_is in
    let found = c.findings.result.now in
    let of_text = subst (λ (t : List ℕ). AreRows t found) text_is c.findings.ensures.rows in
    let repeats = some_repeats text small in
    IfOk-weaker c.all-found.result _ _
    (λ given h. record { findings = found; of_text = of_text; repeats = repeats.0; are_repeats = repeats.1; diagnostics_are = h repeats.0 repeats.1 })
    c.all-found.ensures
