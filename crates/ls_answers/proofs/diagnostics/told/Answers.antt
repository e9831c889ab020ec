use Rattle.std.proofs.Common.{◌++◌, ◌∷◌, [], ◌∙◌, sym, ap}
use Rattle.std.proofs.lemmas.List.{map_more}
use Rattle.abnf_lint.specs.declared.finding.Finding.{Finding}
use Rattle.ls_text.specs.Positions.{Measured}
use Rattle.ls_answers.specs.Diagnostics.{diagnostic_of}
use Rattle.ls_answers.proofs.diagnostics.told.Goals as goal

pub loop-finding-init : goal.loop-finding-init
loop-finding-init c = record { text = c.new-ruler.ensures; told = c.reserve.ensures ∙ c.new-diagnostics.ensures }

pub loop-finding-preserved : goal.loop-finding-preserved
loop-finding-preserved c =
    let of = λ (finding : Finding). diagnostic_of c.args.encoding c.args.snapshot.now finding in
    let here = λ (ruler : Measured). diagnostic_of ruler.encoding ruler.text c.finding-item.result in
    let one = c.in_ok-diagnostic.ensures.told ∙ (ap here c.loop-finding.invariant.text ∙ ap of c.finding-item.is) in
    record {
      text = c.diagnostic.ensures.text ∙ c.loop-finding.invariant.text;
      told = c.in_ok-push.ensures.ok ∙ ((λ i. c.loop-finding.invariant.told i ++ one i ∷ []) ∙ sym (map_more of c.args.found.now c.loop-finding.finding-index c.finding-item.result c.loop-finding-test.true));
    }
