use Rattle.std.proofs.Common.{◌≡◌, ◌∙◌, ap, false, sym}
use Rattle.std.specs.Prelude.{Some, option_map}
use Rattle.std.specs.Option.{option_map_or}
use Rattle.origins.specs.Origins.{Sourced}
use Rattle.draft_findings.specs.Ends as spec
use Rattle.draft_findings.proofs.EndLaws.{not_last}
use Rattle.draft_findings.proofs.WalkLaws.{get_front}
use Rattle.draft_findings.proofs.ends.ends_block.Goals as goal

pub returns-clause-value : goal.returns-clause-value
returns-clause-value c origin cs is rest =
    let at : c.origin_of.result ≡ Some origin = c.origin_of.ensures ∙ ap (option_map (λ (s : Sourced). s.1)) (get_front c.args.at c.args.grammar.now (c.args.c, origin) cs is) in
    not_last c.args.draft.now c.args.c origin cs _ _ c.is_of_draft.result c.if-c-ne10.false (sym c.in-Some.ensures ∙ rest)
    (c.is_of_draft.ensures.value ∙ ap (λ o. option_map_or (spec.is_of_draft c.args.draft.now) o false) at)
