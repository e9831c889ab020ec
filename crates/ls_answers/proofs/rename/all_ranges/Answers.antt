use Rattle.std.proofs.Common.{◌≡◌, ◌∙◌, IfOk, List, subst}
use Rattle.ls_text.specs.declared.position.Range.{Range}
use Rattle.abnf_parts.specs.Names.{folded_text}
use Rattle.ls_answers.specs.Places.{ranges_of}
use Rattle.abnf_places.specs.declared.wanted.Wanted.TheVariants.{Both}
use Rattle.ls_answers.proofs.RenameLaws.{all_ranges}
use Rattle.ls_answers.proofs.rename.all_ranges.Goals as goal

pub returns : goal.returns
returns c =
    let name = folded_text c.args.name in
    subst (λ (rs : List Range). IfOk c.ranges_of.result (λ ranges. ranges ≡ rs))
    ((λ i. ranges_of c.args.encoding Both (c.source.ensures.text i) name (c.spots.ensures i)) ∙ all_ranges c.args.encoding c.args.grammar.now.text name c.args.grammar.now.places) c.ranges_of.ensures
