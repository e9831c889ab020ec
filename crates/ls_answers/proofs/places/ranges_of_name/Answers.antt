use Rattle.std.proofs.Common.{ap, map, ◌∙◌}
use Rattle.std.proofs.lemmas.Result.{IfOk-weaker}
use Rattle.abnf_names.specs.Places.{named_at}
use Rattle.abnf_parts.specs.Names.{folded_text}
use Rattle.ls_answers.specs.Places.{name_range}
use Rattle.ls_answers.proofs.Definitions.{ranges_found}
use Rattle.ls_answers.proofs.places.ranges_of_name.Goals as goal

pub returns : goal.returns
returns c =
    IfOk-weaker c.ranges_of_spots.result _ _
    (λ ranges is. ranges_found c.args.encoding c.args.wanted c.args.snapshot.now (folded_text c.args.name) (map named_at c.in_ok-spots.spots) ranges c.in_ok-spots.ensures.places
    (is ∙ ap (λ spots. map (name_range c.args.encoding c.args.snapshot.now) (map named_at spots)) c.as_slice.ensures))
    c.ranges_of_spots.ensures
