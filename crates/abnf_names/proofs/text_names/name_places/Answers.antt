use Rattle.std.proofs.Common.{◌∙◌, ap, map}
use Rattle.abnf_names.specs.own.Passes.{stated}
use Rattle.abnf_names.specs.Places.{named_at}
use Rattle.abnf_names.proofs.OwnPass.{places_by}
use Rattle.abnf_names.proofs.text_names.name_places.Goals as goal

pub returns : goal.returns
returns c blocks same = record {
  spots = c.in_ok-spots.ensures ∙ places_by c.args.sections.now blocks same;
  stated = c.in_ok-stated.ensures ∙ ap (λ spots. stated (map named_at spots)) c.as_slice.ensures;
}
