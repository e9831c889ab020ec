use Rattle.abnf_parts.specs.Names.{folded_text}
use Rattle.ls_answers.proofs.RenameLaws.{has_place}
use Rattle.ls_answers.proofs.rename.has_place.Goals as goal

pub returns : goal.returns
returns c = has_place (folded_text c.args.name) c.spots.result.now c.args.grammar.now.places c.has_spot.result c.spots.ensures c.has_spot.ensures
