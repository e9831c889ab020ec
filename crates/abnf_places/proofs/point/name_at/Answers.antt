use Rattle.abnf_places.proofs.Around.{name_found}
use Rattle.abnf_places.proofs.point.name_at.Goals as goal

pub returns-in-Some-clause-name : goal.returns-in-Some-clause-name
returns-in-Some-clause-name c =
    name_found c.args.snapshot.now c.args.offset c.of-sheet.result c.in_ok-spots.spots c.as_slice.result.now c.place_at-at.result c.found_at.result _ c.of-sheet.ensures.small c.of-sheet.ensures.lines
    c.place_at-at.ensures c.in_ok-spots.ensures.spots c.as_slice.ensures c.found_at.ensures c.in-Some.is

pub returns-clause-name : goal.returns-clause-name
returns-clause-name c =
    name_found c.args.snapshot.now c.args.offset c.of-sheet.result c.in_ok-spots.spots c.as_slice.result.now c.place_at-at.result c.found_at.result _ c.of-sheet.ensures.small c.of-sheet.ensures.lines
    c.place_at-at.ensures c.in_ok-spots.ensures.spots c.as_slice.ensures c.found_at.ensures c.in-None.is
