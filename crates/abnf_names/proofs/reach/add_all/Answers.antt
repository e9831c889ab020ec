use Rattle.std.proofs.Common.{◌<◌, ℕ, List, get_or, subst, sym}
use Rattle.std.proofs.lemmas.List.Elements.{Contains-get_or}
use Rattle.abnf_names.proofs.reach.add_all.Goals as goal

pub add-requires : goal.add-requires
add-requires c =
    let place = get_or c.args.places.now c.loop-place.place-index 0 in
    subst (λ (f : ℕ × List ℕ). place < f.0) (sym c.loop-place.invariant) (c.requires place (Contains-get_or c.args.places.now c.loop-place.place-index 0 c.loop-place-test.true))
