use Rattle.std.proofs.Common.{refl}
use Rattle.abnf_names.proofs.OwnPass.{stated_next}
use Rattle.abnf_names.proofs.text_names.core_names_stated.Goals as goal

pub loop-spot-preserved : goal.loop-spot-preserved
loop-spot-preserved c =
    stated_next c.args.spots.now c.loop-spot.spot-index _ _ c.loop-spot.names c.add_core_name.new.names c.loop-spot-test.true refl c.loop-spot.invariant c.in_ok-add_core_name.ensures
