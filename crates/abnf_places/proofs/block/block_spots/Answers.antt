use Rattle.std.proofs.Common.{map}
use Rattle.std.proofs.lemmas.Result.{IfOk-weaker}
use Rattle.abnf_names.specs.Places.{named_at}
use Rattle.abnf_places.proofs.OneBlock.{one_found}
use Rattle.abnf_places.proofs.block.block_spots.Goals as goal

pub returns : goal.returns
returns c =
    IfOk-weaker c.spots_in.result _ _
    (λ spots are. one_found c.args.sheet.now c.args.first c.args.end c.in_ok-blocks.blocks.items c.as_slice.result.now (map named_at spots) c.requires c.in_ok-blocks.ensures.all c.in_ok-blocks.ensures.items c.as_slice.ensures.value are)
    c.spots_in.ensures
