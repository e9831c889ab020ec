use Rattle.std.proofs.Common.{arith}
use Rattle.ls_text.proofs.SmallOffsets.{offset_small}
use Rattle.draft_grammars.proofs.places.SourceMap.inward_range.Goals as goal

pub inward_at-requires : goal.inward_at-requires
inward_at-requires c =
    let small = offset_small _ _ _ _ _ c.char_count-count.ensures.small c.offset_of-start.ensures in
    omega (arith, small, c.min.ensures)
