use Rattle.ls_text.proofs.SmallOffsets.{offset_small}
use Rattle.draft_grammars.proofs.places.SourceMap.inward_position.Goals as goal

pub inward_at-requires : goal.inward_at-requires
inward_at-requires c =
    offset_small _ _ _ _ _ c.char_count-count.ensures.small c.offset_of.ensures
