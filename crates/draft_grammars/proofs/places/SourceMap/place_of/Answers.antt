use Rattle.ls_text.proofs.SmallOffsets.{offset_small}
use Rattle.draft_grammars.proofs.places.SourceMap.place_of.Goals as goal

pub returns-clause-small : goal.returns-clause-small
returns-clause-small c =
    offset_small _ _ _ _ _ c.char_count-count.ensures.small c.offset_of.ensures
