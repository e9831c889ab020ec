use Rattle.std.proofs.Common.{arith}
use Rattle.std.proofs.lemmas.Str.{length-le-encodes}
use Rattle.draft_grammars.proofs.places.SourceMap.outward_end.Goals as goal

pub overflow_add-last : goal.overflow_add-last
overflow_add-last c =
    let count = c.char_count-count.ensures in
    omega (arith, c.if-last-count.true, count.count, count.small, length-le-encodes c.self.inside.draft.now, c.width.ensures.small)
