use Rattle.std.proofs.Common.{arith, ap, ◌∙◌}
use Rattle.std.proofs.lemmas.Str.{length-le-encodes}
use Rattle.ls_text.specs.Cut.{text_of}
use Rattle.ls_text.specs.Lines.{fitting, units}
use Rattle.ls_text.proofs.OffsetLaws.{offset_found, offset_past, offset_bound}
use Rattle.ls_text.proofs.snapshot.Snapshot.offset_of.Goals as goal

pub overflow_add-result : goal.overflow_add-result
overflow_add-result c =
    omega (arith, offset_bound (units c.args.encoding) c.self.inside.lines c.args.at.line c.args.at.character _ _ _ c.line-held.ensures (c.fitting.ensures.count ∙ ap (λ t. fitting (units c.args.encoding) t c.args.at.character) c.text.ensures.characters), c.self.invariant.small, length-le-encodes (text_of c.self.inside.lines))

pub returns-then-line-len : goal.returns-then-line-len
returns-then-line-len c =
    offset_found (units c.args.encoding) c.self.inside.lines c.args.at.line c.args.at.character _ c.self.invariant.lines c.self.view_is _ _ _ c.line-held.ensures (c.fitting.ensures.count ∙ ap (λ t. fitting (units c.args.encoding) t c.args.at.character) c.text.ensures.characters)

pub returns-else-line-len : goal.returns-else-line-len
returns-else-line-len c =
    offset_past (units c.args.encoding) c.self.inside.lines c.args.at.line c.args.at.character _ c.self.invariant.lines c.self.view_is _ c.char_count-else-line-len.ensures.count (omega (arith, c.if-line-len.false, c.len.ensures))
