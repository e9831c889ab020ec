use Rattle.std.proofs.Common.{refl, ◌∙◌, ap, arith}
use Rattle.std.proofs.lemmas.Str.{length-le-encodes}
use Rattle.ls_text.specs.Lines.{fitting, units}
use Rattle.ls_text.specs.Cut.{text_of}
use Rattle.ls_text.proofs.OffsetLaws.{offset_bound, offset_past}
use Rattle.ls_text.proofs.SpotLaws.{spot_some, offset_some, spot_none}
use Rattle.ls_text.proofs.edit.spot_of.Goals as goal

pub overflow_add-result : goal.overflow_add-result
overflow_add-result c =
    omega (arith, offset_bound (units c.args.encoding) c.args.lines.now c.args.at.line c.args.at.character _ _ _ c.line-line.ensures (c.fitting-fit.ensures.count ∙ ap (λ t. fitting (units c.args.encoding) t c.args.at.character) c.text.ensures.characters), length-le-encodes (text_of c.args.lines.now), c.requires.small)

pub returns-then-number-len-clause-spot : goal.returns-then-number-len-clause-spot
returns-then-number-len-clause-spot c =
    spot_some c.args.lines.now c.args.at.line _ _ c.line-line.ensures _ c.text.utf8 c.text.ensures.bytes c.text.ensures.characters (units c.args.encoding) c.args.at.character _ _ _ c.fitting-fit.ensures.count c.fitting-fit.ensures.bytes refl

pub returns-then-number-len-clause-position : goal.returns-then-number-len-clause-position
returns-then-number-len-clause-position c =
    offset_some c.args.lines.now c.args.at.line _ _ c.line-line.ensures _ c.text.utf8 c.text.ensures.bytes c.text.ensures.characters (units c.args.encoding) c.args.at.character _ _ c.fitting-fit.ensures.count refl c.requires.lines

pub returns-else-number-len-clause-spot : goal.returns-else-number-len-clause-spot
returns-else-number-len-clause-spot c =
    spot_none c.args.lines.now _ _ _ c.line-line-else-number-len.ensures _ c.text-else-number-len.utf8 c.text-else-number-len.ensures.bytes c.text-else-number-len.ensures.characters c.requires.lines c.char_count-else-number-len.result c.char_count-else-number-len.ensures.count (omega (arith, c.len-last.ensures)) _ refl

pub returns-else-number-len-clause-position : goal.returns-else-number-len-clause-position
returns-else-number-len-clause-position c =
    offset_past (units c.args.encoding) c.args.lines.now c.args.at.line c.args.at.character _ c.requires.lines refl c.char_count-else-number-len.result c.char_count-else-number-len.ensures.count (omega (arith, c.if-number-len.false, c.len.ensures))
