use Rattle.std.proofs.Common.{arith, ap}
use Rattle.ls_text.specs.Lines.{lowered}
use Rattle.ls_text.specs.declared.position.Position.{Position}
use Rattle.ls_text.proofs.SmallOffsets.{line_small, offset_small}
use Rattle.draft_grammars.proofs.insertion.ends_in_crlf.Goals as goal

pub overflow_add-next : goal.overflow_add-next
overflow_add-next c =
    let le = line_small c.args.text.now (lowered c.args.text.now c.args.offset) c.position_of-line.result.line c.char_count-count.ensures.small (ap (λ (p : Position). p.line) c.position_of-line.ensures) in
    omega (arith, le)

pub overflow_add-result : goal.overflow_add-result
overflow_add-result c =
    let small = offset_small _ _ _ _ _ c.char_count-count.ensures.small c.line_stop.ensures in
    omega (arith, small)
