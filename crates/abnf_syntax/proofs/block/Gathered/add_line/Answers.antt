use Rattle.std.proofs.Common.{subst, sym}
use Rattle.std.proofs.lemmas.List.{get_or_default}
use Rattle.abnf_syntax.specs.own.Gather.{gathering_of}
use Rattle.abnf_syntax.proofs.GatherLaws.{HasMarked, none_marked, token_more, line_done}
use Rattle.abnf_syntax.proofs.block.Gathered.add_line.Goals as goal

pub loop-mark-init : goal.loop-mark-init
loop-mark-init c = subst (λ s. HasMarked c.args.at c.args.line.now c.args.marks.now 0 (gathering_of c.args.self.now) s) (sym c.in_ok-make_room.ensures) (none_marked _ _ _ _ c.requires)

pub token_at-requires : goal.token_at-requires
token_at-requires c =
    (c.args.marks.now, c.requires, (c.loop-mark.mark-index, c.loop-mark-test.true, get_or_default c.args.marks.now c.loop-mark.mark-index _ _ c.loop-mark-test.true))

pub loop-mark-preserved : goal.loop-mark-preserved
loop-mark-preserved c =
    token_more _ c.token_at.result c.loop-mark-test.true (get_or_default c.args.marks.now c.loop-mark.mark-index _ _ c.loop-mark-test.true) c.token_at.ensures.mark c.token_at.ensures.line c.token_at.ensures.text c.in_ok-add_token.ensures c.loop-mark.invariant

pub returns : goal.returns
returns c = line_done c.loop-mark-test.false c.loop-mark.invariant c.add_gap.ensures
