use Rattle.std.proofs.Common.{◌≡◌, ℕ, refl, sym, subst, arith}
use Rattle.abnf_token.specs.Marks.{AreMarks}
use Rattle.abnf_syntax.specs.Items.{AreItems}
use Rattle.abnf_syntax.specs.own.Gather.{AddsLine, HasLines, gathering_of}
use Rattle.abnf_syntax.proofs.GatherLaws.{line_more, items_are}
use Rattle.abnf_syntax.proofs.ContentLaws.{some_items}
use Rattle.abnf_syntax.proofs.block.items_of.Goals as goal

pub add_line-requires : goal.add_line-requires
add_line-requires c = subst (λ line. AreMarks line c.row-row.result.marks.now) (sym c.row-row.ensures.text) c.row-row.ensures.marks

pub loop-at-preserved : goal.loop-at-preserved
loop-at-preserved c = line_more c.args.sheet.now c.args.first c.loop-at.at _ _ c.loop-at.invariant (subst (λ line. AddsLine c.loop-at.at line (gathering_of c.loop-at.gathered) (gathering_of c.add_line.new.self)) c.row-row.ensures.text c.in_ok-add_line.ensures)

pub returns : goal.returns
returns c =
    let at_end : c.loop-at.at ≡ c.args.end = omega arith in
    let are : AreItems c.args.sheet.now c.args.first c.args.end c.loop-at.gathered.items.items = items_are c.args.sheet.now c.args.first c.args.end _ c.loop-at.gathered.items.items refl (subst (λ (n : ℕ). HasLines c.args.sheet.now c.args.first n (gathering_of c.loop-at.gathered)) at_end c.loop-at.invariant) in
    let listed : AreItems c.args.sheet.now c.args.first c.args.end c.from_vec.result =
    subst (λ items. AreItems c.args.sheet.now c.args.first c.args.end items) (sym c.from_vec.ensures) are in
    record { items = listed; some = some_items c.args.sheet.now c.args.first c.args.end c.from_vec.result c.requires.some c.requires.begins listed }
