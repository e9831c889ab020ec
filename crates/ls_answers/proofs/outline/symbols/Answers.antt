use Rattle.std.proofs.Common.{subst, sym}
use Rattle.ls_answers.specs.Outline.{IsOutline}
use Rattle.ls_answers.proofs.Outlines.{all_symbols, block_more, none_shown, none_yet, one_shown}
use Rattle.ls_answers.proofs.outline.symbols.Goals as goal

pub blocks-2-init : goal.blocks-2-init
blocks-2-init c = none_yet c.args.encoding c.args.snapshot.now c.of-sheet.result c.count-count.result c.next_block-first.result c.new-symbols.result.items c.next_block-first.ensures c.new-symbols.ensures.items

pub blocks-2-preserved-in_ok-push : goal.blocks-2-preserved-in_ok-push
blocks-2-preserved-in_ok-push c =
    block_more c.args.encoding c.args.snapshot.now c.of-sheet.result c.count-count.result c.blocks-2.first c.next_block-end.result c.of-sheet.ensures.small c.of-sheet.ensures.lines c.count-count.ensures c.blocks-2.symbols.items c.push.new.self.items c.of.result
    c.blocks-2.invariant c.blocks-2-test.true c.next_block-end.ensures c.of.ensures
    (one_shown c.args.encoding c.args.snapshot.now c.blocks-2.symbols.items c.push.new.self.items c.in-Some.block c.of.result c.in_ok-symbol.symbol c.in-Some.is c.in_ok-symbol.ensures c.in_ok-push.ensures.items)

pub blocks-2-preserved : goal.blocks-2-preserved
blocks-2-preserved c =
    block_more c.args.encoding c.args.snapshot.now c.of-sheet.result c.count-count.result c.blocks-2.first c.next_block-end.result c.of-sheet.ensures.small c.of-sheet.ensures.lines c.count-count.ensures c.blocks-2.symbols.items c.blocks-2.symbols.items c.of.result
    c.blocks-2.invariant c.blocks-2-test.true c.next_block-end.ensures c.of.ensures
    (none_shown c.args.encoding c.args.snapshot.now c.blocks-2.symbols.items c.of.result c.in_default.is)

pub returns : goal.returns
returns c =
    subst (λ symbols. IsOutline c.args.encoding c.args.snapshot.now symbols) (sym c.from_vec.ensures)
    (all_symbols c.args.encoding c.args.snapshot.now c.of-sheet.result c.count-count.result c.blocks-2.first c.blocks-2.symbols.items c.of-sheet.ensures.lines c.count-count.ensures c.blocks-2-test.false c.blocks-2.invariant)
