use Rattle.std.proofs.Common.{map, ap, subst, arith}
use Rattle.abnf_syntax.specs.Blocks.{IsNextBlock}
use Rattle.abnf_names.specs.Places.{named_at}
use Rattle.abnf_parts.specs.Names.{folded_text}
use Rattle.abnf_places.proofs.Absent.{nowhere}
use Rattle.abnf_places.proofs.Passing.{adds_none, all_passed, next_passed, none_passed}
use Rattle.abnf_places.proofs.search.stated_places.Goals as goal

pub blocks-2-init : goal.blocks-2-init
blocks-2-init c =
    let next = subst (λ n. IsNextBlock c.args.sheet.now 0 n c.next_block-first.result) c.count-count.ensures c.next_block-first.ensures in (
      none_passed c.args.sheet.now c.args.wanted (folded_text c.args.name) c.next_block-first.result (map named_at c.new-spots.result) next.within next.none (ap (map named_at) c.new-spots.ensures),
      next.begins,
    )

pub blocks-2-preserved-in_ok-push_wanted : goal.blocks-2-preserved-in_ok-push_wanted
blocks-2-preserved-in_ok-push_wanted c =
    next_passed c.args.sheet.now c.args.wanted (folded_text c.args.name) c.count-count.result c.blocks-2.first c.next_block-end.result (map named_at c.blocks-2.spots) (map named_at c.push_wanted.new.spots)
    c.count-count.ensures c.blocks-2.invariant c.blocks-2-test.true c.next_block-end.ensures c.in_ok-push_wanted.ensures

pub blocks-2-preserved : goal.blocks-2-preserved
blocks-2-preserved c =
    next_passed c.args.sheet.now c.args.wanted (folded_text c.args.name) c.count-count.result c.blocks-2.first c.next_block-end.result (map named_at c.blocks-2.spots) (map named_at c.blocks-2.spots)
    c.count-count.ensures c.blocks-2.invariant c.blocks-2-test.true c.next_block-end.ensures
    (adds_none c.args.sheet.now c.args.wanted (folded_text c.args.name) c.blocks-2.first c.next_block-end.result (map named_at c.blocks-2.spots)
    (nowhere (folded_text c.args.name) c.args.sheet.now c.blocks-2.first c.next_block-end.result c.args.wanted (c.is_stated.ensures c.if-is_stated.false)))

pub returns-clause-places : goal.returns-clause-places
returns-clause-places c =
    all_passed c.args.sheet.now c.args.wanted (folded_text c.args.name) c.blocks-2.first (map named_at c.blocks-2.spots) (omega (arith, c.blocks-2-test.false, c.count-count.ensures)) c.blocks-2.invariant.0
