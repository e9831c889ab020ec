use Rattle.std.proofs.Common.{◌+◌, ◌∙◌, map, ap, sym, subst, arith}
use Rattle.abnf_syntax.proofs.BlockLaws.{none_at}
use Rattle.abnf_names.specs.Places.{named_at}
use Rattle.abnf_parts.specs.Names.{folded_text}
use Rattle.abnf_places.specs.declared.wanted.Wanted.TheVariants.{Definitions}
use Rattle.abnf_places.proofs.Absent.{not_first}
use Rattle.abnf_places.proofs.OneBlock.{both}
use Rattle.abnf_places.proofs.Passing.{IsPassed, all_passed, beginning_passed, none_passed, other_passed}
use Rattle.abnf_places.proofs.search.definitions_of.Goals as goal
use Rattle.abnf_places.proofs.search.definitions_of.Goals.{then-begins_with+then-begins+in_ok-push_wanted, else-begins_with, else-begins_with-via-then-begins_with+else-begins, else-begins_with-via-else-begins_with}

pub loop-at-init : goal.loop-at-init
loop-at-init c = none_passed c.args.sheet.now Definitions (folded_text c.args.name) 0 (map named_at c.new-spots.result) (omega arith) (none_at c.args.sheet.now 0) (ap (map named_at) c.new-spots.ensures)

pub loop-at-preserved : goal.loop-at-preserved
loop-at-preserved c =
    elim c.if-begins_with.branch [
      | then-begins_with+then-begins+in_ok-push_wanted w ↦
          subst (λ spots. IsPassed c.args.sheet.now Definitions (folded_text c.args.name) (c.loop-at.at + 1) (map named_at spots)) (sym w.spots-is)
          (beginning_passed c.args.sheet.now Definitions (folded_text c.args.name) c.count-count.result c.loop-at.at w.next_block-end.result (map named_at c.loop-at.spots) (map named_at w.push_wanted.new.spots)
          c.count-count.ensures (sym w.begins.ensures ∙ w.if-begins.true) w.next_block-end.ensures c.loop-at.invariant w.in_ok-push_wanted.ensures)
      | else-begins_with w ↦
          subst (λ spots. IsPassed c.args.sheet.now Definitions (folded_text c.args.name) (c.loop-at.at + 1) (map named_at spots)) (sym w.spots-is)
          (other_passed c.args.sheet.now Definitions (folded_text c.args.name) c.loop-at.at (map named_at c.loop-at.spots) (omega (arith, c.loop-at-test.true, c.count-count.ensures)) c.loop-at.invariant
          (λ end block items are.
          elim w.else-begins_with.branch [
            | else-begins_with-via-then-begins_with+else-begins w' ↦ both c.args.sheet.now c.loop-at.at block.begins (sym w'.begins.ensures ∙ w'.if-begins.false)
            | else-begins_with-via-else-begins_with w' ↦ not_first (folded_text c.args.name) c.args.sheet.now c.loop-at.at end block (c.begins_with.ensures w'.if-begins_with.false) items are
          ]))
    ]

pub returns-clause-places : goal.returns-clause-places
returns-clause-places c =
    all_passed c.args.sheet.now Definitions (folded_text c.args.name) c.loop-at.at (map named_at c.loop-at.spots) (omega (arith, c.loop-at-test.false, c.count-count.ensures)) c.loop-at.invariant
