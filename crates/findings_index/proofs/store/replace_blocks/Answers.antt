use Rattle.std.proofs.Common.{◌≡◌, ◌∙◌, ◌-◌, length, refl, sym, ap}
use Rattle.std.specs.List.{slice_range}
use Rattle.std.proofs.lemmas.List.{with_items_is}
use Rattle.findings_index.specs.KeptBlocks.{moved_block}
use Rattle.findings_index.proofs.MovedBlocks.{blocks_stay}
use Rattle.findings_index.proofs.Replacing.{are_changed, are_unchanged, changed_by, changed_long}
use Rattle.findings_index.proofs.store.replace_blocks.Goals as goal
use Rattle.findings_index.proofs.store.replace_blocks.Goals.{then-old-new, else-old-new}

pub returns : goal.returns
returns c =
    let from = c.args.from in
    let to = c.args.to in
    let count = c.args.count in
    let kept = c.args.blocks.now.items in
    let long = c.args.blocks.now.ok.0 in
    let start = length kept - count in
    let move = moved_block c.args.old c.args.new in
    let last : c.len.result - count ≡ start = ap (λ k. k - count) (c.len.ensures ∙ long) in
    elim c.if-old-new.branch [
      | then-old-new w ↦
          let is = changed_by kept from to count start c.requires.order c.requires.within refl move w.deref_mut.result.now (c.len.result - count) w.move_part.new.blocks w.deref_mut.ensures.value last w.move_part.ensures in
          let all : length w.move_part.new.blocks ≡ c.args.blocks.now.len = ap length is ∙ (changed_long kept from to count start c.requires.order c.requires.within refl move ∙ sym long) in
          are_changed kept from to count start c.requires.order c.requires.within refl move c.if-old-new.blocks.items c.replace_by_last.new.items.items
          (ap (λ v. v.items) w.blocks-is ∙ (with_items_is c.args.blocks.now w.move_part.new.blocks all ∙ is)) c.replace_by_last.ensures
      | else-old-new w ↦
          are_unchanged kept from to count start c.requires.order c.requires.within refl move c.if-old-new.blocks.items c.replace_by_last.new.items.items
          (ap (λ v. v.items) w.blocks-is) (blocks_stay c.args.old c.args.new (slice_range kept to start) w.if-old-new.false c.requires.lines) c.replace_by_last.ensures
    ]
