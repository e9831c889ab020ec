use Rattle.std.proofs.Common.{◌≡◌, ◌∙◌, ◌+◌, ◌-◌, ◌++◌, length, take, drop, refl, sym, ap, arith}
use Rattle.std.specs.List.{copy_within, slice_range}
use Rattle.std.specs.Vec.{with_items}
use Rattle.std.proofs.lemmas.List.{with_items_is}
use Rattle.findings_index.proofs.Replacing.{as_many, any_many, turned, turned_long}
use Rattle.findings_index.proofs.store.replace_by_last.Goals as goal

pub returns-then-to-from : goal.returns-then-to-from
returns-then-to-from c =
    let items = c.args.items.now.items in
    let long = c.args.items.now.ok.0 in
    let start = length items - c.args.count in
    let is_start : c.len.result - c.args.count ≡ start = omega (arith, c.len.ensures, long) in
    let count : c.args.items.now.len - start ≡ c.args.count = omega (arith, long, c.requires.within) in
    c.truncate.ensures.items ∙ (ap (take (c.len.result - c.args.count)) c.copy_within.ensures.items
    ∙ (ap (λ k. take k (copy_within items k c.args.items.now.len c.args.from)) is_start
    ∙ as_many items c.args.from c.args.to c.args.count start c.requires.order c.requires.within refl (c.args.items.now.len - start) count
    c.if-to-from.true))

pub returns : goal.returns
returns c =
    let items = c.args.items.now.items in
    let long = c.args.items.now.ok.0 in
    let start = length items - c.args.count in
    let lent = c.deref_mut.ensures.value in
    let is : c.move_last.new.items ≡ turned items c.args.from c.args.to c.args.count start c.requires.order c.requires.within refl =
    c.move_last.ensures ∙ ap (λ l. take c.args.from l ++ (drop (length l - c.args.count) l ++ slice_range l c.args.from (length l - c.args.count))) lent in
    let all : length c.move_last.new.items ≡ c.args.items.now.len = ap length is ∙ (turned_long items c.args.from c.args.to c.args.count start c.requires.order c.requires.within refl ∙ sym long) in
    let now = with_items_is c.args.items.now c.move_last.new.items all in
    let kept : c.len-2.result - (c.args.to - c.args.from) ≡ length items - (c.args.to - c.args.from) =
    ap (λ k. k - (c.args.to - c.args.from)) (c.len-2.ensures ∙ (c.copy_within-2.ensures.len ∙ long)) in
    c.truncate-2.ensures.items
    ∙ (ap (take (c.len-2.result - (c.args.to - c.args.from))) c.copy_within-2.ensures.items
    ∙ any_many items c.args.from c.args.to c.args.count start c.requires.order c.requires.within refl (with_items c.args.items.now c.move_last.new.items).items
    (c.args.items.now.len - (c.args.to + c.args.count)) (c.len-2.result - (c.args.to - c.args.from)) (now ∙ is) (ap (λ k. k - (c.args.to + c.args.count)) long) kept)
