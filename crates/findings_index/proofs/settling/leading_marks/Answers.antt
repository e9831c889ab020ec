use Rattle.std.proofs.Common.{◌≡◌, ◌∙◌, length, sym, ap, subst, arith}
use Rattle.std.specs.Prelude.{replicate, false}
use Rattle.std.proofs.lemmas.List.{with_items_is}
use Rattle.findings_index.specs.own.Ways.{AreLeadingMarksFor}
use Rattle.findings_index.proofs.Sweeping.{led_are, none_at_first}
use Rattle.findings_index.proofs.settling.leading_marks.Goals as goal

pub returns : goal.returns
returns c =
    let table = c.args.names.now in
    let words = c.args.swept.now.words.now in
    let blocks = c.args.swept.now.blocks.now in
    let roles = c.args.swept.now.roles.now in
    let marks = c.sweep_all.new.marks in
    let long : length marks ≡ c.in_ok-marks.marks.len = omega arith in
    subst (AreLeadingMarksFor table words blocks roles) (sym (with_items_is c.in_ok-marks.marks marks long))
    (led_are words blocks roles marks table
    (c.in_ok-sweep_all.ensures.sound table
    (none_at_first table words blocks roles c.deref_mut.result.now
    (c.deref_mut.ensures.value ∙ (c.in_ok-marks.ensures.items_if_clones_equal (λ y e. e) ∙ ap (λ n. replicate n false) c.len.ensures))))
    c.in_ok-sweep_all.ensures.done)
