use Rattle.std.proofs.Common.{◌≡◌, List, Bool, length, sym, subst, arith}
use Rattle.std.proofs.lemmas.List.{with_items_is}
use Rattle.findings_index.specs.declared.sweep.Way.TheVariants.{Holding}
use Rattle.findings_index.specs.own.Ways.{AreHoldingMarksFor, AreSoundByWayFor}
use Rattle.findings_index.proofs.Sweeping.{settled_are}
use Rattle.findings_index.proofs.settling.settle.Goals as goal

pub returns : goal.returns
returns c =
    let words = c.args.swept.now.words.now in
    let blocks = c.args.swept.now.blocks.now in
    let roles = c.args.swept.now.roles.now in
    let core = c.args.core in
    let marks = c.sweep_all.new.marks in
    let long : length marks ≡ core.len = omega arith in
    λ table cores.
    subst (AreHoldingMarksFor table words blocks roles) (sym (with_items_is core marks long))
    (settled_are words blocks roles marks core.items
    (λ table s.
    c.in_ok-sweep_all.ensures.sound table
    (subst (λ (m : List Bool). AreSoundByWayFor Holding table words blocks roles m) (sym c.deref_mut.ensures.value) s))
    c.in_ok-sweep_all.ensures.done table cores)
