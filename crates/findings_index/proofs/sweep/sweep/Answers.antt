use Rattle.std.proofs.Common.{◌≡◌, ◌<◌, ◌≤◌, ◌+◌, ◌∙◌, List, Bool, true, false, sym, subst, arith}
use Rattle.findings_index.specs.own.Ways.{AreSoundByWayFor, count_unmarked}
use Rattle.findings_index.proofs.Passing.{AreDoneUpTo, all_done, one_done_more, step_sound}
use Rattle.findings_index.proofs.PendingLaws.{marked_less}
use Rattle.findings_index.proofs.sweep.sweep.Goals as goal
use Rattle.findings_index.proofs.sweep.sweep.Goals.{then-branch, else-branch}

pub loop-passed-preserved : goal.loop-passed-preserved
loop-passed-preserved c =
    let way = c.args.way in
    let backwards = c.args.backwards in
    let words = c.args.swept.now.words.now in
    let blocks = c.args.swept.now.blocks.now in
    let roles = c.args.swept.now.roles.now in
    let marks = c.loop-passed.marks in
    let after = c.visit.new.marks in
    let passed = c.loop-passed.passed in
    let place = c.place_of-place.result in
    elim c.if-branch.branch [
      | then-branch w ↦ record {
        sound = λ table s.
            step_sound way words blocks roles marks place _ _ c.place_of-place.ensures.within c.requires after table (c.loop-passed.invariant.sound table s)
            (c.in_ok-visit.ensures.marked w.if-branch.true);
        done = λ e. absurd (let f : true ≡ false = sym w.any-is ∙ e in cc (f));
        few = (let l : count_unmarked after < count_unmarked marks = marked_less way words marks after _ _ (c.in_ok-visit.ensures.marked w.if-branch.true) in omega (arith, l, c.loop-passed.invariant.few));
        less = λ e. (let l : count_unmarked after < count_unmarked marks = marked_less way words marks after _ _ (c.in_ok-visit.ensures.marked w.if-branch.true) in omega (arith, l, c.loop-passed.invariant.few));
      }
      | else-branch w ↦
          let rest = c.in_ok-visit.ensures.rest w.if-branch.false in
          record {
            sound = λ table s. subst (λ (m : List Bool). AreSoundByWayFor way table words blocks roles m) (sym rest.0) (c.loop-passed.invariant.sound table s);
            few = subst (λ (m : List Bool). count_unmarked m ≤ count_unmarked c.args.marks.now) (sym rest.0) c.loop-passed.invariant.few;
            less = λ e. subst (λ (m : List Bool). count_unmarked m < count_unmarked c.args.marks.now) (sym rest.0) (c.loop-passed.invariant.less (sym w.any-is ∙ e));
            done = λ e.
                subst (λ (m : List Bool). AreDoneUpTo way backwards words blocks roles m (passed + 1)) (sym rest.0)
                (one_done_more way backwards words blocks roles marks passed place _ _ (c.loop-passed.invariant.done (sym w.any-is ∙ e)) c.place_of-place.ensures.is rest.1);
          }
    ]

pub returns-clause-done : goal.returns-clause-done
returns-clause-done c = λ none.
    all_done c.args.way c.args.backwards c.args.swept.now.words.now c.args.swept.now.blocks.now c.args.swept.now.roles.now c.loop-passed.marks c.loop-passed.passed (omega (arith, c.loop-passed-test.false))
    (c.loop-passed.invariant.done none)
