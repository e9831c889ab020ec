use Rattle.std.proofs.Common.{◌≡◌, ◌∙◌, ◌+◌, ◌++◌, ◌∷◌, [], List, ap, append-nil, false, subst, sym, take, true}
use Rattle.std.proofs.lemmas.List.{take_more}
use Rattle.origins.specs.Origins.{characters}
use Rattle.origins.specs.declared.unread.Unread.{Unread}
use Rattle.findings_files.specs.Contents.{AreRemarked, IsSaid}
use Rattle.findings_files.proofs.ContentLaws.{said_more}
use Rattle.findings_files.proofs.content.said.Goals as goal
use Rattle.findings_files.proofs.content.said.Goals.{else-branch, then-branch+in_ok-push}

pub loop-aside-preserved : goal.loop-aside-preserved
loop-aside-preserved c =
    let asides = c.args.asides.now in
    let at = c.loop-aside.aside-index in
    let aside = c.aside-item.result in
    let before = take at asides in
    let next : take (at + 1) asides ≡ before ++ aside ∷ [] =
    take_more asides at aside c.loop-aside-test.true ∙ ap (λ a. before ++ a ∷ []) (sym c.aside-item.is) in
    let was = c.loop-aside.invariant in
    let says = c.in_ok-is_said.ensures.says in
    elim c.if-branch.branch [
      | then-branch+in_ok-push w ↦
          let is = subst (λ b. IsSaid aside.unread.lack (characters aside.text) b) w.if-branch.true says in
          let are : AreRemarked (before ++ aside ∷ []) (c.loop-aside.said ++ aside.unread ∷ []) = said_more before aside true c.loop-aside.said was is in
          rw (next, w.said-is, w.in_ok-push.ensures.ok) are
      | else-branch w ↦
          let is = subst (λ b. IsSaid aside.unread.lack (characters aside.text) b) w.if-branch.false says in
          let are : AreRemarked (before ++ aside ∷ []) (c.loop-aside.said ++ []) = said_more before aside false c.loop-aside.said was is in
          rw (next, w.said-is) (subst (λ (said : List Unread). AreRemarked (before ++ aside ∷ []) said) (append-nil c.loop-aside.said) are)
    ]
