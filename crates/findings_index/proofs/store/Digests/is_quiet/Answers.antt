use Rattle.std.proofs.Common.{◌∙◌, ap, sym}
use Rattle.findings_index.proofs.NothingFound.{is_quiet}
use Rattle.findings_index.proofs.store.Digests.is_quiet.Goals as goal
use Rattle.findings_index.proofs.store.Digests.is_quiet.Goals.{then-not-block, else-not-block}

pub returns-then-is_silent : goal.returns-then-is_silent
returns-then-is_silent c = λ none.
    let s = c.args.self.now in
    let outcome = c.args.outcome.now in
    elim c.if-not-block.branch [
      | then-not-block w ↦
          is_quiet s outcome c.requires c.args.at c.in-Some.block.now c.in-Some-get.told.now c.deref.result.now c.deref-2.result.now
          (c.deref.ensures.value ∙ ap (λ k. k.kept) c.self.view_is) c.deref-2.ensures.value c.in-Some.ensures.lookup.1 c.in-Some-get.ensures.lookup.1
          c.deref-then-is_silent.result.now c.deref-then-is_silent-2.result.now
          (c.deref-then-is_silent.ensures.value ∙ ap (λ k. k.words) c.self.view_is) c.deref-then-is_silent-2.ensures.value
          w.if-not-block.true w.is_silent.result w.is_silent.ensures (sym w.value-is ∙ c.if-is_silent.true) c.uses_strange.result c.uses_strange.ensures none
      | else-not-block w ↦ absurd (cc)
    ]
