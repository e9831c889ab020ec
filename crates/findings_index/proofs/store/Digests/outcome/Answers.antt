use Rattle.std.proofs.Common.{Bool, Vec, Global, ◌∙◌, ap, subst, sym}
use Rattle.findings_index.specs.ByTable.{strange_by}
use Rattle.findings_index.specs.Outcomes.{IsOutcome}
use Rattle.findings_index.specs.own.Ways.{AreCoreMarks, AreHeadMarks}
use Rattle.findings_index.proofs.Outcomes.{each_told}
use Rattle.findings_index.proofs.store.Digests.outcome.Goals as goal

pub returns : goal.returns
returns c =
    let digests = c.self.inside in
    let blocks = c.as_slice-blocks.result.now in
    let defined = c.in_ok-defined.defined.items in
    let heads : AreHeadMarks digests.names blocks defined = c.in_ok-defined.ensures.heads in
    let core : AreCoreMarks digests.names blocks c.in_ok-core.core.items =
    c.in_ok-core.ensures blocks (subst (AreHeadMarks digests.names blocks) (sym c.deref.ensures.value) heads) in
    subst (λ s. IsOutcome s (record { tolds = c.in_ok-tolds.tolds; defined = c.in_ok-defined.defined; strange = c.in_ok-strange.strange })) c.self.view_is record {
      told = λ of kept.
          each_told digests.names digests.words.items c.as_slice-words.result.now digests.blocks.items blocks
          c.as_slice-words.ensures.value c.as_slice-blocks.ensures.value c.in_ok-roles.roles.items c.in_ok-roles.ensures.roles of kept
          (λ (v : Vec Bool Global). v.items) c.in_ok-held.held c.in_ok-led.led
          c.deref-4.result.now c.deref-4.result.now c.deref-6.result.now c.deref-4.ensures.value c.deref-4.ensures.value c.deref-6.ensures.value
          c.in_ok-core.core.items core c.in_ok-held.ensures c.deref-5.result.now c.deref-5.ensures.value c.in_ok-led.ensures c.deref-7.result.now c.deref-8.result.now defined
          c.deref-7.ensures.value c.deref-8.ensures.value c.in_ok-defined.ensures.names c.in_ok-tolds.tolds.items c.in_ok-tolds.ensures;
      strange = λ number name at.
          c.in_ok-strange.ensures digests.names blocks (subst (AreHeadMarks digests.names blocks) (sym c.deref-2.ensures.value) heads)
          (subst (AreCoreMarks digests.names blocks) (sym c.deref-3.ensures.value) core) number name at
          ∙ ap (λ marks. strange_by digests.names marks name) c.deref-2.ensures.value;
    }
