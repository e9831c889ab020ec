use Rattle.std.proofs.Common.{◌∙◌, List, ℕ, subst}
use Rattle.origins.specs.declared.unread.Unread.{Unread}
use Rattle.draft_findings.specs.Ends.{block_ends}
use Rattle.findings_text.specs.Print.{IsPrintedFrom}
use Rattle.findings_text.specs.Sources.{position_in_draft}
use Rattle.findings_text.specs.Unread.{asides_of}
use Rattle.findings_files.specs.Drafts.{IsPrintedRepeating}
use Rattle.findings_files.proofs.DraftLaws.{if_ok}
use Rattle.findings_files.proofs.draft.print_text.Goals as goal

pub returns : goal.returns
returns c =
    let file = c.args.file.now in
    let draft = c.args.draft.now in
    let content = c.args.content.now in
    let text = c.args.text.now in
    let repeats = c.in_ok-repeats.repeats in
    let locate = position_in_draft draft content.grammar text in
    if_ok (λ printed. IsPrintedFrom (asides_of draft c.as_slice-unread.result.now) repeats c.as_slice.result.now locate file text printed)
    (λ printed. IsPrintedRepeating (asides_of draft content.unread) (block_ends draft content.grammar) locate file text printed) c.print_from.result
    (λ printed is. (
      repeats,
      c.in_ok-repeats.ensures.found,
      subst (λ (ends : List ℕ). IsPrintedFrom (asides_of draft content.unread) repeats ends locate file text printed) (c.as_slice.ensures ∙ c.in_ok-ends.ensures)
          (subst (λ (unread : List Unread). IsPrintedFrom (asides_of draft unread) repeats c.as_slice.result.now locate file text printed) c.as_slice-unread.ensures is),
    )) c.print_from.ensures
