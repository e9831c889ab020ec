use Rattle.std.proofs.Common.{List, ℕ, subst}
use Rattle.draft_findings.specs.Ends.{block_ends}
use Rattle.findings_text.specs.Sources.{position_in_draft}
use Rattle.findings_text.specs.Unread.{asides_of}
use Rattle.findings_files.specs.Drafts.{IsPrintedRepeating}
use Rattle.findings_files.proofs.draft.print_draft.Goals as goal

pub returns-clause-printed : goal.returns-clause-printed
returns-clause-printed c =
    let draft = c.args.draft.now in
    let content = c.args.content.now in
    subst (λ (text : List ℕ). IsPrintedRepeating (asides_of draft content.unread) (block_ends draft content.grammar) (position_in_draft draft content.grammar text) c.args.file.now text c.in_ok-print_text.field-0)
    c.in_ok-text.ensures.text c.in_ok-print_text.ensures
