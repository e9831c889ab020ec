use Rattle.std.proofs.Common.{◌∙◌, List, ℕ, subst}
use Rattle.joined_grammars.specs.Joined.{IsJoined}
use Rattle.origins.specs.declared.unread.Unread.{Unread}
use Rattle.findings_text.specs.Sources.{position_in_draft}
use Rattle.findings_text.specs.Told.{IsPrintedIn}
use Rattle.findings_text.specs.Unread.{asides_of}
use Rattle.findings_files.specs.Known.{IsPrintedJoined, ends_as}
use Rattle.findings_files.proofs.DraftLaws.{if_ok}
use Rattle.findings_files.proofs.known.print_joined.Goals as goal

pub returns-clause-printed : goal.returns-clause-printed
returns-clause-printed c =
    let file = c.args.file.now in
    let draft = c.args.draft.now in
    let content = c.args.content.now in
    let told = c.in_ok-told.told in
    let text = c.in_ok-text.text in
    let repeats = c.in_ok-repeats.repeats in
    let ends = c.as_slice.result.now in
    let locate = position_in_draft draft content.grammar text in
    if_ok (λ printed. IsPrintedIn told (asides_of draft c.as_slice-unread.result.now) repeats ends locate file text printed)
    (λ printed. IsPrintedJoined c.args.others.now c.args.format file draft content.unread content.grammar printed) c.print_front.result
    (λ printed is. (
      text,
      repeats,
      subst (λ (told : List ℕ). IsJoined told c.args.others.now text) c.in_ok-told.ensures.text c.in_ok-text.ensures.text,
      c.in_ok-repeats.ensures.repeats,
      subst (λ (told : List ℕ). IsPrintedIn told (asides_of draft content.unread) repeats (ends_as c.args.format draft content.grammar) locate file text printed) c.in_ok-told.ensures.text
          (subst (λ (ends : List ℕ). IsPrintedIn told (asides_of draft content.unread) repeats ends locate file text printed) (c.as_slice.ensures ∙ c.in_ok-ends.ensures.ends)
          (subst (λ (unread : List Unread). IsPrintedIn told (asides_of draft unread) repeats ends locate file text printed) c.as_slice-unread.ensures is)),
    )) c.print_front.ensures.printed
