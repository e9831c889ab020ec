use Rattle.std.proofs.Common.{List, ℕ, subst}
use Rattle.joined_grammars.specs.Joined.{IsJoined}
use Rattle.findings_text.specs.Sources.{position_in_draft}
use Rattle.findings_text.specs.Told.{ArePrintedRulesIn}
use Rattle.findings_files.proofs.known.joined_rules.Goals as goal

pub returns-clause-printed : goal.returns-clause-printed
returns-clause-printed c =
    let text = c.in_ok-text.text in (
      text,
      subst (λ (told : List ℕ). IsJoined told c.args.others.now text) c.in_ok-told.ensures.text c.in_ok-text.ensures.text,
      subst (λ (told : List ℕ). ArePrintedRulesIn told (position_in_draft c.args.draft.now c.args.grammar.now text) c.args.file.now text c.in_ok-print_told_rules.field-0) c.in_ok-told.ensures.text c.in_ok-print_told_rules.ensures,
    )
