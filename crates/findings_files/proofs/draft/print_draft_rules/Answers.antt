use Rattle.std.proofs.Common.{List, ℕ, subst}
use Rattle.findings_text.specs.Rules.{ArePrintedRulesFrom}
use Rattle.findings_text.specs.Sources.{position_in_draft}
use Rattle.findings_files.proofs.draft.print_draft_rules.Goals as goal

pub returns-clause-printed : goal.returns-clause-printed
returns-clause-printed c =
    subst (λ (text : List ℕ). ArePrintedRulesFrom (position_in_draft c.args.draft.now c.args.grammar.now text) c.args.file.now text c.in_ok-print_rules_from.field-0)
    c.in_ok-text.ensures.text c.in_ok-print_rules_from.ensures
