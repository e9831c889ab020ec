use Rattle.findings_text.proofs.ToldLaws.{told_lines}
use Rattle.findings_text.proofs.rules.print_told_rules.Goals as goal

pub returns : goal.returns
returns c = told_lines c.args.told.now c.args.source c.args.file.now c.args.text.now c.in_ok-grammar.grammar c.in_ok-grammar.ensures.text c.in_ok-grammar.ensures.grammar c.told_rules-lines.result c.told_rules-lines.ensures
