use Rattle.abnf_lint.proofs.Ascends.{found_rows}
use Rattle.abnf_lint.proofs.Whole.{whole}
use Rattle.abnf_lint.proofs.findings_of.findings_marked.Goals as goal

pub returns : goal.returns
returns c =
    found_rows c.args.grammar.now.text c.in_ok-found-2.found
    (whole c.args.grammar.now c.sections.result.now c.sections.ensures c.args.marks.now c.in_ok-found.found c.in_ok-found-2.found c.requires c.in_ok-found.ensures c.in_ok-found-2.ensures)
