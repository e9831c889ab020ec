use Rattle.std.proofs.Common.{◌∙◌, ap, sym}
use Rattle.std.specs.List.{list_any}
use Rattle.abnf_lint.specs.Marks.{mark_at}
use Rattle.findings_index.specs.own.Ways.{says}
use Rattle.findings_index.proofs.WayLaws.{several_lead}
use Rattle.findings_index.proofs.sweep.says.Goals as goal

pub returns-in-Leading : goal.returns-in-Leading
returns-in-Leading c = λ number parts are.
    let marks = mark_at c.args.marks.now in
    ap (λ way. list_any (says way (λ name. marks (number name))) parts) c.in-Leading.is
    ∙ (several_lead marks number c.args.words.now parts are ∙ sym c.one_leads.ensures)
