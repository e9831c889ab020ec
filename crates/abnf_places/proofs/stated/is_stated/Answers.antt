use Rattle.std.proofs.Common.{sym, ap, subst, ◌∙◌}
use Rattle.std.specs.List.{list_any}
use Rattle.abnf_token.specs.Marks.{AreMarks}
use Rattle.abnf_parts.specs.Names.{folded_text}
use Rattle.abnf_places.specs.own.Stated.{is_called_at}
use Rattle.abnf_places.proofs.Marked.{none_called, nowhere_more}
use Rattle.abnf_places.proofs.stated.is_stated.Goals as goal

pub stands_in-requires : goal.stands_in-requires
stands_in-requires c = subst (λ line. AreMarks line c.row.result.marks.now) (sym c.row.ensures.text) c.row.ensures.marks

pub loop-at-preserved : goal.loop-at-preserved
loop-at-preserved c =
    nowhere_more c.args.sheet.now (folded_text c.args.name) c.args.first c.loop-at.at c.loop-at.invariant
    (none_called (folded_text c.args.name) _ c.row.result.marks.now c.loop-at.at c.row.ensures.marks
    (ap (λ line. list_any (is_called_at (folded_text c.args.name) line) c.row.result.marks.now) (sym c.row.ensures.text) ∙ (sym c.stands_in.ensures ∙ c.if-stands_in.false)))
