use Rattle.std.proofs.Common.{sym, ap, subst, ◌∙◌}
use Rattle.abnf_token.specs.Marks.{AreMarks}
use Rattle.abnf_parts.specs.Names.{folded_text}
use Rattle.abnf_places.specs.own.Stated.{is_first_at}
use Rattle.abnf_places.proofs.Marked.{other_first}
use Rattle.abnf_places.proofs.stated.begins_with.Goals as goal

pub stands_first-requires : goal.stands_first-requires
stands_first-requires c = subst (λ line. AreMarks line c.row.result.marks.now) (sym c.row.ensures.text) c.row.ensures.marks

pub returns : goal.returns
returns c = λ other tokens of.
    other_first (folded_text c.args.name) _ c.row.result.marks.now c.args.at c.row.ensures.marks
    (ap (λ line. is_first_at (folded_text c.args.name) line c.row.result.marks.now) (sym c.row.ensures.text) ∙ (sym c.stands_first.ensures ∙ other)) tokens of
