use Rattle.std.proofs.Common.{◌≡◌, ℕ, ◌∙◌, None, ap, sym, subst, arith}
use Rattle.std.specs.List.{last_or}
use Rattle.abnf_token.specs.Marks.{AreMarks}
use Rattle.abnf_syntax.specs.own.Ends.{AreSeen}
use Rattle.abnf_syntax.proofs.EndLaws.{none_seen, none_more, last_found}
use Rattle.abnf_syntax.proofs.ends.last_of.Goals as goal

pub loop-at-init : goal.loop-at-init
loop-at-init c = record { reached = c.requires; none = none_seen c.args.sheet.now c.args.end }

pub last_in-last-requires : goal.last_in-last-requires
last_in-last-requires c = subst (λ line. AreMarks line c.row.result.marks.now) (sym c.row.ensures.text) c.row.ensures.marks

pub returns-then-is_some : goal.returns-then-is_some
returns-then-is_some c =
    last_found c.args.sheet.now c.args.first c.loop-at.at c.args.end c.row.result.text.now c.row.result.marks.now c.last_in-last.result
    (record { some = c.loop-at-test.true; within = c.loop-at.auto.at; line_is = c.row.ensures.text; marks_of = c.row.ensures.marks; last_is = c.last_in-last.ensures; rest = c.loop-at.invariant.none })
    (sym c.is_some.ensures ∙ c.if-is_some.true)

pub loop-at-preserved : goal.loop-at-preserved
loop-at-preserved c = record {
  reached = omega (arith, c.loop-at-test.true);
  none = none_more c.args.sheet.now c.args.first c.loop-at.at c.args.end c.row.result.text.now c.row.result.marks.now c.last_in-last.result
      (record { some = c.loop-at-test.true; within = c.loop-at.auto.at; line_is = c.row.ensures.text; marks_of = c.row.ensures.marks; last_is = c.last_in-last.ensures; rest = c.loop-at.invariant.none })
      (sym c.is_some.ensures ∙ c.if-is_some.false);
}

pub returns : goal.returns
returns c = λ seen are.
    let same : c.args.first ≡ c.loop-at.at = omega (arith, c.loop-at.invariant.reached, c.loop-at-test.false) in
    sym (ap (last_or None) (c.loop-at.invariant.none seen (subst (λ (n : ℕ). AreSeen c.args.sheet.now n c.args.end seen) same are)))
