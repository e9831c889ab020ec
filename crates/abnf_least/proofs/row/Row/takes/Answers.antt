use Rattle.std.proofs.Common.{◌≡◌, List, subst, sym, ap, ◌∙◌, get_or, length, ◌-◌}
use Rattle.std.proofs.lemmas.Bool.{not-true, not_from_false}
use Rattle.abnf_least.specs.declared.candidate.Candidate.{Candidate}
use Rattle.abnf_least.specs.own.Queue.{ComesLast}
use Rattle.abnf_least.proofs.Rows.{row_ends, row_last}
use Rattle.abnf_least.proofs.row.Row.takes.Goals as goal

pub returns-in-Some : goal.returns-in-Some
returns-in-Some c =
    let row = c.self.inside.candidates.items in
    let last = c.in-Some.last.now in
    let is : last ≡ get_or row (length row - 1) last = c.in-Some.ensures.lookup ∙ ap (λ n. get_or row (n - 1) last) c.self.inside.candidates.ok.0 in (
      λ taken.
          subst (λ (all : List Candidate). ComesLast all c.args.candidate) c.self.view_is
          (row_last row c.args.candidate last c.self.invariant is (sym c.comes_before.ensures ∙ not-true c.comes_before.result taken)),
      λ ends.
          not_from_false c.comes_before.result
          (c.comes_before.ensures ∙ row_ends row c.args.candidate last c.in-Some.ensures.item.3.0 is (subst (λ (all : List Candidate). ComesLast all c.args.candidate) (sym c.self.view_is) ends)),
    )
