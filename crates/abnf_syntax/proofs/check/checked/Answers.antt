use Rattle.std.proofs.Common.{◌≡◌, ◌∙◌, false, [], ◌∷◌, sym, subst}
use Rattle.std.specs.Prelude.{All}
use Rattle.std.proofs.lemmas.List.Elements.{All-tail}
use Rattle.abnf_syntax.specs.declared.item.Item.{Item}
use Rattle.abnf_syntax.specs.Kinds.{opens}
use Rattle.abnf_syntax.specs.Grammar.{kind_of}
use Rattle.abnf_syntax.specs.own.Check.{Shows, first_fault}
use Rattle.abnf_syntax.proofs.CheckLaws.{err_parse, start_fault, parse_bare}
use Rattle.abnf_syntax.proofs.check.checked.Goals as goal

pub returns-clause-shows : goal.returns-clause-shows
returns-clause-shows c =
    let heading = c.in_ok-heading.heading in
    let same = err_parse c.args.items.now heading.head heading.defined heading.body.now c.in_ok-heading.ensures.ok.0 in
    subst (Shows c.check_body.result) (sym same) c.check_body.ensures.shows

pub returns-clause-early : goal.returns-clause-early
returns-clause-early c fault e =
    let heading = c.in_ok-heading.heading in
    c.check_body.ensures.shown fault (sym (start_fault heading.defined heading.body.now) ∙ sym c.in_ok-heading.ensures.ok.1 ∙ e)

pub returns-clause-bare : goal.returns-clause-bare
returns-clause-bare c all =
    let heading = c.in_ok-heading.heading in
    let Bare : Item → Type 0 = λ item. opens (kind_of item) ≡ false in
    let whole = subst (All Bare) c.in_ok-heading.ensures.split all in
    let body = All-tail Bare heading.defined heading.body.now (All-tail Bare heading.head (heading.defined ∷ heading.body.now) whole) in
    let same = err_parse c.args.items.now heading.head heading.defined heading.body.now c.in_ok-heading.ensures.ok.0 in
    parse_bare c.args.items.now (first_fault heading.defined [] heading.body.now) same c.check_body.result (c.check_body.ensures.bare body)
