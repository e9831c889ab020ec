use Rattle.std.proofs.Common.{◌∙◌, reverse, sym}
use Rattle.abnf_syntax.proofs.Plain.{plain_shows_none}
use Rattle.abnf_syntax.proofs.check.Checker.item_fault.Goals as goal

pub returns-then-shows_none : goal.returns-then-shows_none
returns-then-shows_none c =
    sym (plain_shows_none c.args.self.now.last c.args.item.now (reverse c.args.self.now.brackets) c.args.rest.now (sym c.shows_none.ensures ∙ c.if-shows_none.true))
