use Rattle.std.proofs.Common.{◌∙◌, List, arith, subst, sym}
use Rattle.abnf_token.specs.Classes.{Text}
use Rattle.abnf_syntax.specs.Blocks.{IsTop}
use Rattle.abnf_syntax.proofs.TopLaws.{seam_begins, seam_where_one_begins}
use Rattle.abnf_syntax.proofs.sheet.Sheet.is_seam.Goals as goal

pub returns-else-at-count-clause-seam : goal.returns-else-at-count-clause-seam
returns-else-at-count-clause-seam c =
    let top = c.self.inside.top in
    let is : IsTop c.args.self.now top.line top.indent = subst (λ (ls : List Text). IsTop ls top.line top.indent) c.self.view_is c.self.invariant.1 in (
      λ begins. seam_where_one_begins c.args.self.now c.args.at c.requires (sym c.begins.ensures ∙ begins),
      λ seam. c.begins.ensures ∙ seam_begins c.args.self.now top.line top.indent c.args.at is seam c.if-at-count.false.0 (omega (arith, c.requires, c.if-at-count.false.1, c.count-count.ensures)),
    )
