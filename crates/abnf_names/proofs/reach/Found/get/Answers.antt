use Rattle.std.proofs.Common.{◌<◌, ◌∙◌, ap, subst}
use Rattle.std.specs.Prelude.{IfSome}
use Rattle.abnf_names.proofs.SearchLaws.{get_within}
use Rattle.abnf_names.proofs.reach.Found.get.Goals as goal

pub returns-clause-place : goal.returns-clause-place
returns-clause-place c =
    subst (λ count. IfSome c.copied.result (λ place. place < count)) (ap (λ f. f.0) c.self.view_is)
    (get_within c.self.inside.marks.items c.self.inside.places c.self.invariant c.copied.result c.args.at (c.copied.ensures ∙ c.get.ensures.value))
