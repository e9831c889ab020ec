use Rattle.std.proofs.Common.{◌≡◌, ℕ, List, true, false, subst, get_or}
use Rattle.std.specs.Prelude.{◌↔◌, Contains}
use Rattle.abnf_names.proofs.SearchLaws.{marked_iff}
use Rattle.abnf_names.proofs.reach.Found.into_marks.Goals as goal

pub returns-clause-each : goal.returns-clause-each
returns-clause-each c = λ place.
    subst (λ (f : ℕ × List ℕ). (get_or c.self.inside.marks.items place false ≡ true) ↔ Contains f.1 place) c.self.view_is
    (marked_iff c.self.inside.marks.items c.self.inside.places c.self.invariant place)
