use Rattle.std.proofs.Common.{ap}
use Rattle.abnf_names.specs.Rules.{Grammar}
use Rattle.abnf_names.proofs.SpotLaws.{told}
use Rattle.abnf_names.proofs.grammar.Grammar.name_at.Goals as goal

pub returns-in-Some : goal.returns-in-Some
returns-in-Some c =
    told c.args.self.now.text c.args.self.now.places c.self.inside.source.now c.self.inside.spots c.as_slice.result.now c.place_at-at.result c.args.offset c.found_at.result _
    (ap (λ (g : Grammar). g.text) c.self.view_is) (ap (λ (g : Grammar). g.places) c.self.view_is) c.as_slice.ensures c.place_at-at.ensures c.found_at.ensures c.in-Some.is

pub returns-in-None : goal.returns-in-None
returns-in-None c =
    told c.args.self.now.text c.args.self.now.places c.self.inside.source.now c.self.inside.spots c.as_slice.result.now c.place_at-at.result c.args.offset c.found_at.result _
    (ap (λ (g : Grammar). g.text) c.self.view_is) (ap (λ (g : Grammar). g.places) c.self.view_is) c.as_slice.ensures c.place_at-at.ensures c.found_at.ensures c.in-None.is
