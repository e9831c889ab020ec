use Rattle.std.proofs.Common.{ap, subst, sym, ◌∙◌, length}
use Rattle.std.specs.Prelude.{◌==◌, position, string_bytes}
use Rattle.std.specs.Str.{chars}
use Rattle.origins.specs.Origins.{Sourced}
use Rattle.origins.specs.own.Runs.{origin_at, AreRuns, FindsPlace}
use Rattle.origins.proofs.PlaceLaws.{position_here}
use Rattle.origins.proofs.gathered.Gathered.place_of.Goals as goal

pub place_in-requires : goal.place_in-requires
place_in-requires c = subst (λ rs. AreRuns rs c.self.inside.count) (sym c.as_slice.ensures.value) c.self.invariant.runs

pub returns : goal.returns
returns c =
    let text = chars (string_bytes c.self.inside.text) in
    let found : FindsPlace (origin_at c.self.inside.runs.items) c.args.origin (length text) c.place_in.result =
    subst (λ n. FindsPlace (origin_at c.self.inside.runs.items) c.args.origin n c.place_in.result) c.self.invariant.counted (subst (λ rs. FindsPlace (origin_at rs) c.args.origin c.self.inside.count c.place_in.result) c.as_slice.ensures.value c.place_in.ensures) in
    position_here (origin_at c.self.inside.runs.items) text c.args.origin c.place_in.result found
    ∙ ap (position (λ (s : Sourced). s.1 == c.args.origin)) c.self.view_is
