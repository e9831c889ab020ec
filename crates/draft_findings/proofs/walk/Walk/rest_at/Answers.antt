use Rattle.std.proofs.Common.{◌≡◌, ◌∙◌, ◌+◌, ◌-◌, ap, arith, drop}
use Rattle.std.specs.Str.{chars}
use Rattle.std.proofs.lemmas.List.{drop-drop}
use Rattle.draft_findings.proofs.walk.Walk.rest_at.Goals as goal

pub returns-then-self-offset : goal.returns-then-self-offset
returns-then-self-offset c =
    let at = c.self.inside.at in
    let whole = chars c.self.inside.whole.now in
    let sum : at + (c.args.offset - at) ≡ c.args.offset = omega (arith, c.if-self-offset.true) in
    c.behind.ensures ∙ (ap (drop (c.args.offset - at)) c.self.invariant ∙ (drop-drop (c.args.offset - at) at whole ∙ (ap (λ k. drop k whole) sum ∙ ap (drop c.args.offset) c.self.view_is)))

pub returns-else-self-offset : goal.returns-else-self-offset
returns-else-self-offset c = c.behind-else-self-offset.ensures ∙ ap (drop c.args.offset) c.self.view_is
