use Rattle.std.proofs.Common.{◌∙◌, ap}
use Rattle.std.specs.Prelude.{slice_get}
use Rattle.draft_findings.proofs.WalkLaws.{front_left}
use Rattle.draft_findings.proofs.walk.Walk.char_at.Goals as goal

pub returns-clause-value : goal.returns-clause-value
returns-clause-value c = c.front.ensures ∙ (ap (λ t. slice_get t 0) c.rest_at-rest.ensures ∙ front_left c.args.offset c.args.self.now)
