use Rattle.std.proofs.Common.{◌≡◌, ◌++◌, drop}
use Rattle.ls_answers.specs.InDrafts.{outward_tokens}
use Rattle.ls_answers.proofs.draft_tokens.outward_tokens.Given as goal

abbrev pub invariant-loop-token : goal.invariant-loop-token
invariant-loop-token l = outward_tokens l.places l.tokens ≡ l.carried ++ outward_tokens l.places (drop l.token-index l.tokens)
