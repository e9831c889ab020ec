use Rattle.std.proofs.Common.{◌≡◌, ◌++◌, drop}
use Rattle.ls_answers.specs.SemanticTokens.{origin, relative}
use Rattle.ls_answers.proofs.semantic_tokens.relative.Given as goal

abbrev pub invariant-loop-token : goal.invariant-loop-token
invariant-loop-token l = relative origin l.tokens ≡ l.numbers.items ++ relative l.before (drop l.token-index l.tokens)
