use Rattle.std.proofs.Common.{rules}
use Rattle.abnf_least.proofs.walk.write.Goals as goal

pub returns-in_ok-push-in-Span : goal.returns-in_ok-push-in-Span
returns-in_ok-push-in-Span = search rules depth 2
