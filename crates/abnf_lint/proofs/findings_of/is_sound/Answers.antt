use Rattle.std.proofs.Common.{rules}
use Rattle.abnf_lint.proofs.findings_of.is_sound.Goals as goal

pub returns-in-Ref : goal.returns-in-Ref
returns-in-Ref = search rules depth 3

pub returns-in-Span : goal.returns-in-Span
returns-in-Span = search rules depth 3
