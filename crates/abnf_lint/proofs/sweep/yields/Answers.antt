use Rattle.std.proofs.Common.{rules}
use Rattle.abnf_lint.proofs.sweep.yields.Goals as goal

pub returns-in-Span : goal.returns-in-Span
returns-in-Span = search rules depth 3

pub returns-in-Seq : goal.returns-in-Seq
returns-in-Seq = search rules depth 3

pub returns-in-Alt : goal.returns-in-Alt
returns-in-Alt = search rules depth 3

pub returns-in-None : goal.returns-in-None
returns-in-None = search rules depth 3

pub returns-in-Opaque : goal.returns-in-Opaque
returns-in-Opaque = search rules depth 3
