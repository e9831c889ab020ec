use Rattle.std.proofs.Common.{arith}
use Rattle.abnf_token.proofs.Closing.{no_close_drop}
use Rattle.abnf_token.proofs.scan.TokenIterIterator.next.Goals as goal

pub invariant_of-self : goal.invariant_of-self
invariant_of-self c = (
  omega (arith, c.self.invariant.0, c.split_at.ensures.back_len),
  λ e. rw c.split_at.ensures.back (no_close_drop c.scan-kind.result.1 c.self.inside.rest.now (c.may_close_after-self-inside.ensures e)),
)
