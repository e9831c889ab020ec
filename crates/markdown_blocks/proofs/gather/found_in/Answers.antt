use Rattle.std.proofs.Common.{length, ap, arith}
use Rattle.std.specs.Str.{chars}
use Rattle.origins.proofs.RunLaws.{string_small}
use Rattle.markdown_blocks.proofs.gather.found_in.Goals as goal

pub gather-requires-clause-small : goal.gather-requires-clause-small
gather-requires-clause-small c = omega (arith, string_small c.in_ok-text.text, ap (λ t. length (chars t)) c.as_str.ensures.value)
