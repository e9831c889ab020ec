use Rattle.std.proofs.Common.{map}
use Rattle.abnf_token.specs.Folded.{lowercase}
use Rattle.abnf_parts.specs.Names.{names_beside}
use Rattle.abnf_parts.proofs.NeededLaws.{needed_is}
use Rattle.abnf_parts.proofs.core_rule.is_needed.Goals as goal

pub returns : goal.returns
returns c = needed_is c.args.core (names_beside c.args.defined.now c.args.stated.now) (map (λ user. lowercase user.now) c.users.result.now) c.is_wanted.result c.users.ensures c.is_wanted.ensures
