use Rattle.std.proofs.Common.{◌≡◌, map, drop}
use Rattle.abnf_token.specs.Folded.{lowercase}
use Rattle.abnf_parts.specs.Names.{names_beside}
use Rattle.abnf_parts.specs.CoreTable.{is_core_wanted}
use Rattle.abnf_parts.proofs.core_rule.is_wanted.Given as goal

-- what is left decides
abbrev pub invariant-loop-user : goal.invariant-loop-user
invariant-loop-user l = is_core_wanted (names_beside l.defined l.stated) (map (λ user. lowercase user.now) l.users) ≡ is_core_wanted (names_beside l.defined l.stated) (map (λ user. lowercase user.now) (drop l.user-index l.users))
