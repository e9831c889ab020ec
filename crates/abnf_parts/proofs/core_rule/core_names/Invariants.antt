use Rattle.std.proofs.Common.{◌≡◌, map, drop, []}
use Rattle.std.specs.Prelude.{fold}
use Rattle.abnf_parts.specs.Core.{core_name}
use Rattle.abnf_parts.specs.Names.{with_name}
use Rattle.abnf_parts.specs.CoreTable.{core_of}
use Rattle.abnf_parts.proofs.core_rule.core_names.Given as goal

-- what is left is added
abbrev pub invariant-loop-core : goal.invariant-loop-core
invariant-loop-core l =
    fold with_name [] (map (λ core. core_name (core_of core)) l.needed) ≡ fold with_name l.names (map (λ core. core_name (core_of core)) (drop l.core-index l.needed))
