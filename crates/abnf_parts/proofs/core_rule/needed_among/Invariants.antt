use Rattle.std.proofs.Common.{◌≡◌, ◌++◌, map, drop}
use Rattle.std.specs.Prelude.{filter}
use Rattle.abnf_parts.specs.Core.{is_needed}
use Rattle.abnf_parts.specs.Names.{names_beside}
use Rattle.abnf_parts.specs.CoreTable.{core_of}
use Rattle.abnf_parts.proofs.core_rule.needed_among.Given as goal

-- what is left gives the rules that are left
abbrev pub invariant-loop-core : goal.invariant-loop-core
invariant-loop-core l = filter (is_needed (names_beside l.defined l.stated)) (map core_of l.rules) ≡ map core_of l.needed ++ filter (is_needed (names_beside l.defined l.stated)) (map core_of (drop l.core-index l.rules))
