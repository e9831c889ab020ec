use Rattle.std.proofs.Common.{◌≡◌, map, drop}
use Rattle.std.specs.List.{list_any}
use Rattle.std.specs.Str.{bytes_eq}
use Rattle.abnf_parts.specs.Core.{core_name}
use Rattle.abnf_parts.specs.CoreTable.{core_of}
use Rattle.abnf_parts.specs.Names.{folded_text}
use Rattle.abnf_parts.proofs.core_rule.has_name.Given as goal

-- what is left decides
abbrev pub invariant-loop-core : goal.invariant-loop-core
invariant-loop-core l =
    list_any (λ core. bytes_eq (core_name core) (folded_text l.name)) (map core_of l.rules) ≡ list_any (λ core. bytes_eq (core_name core) (folded_text l.name)) (map core_of (drop l.core-index l.rules))
