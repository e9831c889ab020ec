-- Which blocks have findings of their own, whatever other blocks say.
use Rattle.std.specs.Prelude.{Bool, ◌||◌}
use Rattle.std.specs.List.{list_any}
use Rattle.std.specs.Option.{is_some}
use Rattle.abnf_syntax.specs.Grammar.{kind_of}
use Rattle.abnf_names.specs.Said.{Block}
use Rattle.abnf_names.specs.Shown.{fault_shown}
use Rattle.abnf_lint.specs.Empty.{is_empty_number}

-- The block shows a fault, or has an empty repeat or range: it has a finding whatever other blocks say.
abbrev pub has_own_findings : Block → Bool
has_own_findings block = is_some (fault_shown block.said) || list_any (λ item. is_empty_number (kind_of item) item.token.text.now) block.items
