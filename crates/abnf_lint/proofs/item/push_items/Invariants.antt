use Rattle.std.proofs.Common.{◌≡◌, ◌++◌, drop}
use Rattle.abnf_lint.specs.Found.{items_found}
use Rattle.abnf_lint.proofs.item.push_items.Given as goal

-- what is left gives the findings that are left
abbrev pub invariant-loop-item : goal.invariant-loop-item
invariant-loop-item g l =
    l.initial.found ++ items_found (g.N.Names.strange l.names) l.initial.before l.rest ≡ l.found ++ items_found (g.N.Names.strange l.names) l.before (drop l.item-index l.rest)
