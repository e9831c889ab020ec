-- Nodes of a part that were pushed before those of what stands in its brackets.
use Rattle.std.specs.Prelude.{◌≡◌, Option, Some, None, List}
use Rattle.std.specs.Borrow.{Bor}
use Rattle.abnf_syntax.specs.Grammar.{Alternation}
use Rattle.abnf_parts.specs.declared.node.Node.{Node}
use Rattle.abnf_parts.specs.Part.{Part, subparts}
use Rattle.abnf_parts.specs.Pushed.{AddsNodes}

-- the nodes of what stands in the brackets were pushed, where there are brackets
abbrev pub AddsInside : (Alternation → Part) → Option (Bor Alternation) → List Node → List Node → Type 0
AddsInside tree None mid new = new ≡ mid
AddsInside tree (Some inside) mid new = AddsNodes (subparts (tree inside.now)) mid new

-- Whatever tree stands for an alternation in brackets: once its nodes are pushed too, all together are those of the part.
abbrev pub Begins : ((Alternation → Part) → Part) → Option (Bor Alternation) → List Node → List Node → Type 0
Begins part inside old mid = (tree : Alternation → Part) (new : List Node) → AddsInside tree inside mid new → AddsNodes (subparts (part tree)) old new
