-- The core rules.
use Rattle.std.proofs.Common.{◌≡◌, ℕ, List, [], ◌∷◌, ◌++◌, refl, sym, subst, length}
use Rattle.std.specs.Prelude.{Option}
use Rattle.abnf_parts.specs.declared.core_rule.Leaf.{Leaf}
use Rattle.abnf_parts.specs.declared.core_rule.Leaf.TheVariants.{Range, One, Text, Rule}
use Rattle.abnf_parts.specs.declared.node.Node.{Node}
use Rattle.abnf_parts.specs.Part.{subparts}
use Rattle.abnf_parts.specs.Nodes.{IsNode}
use Rattle.abnf_parts.specs.Names.{Name}
use Rattle.abnf_parts.specs.Pushed.{AddsNodes}
use Rattle.abnf_parts.specs.CoreTable.{leaf_part}
use Rattle.abnf_parts.proofs.Pushing.{adds_one}

leaf_alone : (number : Name → Option ℕ) (leaf : Leaf) → subparts (leaf_part number leaf) ≡ leaf_part number leaf ∷ []
leaf_alone number (Range low high) = refl
leaf_alone number (One character) = refl
leaf_alone number (Text text) = refl
leaf_alone number (Rule name) = refl

pub leaf_added : (number : Name → Option ℕ) (leaf : Leaf) (node : Node) (old new : List Node) → new ≡ old ++ node ∷ [] → ((n : ℕ) → IsNode n (leaf_part number leaf) node) → AddsNodes (subparts (leaf_part number leaf)) old new
leaf_added number leaf node old new e is =
    subst (λ ps. AddsNodes ps old new) (sym (leaf_alone number leaf)) (adds_one (leaf_part number leaf) node old new e (is (length old)))
