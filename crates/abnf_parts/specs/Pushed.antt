-- Nodes that are pushed in the order of their numbers.
use Rattle.std.specs.Prelude.{◌≡◌, ℕ, suc, List, [], ◌∷◌, ◌++◌, length}
use Rattle.abnf_parts.specs.declared.node.Node.{Node}
use Rattle.abnf_parts.specs.Part.{Part, all_subparts, numbers}
use Rattle.abnf_parts.specs.Nodes.{IsNode}
use Rattle.abnf_parts.specs.Tree.{parts}

-- the nodes from number n on are those of these parts, one for each
abbrev pub AreNodesFrom : ℕ → List Part → List Node → Type 0
AreNodesFrom n [] [] = Unit {0}
AreNodesFrom n (p ∷ ps) (node ∷ nodes) = IsNode n p node × AreNodesFrom (suc n) ps nodes
AreNodesFrom n _ _ = ⊥

-- Nodes were pushed behind the old ones: those of these parts, one for each, in their order.
pub record AddsNodes (ps : List Part) (old new : List Node) : Type 0 where
  pub more : List Node
  pub joined : new ≡ old ++ more
  pub are : AreNodesFrom (length old) ps more

-- The nodes of trees that stand side by side were pushed behind the old ones, and the numbers of their roots were added.
pub record AddsTrees (ps : List Part) (old new : List Node) (before after : List ℕ) : Type 0 where
  pub nodes : AddsNodes (all_subparts (parts ps)) old new
  pub numbers_are : after ≡ before ++ numbers (length old) (parts ps)
