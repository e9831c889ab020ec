-- The trees that are read from the nodes of some trees are those trees.
use Rattle.std.proofs.Common.{◌≡◌, ℕ, zero, suc, ◌+◌, ◌≤◌, List, ◌++◌, length, Some, refl, ap, ◌∙◌, arith, length-append}
use Rattle.std.specs.Prelude.{slice_get}
use Rattle.abnf_parts.specs.declared.node.Node.{Node}
use Rattle.abnf_parts.specs.Part.{Part, Parts, quoted, series, span, seq, alt, rep, ref, opaque, end, next, subparts, all_subparts, numbers}
use Rattle.abnf_parts.specs.Nodes.{IsNode, node_tree, all_below, tree_at}

module _ (nodes : List Node) where
  -- node n is this part
  abbrev Is : ℕ → Part → Type 0
  Is n p = (node : Node) × (slice_get nodes n ≡ Some node) × IsNode n p node

  -- and the nodes from n on are the parts of the tree
  abbrev mutual
    pub TreeIs : ℕ → Part → Type 0
    TreeIs n (quoted text exact) = Is n (quoted text exact)
    TreeIs n (series characters) = Is n (series characters)
    TreeIs n (span low high) = Is n (span low high)
    TreeIs n (seq ps) = Is n (seq ps) × TreesAre (suc n) ps
    TreeIs n (alt ps) = Is n (alt ps) × TreesAre (suc n) ps
    TreeIs n (rep least most p) = Is n (rep least most p) × TreeIs (suc n) p
    TreeIs n (ref name rule) = Is n (ref name rule)
    TreeIs n opaque = Is n opaque

    pub TreesAre : ℕ → Parts → Type 0
    TreesAre n end = Unit {0}
    TreesAre n (next p ps) = TreeIs n p × TreesAre (n + length (subparts p)) ps

  read : (deep n : ℕ) (p : Part) (node : Node) → slice_get nodes n ≡ Some node → node_tree (tree_at nodes deep) (Some node) ≡ p → tree_at nodes (suc deep) n ≡ p
  read deep n p node is h = ap (node_tree (tree_at nodes deep)) is ∙ h

  mutual
    pub tree_back : (deep n : ℕ) (p : Part) → TreeIs n p → length (subparts p) ≤ deep → tree_at nodes deep n ≡ p
    tree_back zero n (quoted text exact) h le = absurd (omega arith)
    tree_back zero n (series characters) h le = absurd (omega arith)
    tree_back zero n (span low high) h le = absurd (omega arith)
    tree_back zero n (seq ps) h le = absurd (omega arith)
    tree_back zero n (alt ps) h le = absurd (omega arith)
    tree_back zero n (rep least most p) h le = absurd (omega arith)
    tree_back zero n (ref name rule) h le = absurd (omega arith)
    tree_back zero n opaque h le = absurd (omega arith)
    tree_back (suc deep) n (quoted text exact) h le = read deep n _ h.0 h.1 (ap (λ x. node_tree (tree_at nodes deep) (Some x)) h.2.1 ∙ ap (λ t. quoted t exact) h.2.2)
    tree_back (suc deep) n (series characters) h le = read deep n _ h.0 h.1 (ap (λ x. node_tree (tree_at nodes deep) (Some x)) h.2)
    tree_back (suc deep) n (span low high) h le = read deep n _ h.0 h.1 (ap (λ x. node_tree (tree_at nodes deep) (Some x)) h.2)
    tree_back (suc deep) n (seq ps) h le =
        read deep n _ h.0.0 h.0.1 (ap (λ x. node_tree (tree_at nodes deep) (Some x)) h.0.2 ∙ ap seq (trees_back deep (suc n) ps h.1 (omega arith)))
    tree_back (suc deep) n (alt ps) h le =
        read deep n _ h.0.0 h.0.1 (ap (λ x. node_tree (tree_at nodes deep) (Some x)) h.0.2 ∙ ap alt (trees_back deep (suc n) ps h.1 (omega arith)))
    tree_back (suc deep) n (rep least most p) h le =
        read deep n _ h.0.0 h.0.1 (ap (λ x. node_tree (tree_at nodes deep) (Some x)) h.0.2 ∙ ap (λ q. rep least most q) (tree_back deep (suc n) p h.1 (omega arith)))
    tree_back (suc deep) n (ref name rule) h le = read deep n _ h.0 h.1 (ap (λ x. node_tree (tree_at nodes deep) (Some x)) h.2.1 ∙ ap (λ t. ref t rule) h.2.2)
    tree_back (suc deep) n opaque h le = read deep n _ h.0 h.1 (ap (λ x. node_tree (tree_at nodes deep) (Some x)) h.2)

    trees_back : (deep n : ℕ) (ps : Parts) → TreesAre n ps → length (all_subparts ps) ≤ deep → all_below (tree_at nodes deep) (numbers n ps) ≡ ps
    trees_back deep n end h le = refl
    trees_back deep n (next p ps) h le =
        let len : length (subparts p ++ all_subparts ps) ≡ length (subparts p) + length (all_subparts ps) = length-append (subparts p) (all_subparts ps) in
        let one = tree_back deep n p h.0 (omega arith) in
        let more = trees_back deep (n + length (subparts p)) ps h.1 (omega arith) in
        ap (λ q. next q (all_below (tree_at nodes deep) (numbers (n + length (subparts p)) ps))) one ∙ ap (λ qs. next p qs) more
