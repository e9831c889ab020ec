-- The numbered nodes of a grammar's trees.
use Rattle.std.specs.Prelude.{◌≡◌, ℕ, zero, suc, ◌<◌, map, Option, Some, None, List, [], ◌∷◌, length, slice_get}
use Rattle.std.specs.Borrow.{Bor}
use Rattle.abnf_token.specs.declared.folded.Folded.{Folded}
use Rattle.abnf_parts.specs.declared.node.Node.{Node}
use Rattle.abnf_parts.specs.declared.node.Node.TheVariants.{Quoted, Series, Span, Seq, Alt, Rep, Ref, Opaque}
use Rattle.abnf_parts.specs.Part.{Part, Parts, quoted, series, span, seq, alt, rep, ref, opaque, end, next, parts_of, root_number, numbers}

-- the node is part n, which has the numbers of the parts right below it
abbrev pub IsNode : ℕ → Part → Node → Type 0
IsNode n (quoted text exact) node = (t : Bor (List ℕ)) × (node ≡ Quoted t exact) × (t.now ≡ text)
IsNode n (series characters) node = node ≡ Series characters
IsNode n (span low high) node = node ≡ Span low high
IsNode n (seq ps) node = node ≡ Seq (numbers (suc n) ps)
IsNode n (alt ps) node = node ≡ Alt (numbers (suc n) ps)
IsNode n (rep least most p) node = node ≡ Rep least most (suc n)
IsNode n (ref name rule) node = (t : Folded) × (node ≡ Ref t rule) × (t.0.now ≡ name)
IsNode n opaque node = node ≡ Opaque

-- each reference is to one of so many rules, or to none
abbrev pub RefersWithin : ℕ → Part → Type 0
RefersWithin count (ref name (Some r)) = r < count
RefersWithin count _ = Unit {0}

-- The nodes are the parts of the trees in pre-order, tree after tree, and each reference is to one of these rules or to none.
pub record AreNodes (trees : List Part) (nodes : List Node) : Type 0 where
  pub one_each : length nodes ≡ length (parts_of trees)
  pub each : (n : ℕ) (p : Part) → slice_get (parts_of trees) n ≡ Some p → (node : Node) × (slice_get nodes n ≡ Some node) × IsNode n p node × RefersWithin (length trees) p

-- the roots are the numbers of the trees
pub record AreRoots (trees : List Part) (roots : List ℕ) : Type 0 where
  pub one_each : length roots ≡ length trees
  pub each : (r n : ℕ) → slice_get roots r ≡ Some n → n ≡ root_number trees r

-- the trees of the nodes with these numbers, side by side
abbrev pub all_below : (ℕ → Part) → List ℕ → Parts
all_below below [] = end
all_below below (n ∷ ns) = next (below n) (all_below below ns)

-- the tree of a node, read from the nodes
abbrev pub node_tree : (ℕ → Part) → Option Node → Part
node_tree below None = opaque
node_tree below (Some (Quoted text exact)) = quoted text.now exact
node_tree below (Some (Series characters)) = series characters
node_tree below (Some (Span low high)) = span low high
node_tree below (Some (Seq ns)) = seq (all_below below ns)
node_tree below (Some (Alt ns)) = alt (all_below below ns)
node_tree below (Some (Rep least most n)) = rep least most (below n)
node_tree below (Some (Ref name rule)) = ref name.0.now rule
node_tree below (Some Opaque) = opaque

-- the tree at a node, at most so deep
abbrev pub tree_at : List Node → ℕ → ℕ → Part
tree_at nodes zero n = opaque
tree_at nodes (suc deep) n = node_tree (tree_at nodes deep) (slice_get nodes n)

-- the trees of these roots, read from the nodes
abbrev pub trees_at : List Node → List ℕ → List Part
trees_at nodes roots = map (tree_at nodes (length nodes)) roots

-- nodes and roots are those of some trees
abbrev pub AreNumbered : List Node → List ℕ → Type 0
AreNumbered nodes roots = AreNodes (trees_at nodes roots) nodes × AreRoots (trees_at nodes roots) roots
