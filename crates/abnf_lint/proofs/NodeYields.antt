-- A node yields something where its part does.
use Rattle.std.proofs.Common.{◌≡◌, ℕ, Bool, Some, None, true, sym, ap, ◌∙◌}
use Rattle.abnf_parts.specs.declared.node.Node.{Node}
use Rattle.abnf_parts.specs.Part.{Part, quoted, series, span, seq, alt, rep, ref, opaque}
use Rattle.abnf_parts.specs.Nodes.{IsNode}
use Rattle.abnf_lint.specs.Marks.{node_yields, part_yields}

module _ (at : ℕ → Bool) (root : ℕ → ℕ) where
  pub node_is : (n : ℕ) (p : Part) (node : Node) → IsNode n p node → node_yields at root node ≡ part_yields at root n p
  node_is n (quoted text exact) node is = ap (node_yields at root) is.1
  node_is n (series characters) node is = ap (node_yields at root) is
  node_is n (span low high) node is = ap (node_yields at root) is
  node_is n (seq ps) node is = ap (node_yields at root) is
  node_is n (alt ps) node is = ap (node_yields at root) is
  node_is n (rep least most p) node is = ap (node_yields at root) is
  node_is n (ref name None) node is = ap (node_yields at root) is.1
  node_is n (ref name (Some r)) node is = ap (node_yields at root) is.1
  node_is n opaque node is = ap (node_yields at root) is

  -- what is said of the node is said of its part
  pub so_part : (n : ℕ) (p : Part) (node : Node) → IsNode n p node → (b : Bool) → b ≡ node_yields at root node → b ≡ true → part_yields at root n p ≡ true
  so_part n p node is b e t = sym (node_is n p node is) ∙ (sym e ∙ t)
