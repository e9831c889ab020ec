-- Nodes that were pushed for trees give these trees back.
use Rattle.std.proofs.Common.{◌≡◌, ◌≤◌, ◌+◌, ℕ, zero, suc, List, [], ◌∷◌, ◌++◌, map, take, length, refl, sym, ap, subst, ◌∙◌, append_assoc, length-append, arith}
use Rattle.std.specs.Prelude.{slice_get, Some}
use Rattle.std.specs.List.{AllByRecursion}
use Rattle.abnf_parts.specs.declared.node.Node.{Node}
use Rattle.abnf_parts.proofs.Closed.{all_at}
use Rattle.abnf_parts.specs.Part.{Part, Parts, quoted, series, span, seq, alt, rep, ref, opaque, end, next, subparts, all_subparts, parts_of, root_number, numbers}
use Rattle.abnf_parts.specs.Tree.{parts}
use Rattle.abnf_parts.specs.Nodes.{IsNode, tree_at, trees_at, AreNodes, AreRoots, AreNumbered, RefersWithin}
use Rattle.abnf_parts.specs.Pushed.{AreNodesFrom, AddsTrees}
use Rattle.abnf_parts.proofs.Pushing.{length_are}
use Rattle.abnf_parts.proofs.Numbered.{TreeIs, TreesAre, tree_back}

pub get_behind : {X : Type 0} (front rest : List X) (x : X) → slice_get (front ++ x ∷ rest) (length front) ≡ Some x
get_behind [] rest x = refl
get_behind (a ∷ front) rest x = get_behind front rest x

module _ (nodes : List Node) where
  abbrev AllAre : ℕ → List Part → Type 0
  AllAre n [] = Unit {0}
  AllAre n (p ∷ ps) = ((node : Node) × (slice_get nodes n ≡ Some node) × IsNode n p node) × AllAre (suc n) ps

  all_are : (ps : List Part) (front rest : List Node) (n : ℕ) → n ≡ length front → nodes ≡ front ++ rest → AreNodesFrom n ps rest → AllAre n ps
  all_are [] front rest n l e h = tt
  all_are (p ∷ ps) front [] n l e h = absurd h
  all_are (p ∷ ps) front (x ∷ rest) n l e h = (
    (x, ap (λ all. slice_get all n) e ∙ (ap (slice_get (front ++ x ∷ rest)) l ∙ get_behind front rest x), h.0),
    all_are ps (front ++ x ∷ []) rest (suc n) (ap suc l ∙ (let one : suc (length front) ≡ length front + 1 = omega arith in one ∙ sym (length-append front (x ∷ [])))) (e ∙ sym (append_assoc front (x ∷ []) rest)) h.1,
  )

  all_cut : (n : ℕ) (ps qs : List Part) → AllAre n (ps ++ qs) → AllAre n ps × AllAre (n + length ps) qs
  all_cut n [] qs h = (tt, subst (λ k. AllAre k qs) (let e : n ≡ n + 0 = omega arith in e) h)
  all_cut n (p ∷ ps) qs h =
      let cut = all_cut (suc n) ps qs h.1 in
      ((h.0, cut.0), subst (λ k. AllAre k qs) (let e : suc n + length ps ≡ n + suc (length ps) = omega arith in e) cut.1)

  mutual
    tree_is : (n : ℕ) (p : Part) → AllAre n (subparts p) → TreeIs nodes n p
    tree_is n (quoted text exact) h = h.0
    tree_is n (series characters) h = h.0
    tree_is n (span low high) h = h.0
    tree_is n (seq ps) h = (h.0, trees_are (suc n) ps h.1)
    tree_is n (alt ps) h = (h.0, trees_are (suc n) ps h.1)
    tree_is n (rep least most p) h = (h.0, tree_is (suc n) p h.1)
    tree_is n (ref name rule) h = h.0
    tree_is n opaque h = h.0

    trees_are : (n : ℕ) (ps : Parts) → AllAre n (all_subparts ps) → TreesAre nodes n ps
    trees_are n end h = tt
    trees_are n (next p ps) h =
        let cut = all_cut n (subparts p) (all_subparts ps) h in
        (tree_is n p cut.0, trees_are (n + length (subparts p)) ps cut.1)

  maps_back : (deep n : ℕ) (trees : List Part) → TreesAre nodes n (parts trees) → length (all_subparts (parts trees)) ≤ deep → map (tree_at nodes deep) (numbers n (parts trees)) ≡ trees
  maps_back deep n [] h le = refl
  maps_back deep n (p ∷ trees) h le =
      let len : length (subparts p ++ all_subparts (parts trees)) ≡ length (subparts p) + length (all_subparts (parts trees)) = length-append (subparts p) (all_subparts (parts trees)) in
      ap (λ q. q ∷ map (tree_at nodes deep) (numbers (n + length (subparts p)) (parts trees))) (tree_back nodes deep n p h.0 (omega (arith, len, le)))
      ∙ ap (λ rest. p ∷ rest) (maps_back deep (n + length (subparts p)) trees h.1 (omega (arith, len, le)))

all_parts : (trees : List Part) → all_subparts (parts trees) ≡ parts_of trees
all_parts [] = refl
all_parts (p ∷ trees) = ap (λ rest. subparts p ++ rest) (all_parts trees)

node_at : (m : ℕ) (ps : List Part) (nodes : List Node) → AreNodesFrom m ps nodes → (n : ℕ) (p : Part) → slice_get ps n ≡ Some p → (node : Node) × (slice_get nodes n ≡ Some node) × IsNode (m + n) p node
node_at m [] nodes h n p e = absurd (cc e)
node_at m (q ∷ ps) [] h n p e = absurd h
node_at m (q ∷ ps) (x ∷ nodes) h zero p e = (x, refl, subst (λ k. IsNode k p x) (let z : m ≡ m + 0 = omega arith in z) (subst (λ r. IsNode m r x) (cc e) h.0))
node_at m (q ∷ ps) (x ∷ nodes) h (suc n) p e =
    let found = node_at (suc m) ps nodes h.1 n p e in
    (found.0, found.1, subst (λ k. IsNode k p found.0) (let s : suc m + n ≡ m + suc n = omega arith in s) found.2)

root_at : (m : ℕ) (trees : List Part) (r n : ℕ) → slice_get (numbers m (parts trees)) r ≡ Some n → n ≡ m + root_number trees r
root_at m [] r n e = absurd (cc e)
root_at m (p ∷ trees) zero n e = sym (cc e) ∙ (let z : m ≡ m + 0 = omega arith in z)
root_at m (p ∷ trees) (suc r) n e =
    let rest : n ≡ m + length (subparts p) + root_number trees r = root_at (m + length (subparts p)) trees r n e in
    let len : length (subparts p ++ parts_of (take r trees)) ≡ length (subparts p) + root_number trees r = length-append (subparts p) (parts_of (take r trees)) in
    omega (arith, rest, len)

numbers_length : (m : ℕ) (trees : List Part) → length (numbers m (parts trees)) ≡ length trees
numbers_length m [] = refl
numbers_length m (p ∷ trees) = ap suc (numbers_length (m + length (subparts p)) trees)

-- what was pushed is what the type of grammars asks for
pub record IsTied (trees : List Part) (nodes : List Node) (roots : List ℕ) : Type 0 where
  pub back : trees_at nodes roots ≡ trees
  pub numbered : AreNumbered nodes roots

from_zero : (n : ℕ) → 0 + n ≡ n
from_zero n = omega arith

at_zero : (nodes : List Node) (n : ℕ) (p : Part) → (node : Node) × (slice_get nodes n ≡ Some node) × IsNode (0 + n) p node → (node : Node) × (slice_get nodes n ≡ Some node) × IsNode n p node
at_zero nodes n p h = (h.0, h.1, subst (λ k. IsNode k p h.0) (from_zero n) h.2)

pub tied : (trees : List Part) (nodes : List Node) (roots : List ℕ) → AddsTrees trees [] nodes [] roots → AllByRecursion (RefersWithin (length trees)) (parts_of trees) → IsTied trees nodes roots
tied trees nodes roots h closed =
    let are : AreNodesFrom 0 (all_subparts (parts trees)) nodes = subst (λ all. AreNodesFrom 0 (all_subparts (parts trees)) all) (sym h.nodes.joined) h.nodes.are in
    let count : length nodes ≡ length (all_subparts (parts trees)) = length_are 0 (all_subparts (parts trees)) nodes are in
    let back : trees_at nodes roots ≡ trees =
    ap (map (tree_at nodes (length nodes))) h.numbers_are
    ∙ maps_back nodes (length nodes) 0 trees (trees_are nodes 0 (parts trees) (all_are nodes (all_subparts (parts trees)) [] nodes 0 refl refl are)) (omega (arith, count)) in
    record {
      back = back;
      numbered = subst (λ ts. AreNodes ts nodes × AreRoots ts roots) (sym back) (
        record {
          one_each = count ∙ ap length (all_parts trees);
          each = λ n p e.
              let found = at_zero nodes n p (node_at 0 (parts_of trees) nodes (subst (λ ps. AreNodesFrom 0 ps nodes) (all_parts trees) are) n p e) in
              (found.0, found.1, found.2, all_at (RefersWithin (length trees)) (parts_of trees) closed n p e);
        },
        record {
          one_each = ap length h.numbers_are ∙ numbers_length 0 trees;
          each = λ r n e. root_at 0 trees r n (ap (λ ns. slice_get ns r) (sym h.numbers_are) ∙ e) ∙ from_zero (root_number trees r);
        },
      );
    }
