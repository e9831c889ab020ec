-- The users of each place, and the search among them, say which rules lead to an opaque part.
use Rattle.std.proofs.Common.{◌≡◌, ◌≤◌, ◌<◌, ◌+◌, ◌-◌, ◌⊎◌, inl, inr, ⊎_elim, ℕ, zero, suc, Bool, false, List, [], ◌∷◌, ◌++◌, map, take, drop, length, get_or, refl, sym, ap, subst, ◌∙◌, arith, length-append, append_assoc}
use Rattle.std.specs.Prelude.{Option, Some, None, fold, slice_get, Contains}
use Rattle.std.proofs.lemmas.Bool.{cases_lt, cases_eq}
use Rattle.std.proofs.lemmas.List.{length-set, length-map, get_or-set_same, get_or-set_other, get_or-map, get_or_append_left, same_lists, take-map, drop-map, take_at, drop_at, map_more}
use Rattle.std.proofs.lemmas.List.Sums.{fold-append}
use Rattle.std.proofs.lemmas.List.Elements.{Contains-append_left, Contains-append_right, Contains-push, Contains-push_cases}
use Rattle.std.proofs.lemmas.Option.{slice_get_within, get_or_from_slice_get, slice_get-get_or, slice_get_read}
use Rattle.abnf_parts.specs.declared.node.Node.{Node}
use Rattle.abnf_parts.specs.Part.{Part, quoted, series, span, seq, alt, rep, ref, opaque, subparts, parts_of, root_number}
use Rattle.abnf_parts.specs.Nodes.{IsNode, AreNodes, AreRoots}
use Rattle.abnf_parts.specs.Reach.{ReachesOpaque, AreReaching}
use Rattle.abnf_names.specs.own.Search.{users_at, LeadsBy, LeadsToLast, AreUsersWithin, AreReachMarks}
use Rattle.abnf_names.specs.own.Users.{place_of_part, place_of_node, LeadsTo, IsRangeOf, nodes_of, with_user, AreUsingRules}
use Rattle.abnf_names.proofs.ReachLaws.{marked, reaches_first, reaches_more}

-- in a list through a function
module _ {X Y : Type 0} (f : X → Y) where
  map_at : (xs : List X) (y : Y) (k : ℕ) → k < length (map f xs) → get_or (map f xs) k y ≡ y → (x : X) × Contains xs x × (f x ≡ y)
  map_at [] y k l e = absurd (omega arith)
  map_at (x ∷ xs) y zero l e = (x, (0, omega arith, refl), e)
  map_at (x ∷ xs) y (suc k) l e = let found = map_at xs y k (omega arith) e in (found.0, (suc found.1.0, omega (arith, found.1.1), found.1.2), found.2)

  map_contains : (xs : List X) (y : Y) → Contains (map f xs) y → (x : X) × Contains xs x × (f x ≡ y)
  map_contains xs y c = map_at xs y c.0 c.1 c.2

  contains_map : (xs : List X) (x : X) → Contains xs x → Contains (map f xs) (f x)
  contains_map xs x c = (c.0, (let len : length (map f xs) ≡ length xs = length-map xs f in omega (arith, len, c.1)), get_or-map f xs c.0 x (f x) c.1 ∙ ap f c.2)

-- one more user
module _ (r : ℕ) where
  length_with_user : (users : List (List ℕ)) (o : Option ℕ) → length (with_user r users o) ≡ length users
  length_with_user users None = refl
  length_with_user users (Some place) = length-set users place (users_at users place ++ r ∷ [])

  length_users : (os : List (Option ℕ)) (users : List (List ℕ)) → length (fold (with_user r) users os) ≡ length users
  length_users [] users = refl
  length_users (o ∷ os) users = length_users os (with_user r users o) ∙ length_with_user users o

  -- the rule was added to the users of these places
  record AddsUser (old new : List (List ℕ)) (os : List (Option ℕ)) : Type 0 where
    only : (place x : ℕ) → Contains (users_at new place) x → Contains (users_at old place) x ⊎ ((x ≡ r) × Contains os (Some place))
    more : (place x : ℕ) → Contains (users_at old place) x → Contains (users_at new place) x
    has : (place : ℕ) → Contains os (Some place) → Contains (users_at new place) r

  at_place : (users : List (List ℕ)) (q : ℕ) → q < length users → users_at (with_user r users (Some q)) q ≡ users_at users q ++ r ∷ []
  at_place users q l = get_or-set_same users q (users_at users q ++ r ∷ []) [] l

  at_other : (users : List (List ℕ)) (q place : ℕ) → (place ≡ q → ⊥) → users_at (with_user r users (Some q)) place ≡ users_at users place
  at_other users q place ne = get_or-set_other users q place (users_at users q ++ r ∷ []) [] ne

  one_user : (users : List (List ℕ)) (o : Option ℕ) → ((q : ℕ) → o ≡ Some q → q < length users) → AddsUser users (with_user r users o) (o ∷ [])
  one_user users None within = record {
    only = λ place x c. inl c;
    more = λ place x c. c;
    has = λ place c. none_only place c;
  }
    where
      none_only : (place : ℕ) → Contains (None ∷ []) (Some place) → Contains (users_at users place) r
      none_only place (zero, l, e) = absurd (cc e)
      none_only place (suc k, l, e) = absurd (omega arith)
  one_user users (Some q) within = record {
    only = λ place x c. ⊎_elim
        (λ (e : place ≡ q). ⊎_elim (λ (o : Contains (users_at users q) x). inl (subst (λ p. Contains (users_at users p) x) (sym e) o)) (λ (s : r ≡ x). inr (sym s, (0, omega arith, ap Some (sym e))))
        (Contains-push_cases (users_at users q) r x (subst (λ xs. Contains xs x) (at_place users q (within q refl)) (subst (λ p. Contains (users_at (with_user r users (Some q)) p) x) e c))))
        (λ (ne : place ≡ q → ⊥). inl (subst (λ xs. Contains xs x) (at_other users q place ne) c))
        (cases_eq place q);
    more = λ place x c. ⊎_elim
        (λ (e : place ≡ q). subst (λ p. Contains (users_at (with_user r users (Some q)) p) x) (sym e)
        (subst (λ xs. Contains xs x) (sym (at_place users q (within q refl))) (Contains-append_left (users_at users q) (r ∷ []) x (subst (λ p. Contains (users_at users p) x) e c))))
        (λ (ne : place ≡ q → ⊥). subst (λ xs. Contains xs x) (sym (at_other users q place ne)) c)
        (cases_eq place q);
    has = λ place c. subst (λ p. Contains (users_at (with_user r users (Some q)) p) r) (some_only place c)
        (subst (λ xs. Contains xs r) (sym (at_place users q (within q refl))) (Contains-push (users_at users q) r));
  }
    where
      some_only : (place : ℕ) → Contains (Some q ∷ []) (Some place) → q ≡ place
      some_only place (zero, l, e) = cc e
      some_only place (suc k, l, e) = absurd (omega arith)

  head_or : (o x : Option ℕ) (os : List (Option ℕ)) → Contains (o ∷ os) x → (o ≡ x) ⊎ Contains os x
  head_or o x os (zero, l, e) = inl e
  head_or o x os (suc k, l, e) = inr (k, omega arith, e)

  tail_of : (o x : Option ℕ) (os : List (Option ℕ)) → Contains os x → Contains (o ∷ os) x
  tail_of o x os c = (suc c.0, omega (arith, c.1), c.2)

  all_users : (os : List (Option ℕ)) (users : List (List ℕ)) → ((q : ℕ) → Contains os (Some q) → q < length users) → AddsUser users (fold (with_user r) users os) os
  all_users [] users within = record {
    only = λ place x c. inl c;
    more = λ place x c. c;
    has = λ place c. absurd (omega (arith, c.1));
  }
  all_users (o ∷ os) users within =
      let one : AddsUser users (with_user r users o) (o ∷ []) = one_user users o (λ q e. within q (0, omega arith, e)) in
      let rest : AddsUser (with_user r users o) (fold (with_user r) (with_user r users o) os) os =
      all_users os (with_user r users o) (λ q c. subst (λ n. q < n) (sym (length_with_user users o)) (within q (tail_of o (Some q) os c))) in
      record {
        only = λ place x c. ⊎_elim
            (λ (m : Contains (users_at (with_user r users o) place) x). ⊎_elim (λ (u : Contains (users_at users place) x). inl u)
            (λ (h : (x ≡ r) × Contains (o ∷ []) (Some place)). inr (h.0, Contains-append_left (o ∷ []) os (Some place) h.1)) (one.only place x m))
            (λ (h : (x ≡ r) × Contains os (Some place)). inr (h.0, tail_of o (Some place) os h.1)) (rest.only place x c);
        more = λ place x c. rest.more place x (one.more place x c);
        has = λ place c. ⊎_elim (λ (e : o ≡ Some place). rest.more place r (one.has place (0, omega arith, e))) (λ (t : Contains os (Some place)). rest.has place t) (head_or o (Some place) os c);
      }

pub users_kept : (r : ℕ) (os : List (Option ℕ)) (old new : List (List ℕ)) → new ≡ fold (with_user r) old os → length new ≡ length old
users_kept r os old new e = ap length e ∙ length_users r os old

pub place_in : (last : ℕ) (nodes : List Node) (i : ℕ) (node : Node) (place : ℕ) → i < length nodes → node ≡ get_or nodes i node → place_of_node last node ≡ Some place →
    Contains (map (place_of_node last) nodes) (Some place)
place_in last nodes i node place l is e =
    subst (λ o. Contains (map (place_of_node last) nodes) o) e (contains_map (place_of_node last) nodes node (i, l, sym is))

pub users_next : (r last : ℕ) (nodes : List Node) (i : ℕ) (node : Node) (old mid new : List (List ℕ)) → i < length nodes → node ≡ get_or nodes i node →
    mid ≡ fold (with_user r) old (map (place_of_node last) (take i nodes)) → new ≡ with_user r mid (place_of_node last node) → new ≡ fold (with_user r) old (map (place_of_node last) (take (i + 1) nodes))
users_next r last nodes i node old mid new l is h e =
    let f = place_of_node last in
    e ∙ (ap (λ users. with_user r users (f node)) h
    ∙ (sym (fold-append (with_user r) old (map f (take i nodes)) (f node ∷ []))
    ∙ ap (fold (with_user r) old) (ap (λ n. map f (take i nodes) ++ f n ∷ []) is ∙ sym (map_more f nodes i node l))))

-- what stands in a rule's tree
leads_by : (last : ℕ) (ps : List Part) (q : ℕ) (p : Part) → Contains ps p → place_of_part last p ≡ Some q → ((q ≡ last) × Contains ps opaque) ⊎ ((name : List ℕ) × Contains ps (ref name (Some q)))
leads_by last ps q (quoted text exact) c e = absurd (cc e)
leads_by last ps q (series characters) c e = absurd (cc e)
leads_by last ps q (span low high) c e = absurd (cc e)
leads_by last ps q (seq parts) c e = absurd (cc e)
leads_by last ps q (alt parts) c e = absurd (cc e)
leads_by last ps q (rep least most body) c e = absurd (cc e)
leads_by last ps q (ref name rule) c e = inr (name, subst (λ o. Contains ps (ref name o)) e c)
leads_by last ps q opaque c e = inl (cc e, c)

leads_cases : (last : ℕ) (ps : List Part) (q : ℕ) → Contains (map (place_of_part last) ps) (Some q) → ((q ≡ last) × Contains ps opaque) ⊎ ((name : List ℕ) × Contains ps (ref name (Some q)))
leads_cases last ps q c = let found = map_contains (place_of_part last) ps (Some q) c in leads_by last ps q found.0 found.1 found.2

module _ (trees : List Part) (nodes : List Node) (are : AreNodes trees nodes) where
  pub in_parts : (rules : List Part) (r : ℕ) (root p : Part) → slice_get rules r ≡ Some root → Contains (subparts root) p → Contains (parts_of rules) p
  in_parts [] r root p e c = absurd (cc e)
  in_parts (t ∷ rules) zero root p e c = Contains-append_left (subparts t) (parts_of rules) p (subst (λ q. Contains (subparts q) p) (let same : root ≡ t = cc in same) c)
  in_parts (t ∷ rules) (suc r) root p e c = Contains-append_right (subparts t) (parts_of rules) p (in_parts rules r root p e c)

  refers : (r : ℕ) (root : Part) (name : List ℕ) (q : ℕ) → slice_get trees r ≡ Some root → Contains (subparts root) (ref name (Some q)) → q < length trees
  refers r root name q e c =
      let at = in_parts trees r root (ref name (Some q)) e c in
      (are.each at.0 (ref name (Some q)) (slice_get-get_or (parts_of trees) at.0 (ref name (Some q)) at.1 ∙ ap Some at.2)).3

  leads_within : (r q : ℕ) → LeadsTo trees r q → q < suc (length trees)
  leads_within r q h = ⊎_elim
      (λ (o : (q ≡ length trees) × Contains (subparts h.0) opaque). omega (arith, o.0))
      (λ (u : (name : List ℕ) × Contains (subparts h.0) (ref name (Some q))). let l : q < length trees = refers r h.0 u.0 q h.1 u.1 in omega (arith, l))
      (leads_cases (length trees) (subparts h.0) q h.2)

  -- the places of the nodes are those of the parts
  node_place : (last n : ℕ) (p : Part) (node : Node) → IsNode n p node → place_of_node last node ≡ place_of_part last p
  node_place last n (quoted text exact) node h = ap (place_of_node last) h.1
  node_place last n (series characters) node h = ap (place_of_node last) h
  node_place last n (span low high) node h = ap (place_of_node last) h
  node_place last n (seq ps) node h = ap (place_of_node last) h
  node_place last n (alt ps) node h = ap (place_of_node last) h
  node_place last n (rep least most p) node h = ap (place_of_node last) h
  node_place last n (ref name rule) node h = ap (place_of_node last) h.1
  node_place last n opaque node h = ap (place_of_node last) h

  all_places : (last : ℕ) → map (place_of_node last) nodes ≡ map (place_of_part last) (parts_of trees)
  all_places last =
      let f = place_of_node last in
      let g = place_of_part last in
      let len : length (map f nodes) ≡ length nodes = length-map nodes f in
      same_lists (map f nodes) (map g (parts_of trees)) (len ∙ (are.one_each ∙ sym (length-map (parts_of trees) g)))
      (λ k d l.
      let in_nodes : k < length nodes = subst (λ n. k < n) len l in
      let in_parts : k < length (parts_of trees) = subst (λ n. k < n) are.one_each in_nodes in
      let p = get_or (parts_of trees) k opaque in
      let found = are.each k p (slice_get-get_or (parts_of trees) k opaque in_parts) in
      get_or-map f nodes k found.0 d in_nodes
      ∙ (ap f (get_or_from_slice_get nodes k found.0 found.0 found.1)
      ∙ (node_place last k p found.0 found.2
      ∙ sym (get_or-map g (parts_of trees) k opaque d in_parts))))

-- where the parts of a rule stand
pub cut : (trees : List Part) (r : ℕ) (root : Part) → slice_get trees r ≡ Some root → (rest : List Part) × (parts_of trees ≡ parts_of (take r trees) ++ (subparts root ++ rest))
cut [] r root e = absurd (cc e)
cut (t ∷ trees) zero root e = (parts_of trees, ap (λ p. subparts p ++ parts_of trees) (cc e))
cut (t ∷ trees) (suc r) root e =
    let inner = cut trees r root e in
    (inner.0, ap (λ ps. subparts t ++ ps) inner.1 ∙ sym (append_assoc (subparts t) (parts_of (take r trees)) (subparts root ++ inner.0)))

pub next_root : (trees : List Part) (r : ℕ) (root : Part) → slice_get trees r ≡ Some root → root_number trees (suc r) ≡ root_number trees r + length (subparts root)
next_root [] r root e = absurd (cc e)
next_root (t ∷ trees) zero root e =
    let len : length (subparts t ++ parts_of (take 0 trees)) ≡ length (subparts t) + 0 = length-append (subparts t) [] in
    let same : length (subparts t) ≡ length (subparts root) = ap (λ p. length (subparts p)) (cc e) in
    omega (arith, len, same)
next_root (t ∷ trees) (suc r) root e =
    let more : length (subparts t ++ parts_of (take (suc r) trees)) ≡ length (subparts t) + root_number trees (suc r) = length-append (subparts t) (parts_of (take (suc r) trees)) in
    let here : length (subparts t ++ parts_of (take r trees)) ≡ length (subparts t) + root_number trees r = length-append (subparts t) (parts_of (take r trees)) in
    let inner : root_number trees (suc r) ≡ root_number trees r + length (subparts root) = next_root trees r root e in
    omega (arith, more, here, inner)

-- the nodes of rule r
module _ (trees : List Part) (nodes : List Node) (are : AreNodes trees nodes) (r : ℕ) (below : r < length trees) where
  abbrev root : Part
  root = get_or trees r opaque

  is : slice_get trees r ≡ Some root
  is = slice_get-get_or trees r opaque below

  start_before : root_number trees r ≤ root_number trees (suc r)
  start_before = omega (arith, next_root trees r root is)

  end_within : root_number trees (suc r) ≤ length nodes
  end_within =
      let parts = cut trees r root is in
      let all : length (parts_of trees) ≡ root_number trees r + length (subparts root ++ parts.0) = ap length parts.1 ∙ length-append (parts_of (take r trees)) (subparts root ++ parts.0) in
      let more : length (subparts root ++ parts.0) ≡ length (subparts root) + length parts.0 = length-append (subparts root) parts.0 in
      omega (arith, all, more, next_root trees r root is, are.one_each)

  rule_places : (last : ℕ) → map (place_of_node last) (nodes_of nodes trees r) ≡ map (place_of_part last) (subparts root)
  rule_places last =
      let start = root_number trees r in
      let end = root_number trees (suc r) in
      let f = place_of_node last in
      let g = place_of_part last in
      let parts = cut trees r root is in
      sym (take-map f (end - start) (drop start nodes))
      ∙ (ap (take (end - start)) (sym (drop-map f start nodes) ∙ (ap (drop start) (all_places trees nodes are last) ∙ drop-map g start (parts_of trees)))
      ∙ (take-map g (end - start) (drop start (parts_of trees))
      ∙ ap (map g) (ap (λ ps. take (end - start) (drop start ps)) parts.1
      ∙ (ap (take (end - start)) (drop_at (parts_of (take r trees)) (subparts root ++ parts.0) start refl)
      ∙ take_at (subparts root) parts.0 (end - start) (let size : length (subparts root) ≡ end - start = omega (arith, next_root trees r root is) in size)))))

  pub places_within : (q : ℕ) → Contains (map (place_of_node (length trees)) (nodes_of nodes trees r)) (Some q) → q < suc (length trees)
  places_within q c = leads_within trees nodes are r q (root, is, subst (λ os. Contains os (Some q)) (rule_places (length trees)) c)

  -- one more rule was read
  pub users_more : (old new : List (List ℕ)) → AreUsingRules trees r old → new ≡ fold (with_user r) old (map (place_of_node (length trees)) (nodes_of nodes trees r)) → AreUsingRules trees (r + 1) new
  users_more old new h e =
      let os = map (place_of_part (length trees)) (subparts root) in
      let made : fold (with_user r) old os ≡ new = ap (fold (with_user r) old) (sym (rule_places (length trees))) ∙ sym e in
      let added : AddsUser r old new os = subst (λ users. AddsUser r old users os) made
      (all_users r os old (λ q c. subst (λ n. q < n) (sym h.one_each) (leads_within trees nodes are r q (root, is, c)))) in
      record {
        one_each = sym (ap length made) ∙ (length_users r os old ∙ h.one_each);
        right = λ place x c. ⊎_elim (λ (u : Contains (users_at old place) x). h.right place x u)
            (λ (w : (x ≡ r) × Contains os (Some place)). subst (λ y. LeadsTo trees y place) (sym w.0) (root, is, w.1)) (added.only place x c);
        all = λ place x l leads. ⊎_elim (λ (before : x < r). added.more place x (h.all place x before leads))
            (λ (now : r ≤ x). let at : x ≡ r = omega arith in subst (λ y. Contains (users_at new place) y) (sym at)
            (added.has place (subst (λ p. Contains (map (place_of_part (length trees)) (subparts p)) (Some place))
            (let same : leads.0 ≡ root = same_root leads.0 (sym leads.1 ∙ (ap (slice_get trees) at ∙ is)) in same) leads.2)))
            (cases_lt x r);
      }
    where
      same_root : (p : Part) → Some p ≡ Some root → p ≡ root
      same_root p e = cc e

-- in the numbers that the code has
pub is_range : (trees : List Part) (nodes : List Node) (roots : List ℕ) → AreNodes trees nodes → AreRoots trees roots → (r root start end : ℕ) → r < length roots → root ≡ get_or roots r root → start ≡ root →
    end ≡ root_number trees (suc r) → IsRangeOf trees nodes r start end
is_range trees nodes roots are at r root start end l is s e =
    let start_is : start ≡ root_number trees r = s ∙ at.each r root (slice_get_read roots (length roots) r root refl l is) in
    let below : r < length trees = subst (λ n. r < n) at.one_each l in
    record {
      start_is = start_is;
      end_is = e;
      ordered = omega (arith, start_is, e, start_before trees nodes are r below);
      within = omega (arith, e, end_within trees nodes are r below);
    }

-- no rule was read
pub users_none : (trees : List Part) (users : List (List ℕ)) → length users ≡ suc (length trees) → ((place : ℕ) → users_at users place ≡ []) → AreUsingRules trees 0 users
users_none trees users len none = record {
  one_each = len;
  right = λ place x c. let empty : Contains [] x = subst (λ xs. Contains xs x) (none place) c in absurd (omega (arith, empty.1));
  all = λ place x l leads. absurd (omega arith);
}

pub users_within : (trees : List Part) (count : ℕ) (users : List (List ℕ)) → AreUsingRules trees count users → AreUsersWithin users
users_within trees count users h place x c =
    let leads : LeadsTo trees x place = h.right place x c in
    let l : x < length trees = slice_get_within trees x leads.0 leads.1 in
    omega (arith, l, h.one_each)

-- what the search finds
module _ (trees : List Part) (nodes : List Node) (are : AreNodes trees nodes) (users : List (List ℕ)) (h : AreUsingRules trees (length trees) users) where
  reaches_by : (steps r : ℕ) → LeadsBy users steps r → (r ≡ length trees) ⊎ ReachesOpaque trees r
  reaches_by zero r e = inl (let len : length users ≡ suc (length trees) = h.one_each in omega (arith, e, len))
  reaches_by (suc steps) r (q, user, rest) =
      let leads : LeadsTo trees r q = h.right q r user in
      inr (⊎_elim (λ (o : (q ≡ length trees) × Contains (subparts leads.0) opaque). reaches_first trees r leads.0 leads.1 o.1)
      (λ (u : (name : List ℕ) × Contains (subparts leads.0) (ref name (Some q))). ⊎_elim
      (λ (past : q ≡ length trees). let l : q < length trees = refers trees nodes are r leads.0 u.0 q leads.1 u.1 in absurd (omega (arith, past, l)))
      (λ (reach : ReachesOpaque trees q). reaches_more trees r leads.0 u.0 q leads.1 u.1 reach) (reaches_by steps q rest))
      (leads_cases (length trees) (subparts leads.0) q leads.2))

  leads_last : (r : ℕ) → ReachesOpaque trees r → LeadsToLast users r
  leads_last = marked trees (LeadsToLast users)
      (λ r root is has. (1, (length trees, h.all (length trees) r (slice_get_within trees r root is) (root, is, contains_map (place_of_part (length trees)) (subparts root) opaque has), sym h.one_each)))
      (λ r root name q is has steps. (suc steps.0, (q, h.all q r (slice_get_within trees r root is) (root, is, contains_map (place_of_part (length trees)) (subparts root) (ref name (Some q)) has), steps.1)))

  pub reaching : (marks kept last : List Bool) → AreReachMarks users marks → marks ≡ kept ++ last → length kept ≡ length trees → AreReaching trees kept
  reaching marks kept last on cut len = record {
    one_each = len;
    each = λ r l.
        let same : get_or marks r false ≡ get_or kept r false = ap (λ bs. get_or bs r false) cut ∙ get_or_append_left kept last false r (subst (λ n. r < n) (sym len) l) in (
          λ e. ⊎_elim (λ (past : r ≡ length trees). absurd (omega (arith, past))) (λ (reach : ReachesOpaque trees r). reach)
              (let steps : LeadsToLast users r = (on.each r).0 (same ∙ e) in reaches_by steps.0 r steps.1),
          λ reach. sym same ∙ (on.each r).1 (leads_last r reach),
        );
  }
