-- Nodes that are pushed one after another are those of the parts in that order.
use Rattle.std.proofs.Common.{◌≡◌, ◌≢◌, ℕ, zero, suc, ◌+◌, ◌<◌, List, [], ◌∷◌, ◌++◌, length, map, take, set, get_or, refl, sym, ap, subst, ◌∙◌, arith, length-append, append_assoc, append-nil}
use Rattle.std.proofs.Math.Seq.{take-suc}
use Rattle.std.proofs.lemmas.List.{map-append, length-map}
use Rattle.abnf_parts.specs.declared.node.Node.{Node}
use Rattle.abnf_parts.specs.declared.node.Node.TheVariants.{Seq, Alt, Rep}
use Rattle.abnf_parts.specs.Part.{Part, Parts, end, next, seq, alt, rep, series, subparts, all_subparts, numbers}
use Rattle.abnf_parts.specs.Nodes.{IsNode}
use Rattle.std.specs.Prelude.{Bool, true, false, if◌then◌else◌, Option, None, Result, Ok, Err, IfOk, OnOk, ◌-◌}
use Rattle.std.specs.Borrow.{Bor}
use Rattle.std.specs.Result.{IsErr}
use Rattle.std.proofs.lemmas.Bool.{false≢true}
use Rattle.abnf_syntax.specs.Grammar.{Alternation}
use Rattle.abnf_token.specs.Classes.{base_of}
use Rattle.abnf_parts.specs.Leaf.{quoted_part, number_part, numbers_from, span_of, has}
use Rattle.abnf_parts.specs.Tree.{parts, join, alternation_part, tree_inside}
use Rattle.abnf_parts.specs.Pushed.{AreNodesFrom, AddsNodes, AddsTrees}
use Rattle.abnf_parts.specs.own.Begun.{Begins}

at_number : (ps : List Part) (nodes : List Node) (m n : ℕ) → m ≡ n → AreNodesFrom m ps nodes → AreNodesFrom n ps nodes
at_number ps nodes m n e h = subst (λ k. AreNodesFrom k ps nodes) e h

pub length_are : (n : ℕ) (ps : List Part) (nodes : List Node) → AreNodesFrom n ps nodes → length nodes ≡ length ps
length_are n [] [] h = refl
length_are n [] (x ∷ xs) h = absurd h
length_are n (p ∷ ps) [] h = absurd h
length_are n (p ∷ ps) (x ∷ xs) h = ap suc (length_are (suc n) ps xs h.1)

are_append : (n : ℕ) (ps qs : List Part) (xs ys : List Node) → AreNodesFrom n ps xs → AreNodesFrom (n + length xs) qs ys → AreNodesFrom n (ps ++ qs) (xs ++ ys)
are_append n [] qs [] ys h k = at_number qs ys (n + 0) n (omega arith) k
are_append n [] qs (x ∷ xs) ys h k = absurd h
are_append n (p ∷ ps) qs [] ys h k = absurd h
are_append n (p ∷ ps) qs (x ∷ xs) ys h k = (h.0, are_append (suc n) ps qs xs ys h.1 (at_number qs ys (n + suc (length xs)) (suc n + length xs) (omega arith) k))

pub adds_none : (old : List Node) → AddsNodes [] old old
adds_none old = record { more = []; joined = sym (append-nil old); are = tt }

pub adds_length : (ps : List Part) (old new : List Node) → AddsNodes ps old new → length new ≡ length old + length ps
adds_length ps old new h = ap length h.joined ∙ (length-append old h.more ∙ ap (λ k. length old + k) (length_are (length old) ps h.more h.are))

pub adds_both : (ps qs : List Part) (old mid new : List Node) → AddsNodes ps old mid → AddsNodes qs mid new → AddsNodes (ps ++ qs) old new
adds_both ps qs old mid new h k = record {
  more = h.more ++ k.more;
  joined = k.joined ∙ (ap (λ xs. xs ++ k.more) h.joined ∙ append_assoc old h.more k.more);
  are = are_append (length old) ps qs h.more k.more h.are (at_number qs k.more (length mid) (length old + length h.more) (ap length h.joined ∙ length-append old h.more) k.are);
}

pub adds_one : (p : Part) (node : Node) (old new : List Node) → new ≡ old ++ node ∷ [] → IsNode (length old) p node → AddsNodes (p ∷ []) old new
adds_one p node old new e h = record { more = node ∷ []; joined = e; are = (h, tt) }

pub all_subparts_last : (ps : List Part) (p : Part) → all_subparts (parts (ps ++ p ∷ [])) ≡ all_subparts (parts ps) ++ subparts p
all_subparts_last [] p = append-nil (subparts p)
all_subparts_last (q ∷ ps) p = ap (λ rest. subparts q ++ rest) (all_subparts_last ps p) ∙ sym (append_assoc (subparts q) (all_subparts (parts ps)) (subparts p))

pub numbers_last : (n : ℕ) (ps : List Part) (p : Part) → numbers n (parts (ps ++ p ∷ [])) ≡ numbers n (parts ps) ++ (n + length (all_subparts (parts ps))) ∷ []
numbers_last n [] p = ap (λ k. k ∷ []) (let e : n ≡ n + 0 = omega arith in e)
numbers_last n (q ∷ ps) p =
    let len : length (subparts q ++ all_subparts (parts ps)) ≡ length (subparts q) + length (all_subparts (parts ps)) = length-append (subparts q) (all_subparts (parts ps)) in
    ap (λ rest. n ∷ rest) (numbers_last (n + length (subparts q)) ps p
    ∙ ap (λ k. numbers (n + length (subparts q)) (parts ps) ++ k ∷ []) (let e : n + length (subparts q) + length (all_subparts (parts ps)) ≡ n + length (subparts q ++ all_subparts (parts ps)) = omega (arith, len) in e))

pub trees_none : (old : List Node) (numbers : List ℕ) → AddsTrees [] old old numbers numbers
trees_none old ns = record { nodes = adds_none old; numbers_are = sym (append-nil ns) }

-- one more tree, behind the others
pub trees_more : (ps : List Part) (p : Part) (old mid new : List Node) (a b c : List ℕ) →
    AddsTrees ps old mid a b → c ≡ b ++ length mid ∷ [] → AddsNodes (subparts p) mid new → AddsTrees (ps ++ p ∷ []) old new a c
trees_more ps p old mid new a b c h e k = record {
  nodes = subst (λ parts_so_far. AddsNodes parts_so_far old new) (sym (all_subparts_last ps p)) (adds_both (all_subparts (parts ps)) (subparts p) old mid new h.nodes k);
  numbers_are =
      e ∙ (ap (λ x. x ++ length mid ∷ []) h.numbers_are
      ∙ (append_assoc a (numbers (length old) (parts ps)) (length mid ∷ [])
      ∙ ap (λ x. a ++ x) (ap (λ n. numbers (length old) (parts ps) ++ n ∷ []) (adds_length (all_subparts (parts ps)) old mid h.nodes) ∙ sym (numbers_last (length old) ps p))));
}

pub trees_next : {X : Type 0} (f : X → Part) (xs : List X) (x d : X) (i : ℕ) (old mid new : List Node) (a b c : List ℕ) → i < length xs → get_or xs i d ≡ x →
    AddsTrees (map f (take i xs)) old mid a b → c ≡ b ++ length mid ∷ [] → AddsNodes (subparts (f x)) mid new → AddsTrees (map f (take (i + 1) xs)) old new a c
trees_next f xs x d i old mid new a b c lt is h e k = subst (λ ps. AddsTrees ps old new a c) (sym (mapped f xs x d i lt is)) (trees_more (map f (take i xs)) (f x) old mid new a b c h e k)
  where
    mapped : {X : Type 0} (f : X → Part) (xs : List X) (x d : X) (i : ℕ) → i < length xs → get_or xs i d ≡ x → map f (take (i + 1) xs) ≡ map f (take i xs) ++ f x ∷ []
    mapped f xs x d i lt is =
        ap (map f) (ap (λ k. take k xs) (let e : i + 1 ≡ suc i = omega arith in e) ∙ take-suc xs i d lt) ∙ (map-append f (take i xs) (get_or xs i d ∷ []) ∙ ap (λ y. map f (take i xs) ++ f y ∷ []) is)

-- trees behind other trees
all_subparts_append : (ps qs : List Part) → all_subparts (parts (ps ++ qs)) ≡ all_subparts (parts ps) ++ all_subparts (parts qs)
all_subparts_append [] qs = refl
all_subparts_append (p ∷ ps) qs = ap (λ rest. subparts p ++ rest) (all_subparts_append ps qs) ∙ sym (append_assoc (subparts p) (all_subparts (parts ps)) (all_subparts (parts qs)))

numbers_append : (n : ℕ) (ps qs : List Part) → numbers n (parts (ps ++ qs)) ≡ numbers n (parts ps) ++ numbers (n + length (all_subparts (parts ps))) (parts qs)
numbers_append n [] qs = ap (λ k. numbers k (parts qs)) (let e : n ≡ n + 0 = omega arith in e)
numbers_append n (p ∷ ps) qs =
    let len : length (subparts p ++ all_subparts (parts ps)) ≡ length (subparts p) + length (all_subparts (parts ps)) = length-append (subparts p) (all_subparts (parts ps)) in
    ap (λ rest. n ∷ rest) (numbers_append (n + length (subparts p)) ps qs
    ∙ ap (λ k. numbers (n + length (subparts p)) (parts ps) ++ numbers k (parts qs)) (let e : n + length (subparts p) + length (all_subparts (parts ps)) ≡ n + length (subparts p ++ all_subparts (parts ps)) = omega (arith, len) in e))

pub trees_both : (ps qs : List Part) (old mid new : List Node) (a b c : List ℕ) → AddsTrees ps old mid a b → AddsTrees qs mid new b c → AddsTrees (ps ++ qs) old new a c
trees_both ps qs old mid new a b c h k = record {
  nodes = subst (λ all. AddsNodes all old new) (sym (all_subparts_append ps qs)) (adds_both (all_subparts (parts ps)) (all_subparts (parts qs)) old mid new h.nodes k.nodes);
  numbers_are =
      k.numbers_are
      ∙ (ap (λ x. x ++ numbers (length mid) (parts qs)) h.numbers_are
      ∙ (append_assoc a (numbers (length old) (parts ps)) (numbers (length mid) (parts qs))
      ∙ ap (λ x. a ++ x) (ap (λ n. numbers (length old) (parts ps) ++ numbers n (parts qs)) (adds_length (all_subparts (parts ps)) old mid h.nodes) ∙ sym (numbers_append (length old) ps qs))));
}

-- a node is written before the nodes of the parts below it
set_at : (old more : List Node) (x y : Node) → set (old ++ x ∷ more) (length old) y ≡ old ++ y ∷ more
set_at [] more x y = refl
set_at (o ∷ old) more x y = ap (λ rest. o ∷ rest) (set_at old more x y)

pub adds_above : (p : Part) (ps : List Part) (node kept : Node) (old opened mid new : List Node) → opened ≡ old ++ kept ∷ [] → AddsNodes ps opened mid → new ≡ set mid (length old) node →
    IsNode (length old) p node → AddsNodes (p ∷ ps) old new
adds_above p ps node kept old opened mid new o h e is = record {
  more = node ∷ h.more;
  joined = e ∙ (ap (λ xs. set xs (length old) node) (h.joined ∙ (ap (λ xs. xs ++ h.more) o ∙ append_assoc old (kept ∷ []) h.more)) ∙ set_at old h.more kept node);
  are = (is, at_number ps h.more (length opened) (suc (length old)) (ap length o ∙ (length-append old (kept ∷ []) ∙ (let one : length old + 1 ≡ suc (length old) = omega arith in one))) h.are);
}

pub join_several : (several : Parts → Part) (ps : List Part) → length ps ≢ 1 → join several ps ≡ several (parts ps)
join_several several [] h = refl
join_several several (p ∷ []) h = absurd (h refl)
join_several several (p ∷ q ∷ ps) h = refl

pub join_one : {X : Type 0} (several : Parts → Part) (f : X → Part) (xs : List X) (x : X) → length xs ≡ 1 → get_or xs 0 x ≡ x → join several (map f xs) ≡ f x
join_one several f [] x h is = absurd (omega arith)
join_one several f (y ∷ []) x h is = ap f is
join_one several f (y ∷ z ∷ xs) x h is = absurd (omega arith)

module _ {X : Type 0} (f : X → Part) (xs : List X) (at : ℕ) (kept : Node) (old opened mid new : List Node) (none numbers_found held : List ℕ)
    (several : (length xs ≡ 1) → ⊥) (at_is : at ≡ length old) (none_is : none ≡ []) (opened_is : opened ≡ old ++ kept ∷ [])
    (trees : AddsTrees (map f xs) opened mid none numbers_found) (held_is : held ≡ numbers_found) where
  count_is : (length (map f xs) ≡ 1) → ⊥
  count_is h = several (sym (length-map xs f) ∙ h)

  numbers_below : held ≡ numbers (suc (length old)) (parts (map f xs))
  numbers_below =
      held_is ∙ (trees.numbers_are
      ∙ (ap (λ ns. ns ++ numbers (length opened) (parts (map f xs))) none_is
      ∙ ap (λ n. numbers n (parts (map f xs))) (ap length opened_is ∙ (length-append old (kept ∷ []) ∙ (let one : length old + 1 ≡ suc (length old) = omega arith in one)))))

  pub seq_added : new ≡ set mid at (Seq held) → AddsNodes (subparts (join seq (map f xs))) old new
  seq_added h = subst (λ p. AddsNodes (subparts p) old new) (sym (join_several seq (map f xs) count_is))
      (adds_above (seq (parts (map f xs))) (all_subparts (parts (map f xs))) (Seq held) kept old opened mid new opened_is trees.nodes (h ∙ ap (λ n. set mid n (Seq held)) at_is) (ap Seq numbers_below))

  pub alt_added : new ≡ set mid at (Alt held) → AddsNodes (subparts (join alt (map f xs))) old new
  alt_added h = subst (λ p. AddsNodes (subparts p) old new) (sym (join_several alt (map f xs) count_is))
      (adds_above (alt (parts (map f xs))) (all_subparts (parts (map f xs))) (Alt held) kept old opened mid new opened_is trees.nodes (h ∙ ap (λ n. set mid n (Alt held)) at_is) (ap Alt numbers_below))

-- a choice among trees that stand side by side
pub choice_added : (ps : List Part) (at : ℕ) (kept : Node) (old opened mid new : List Node) (none found held : List ℕ) → at ≡ length old → none ≡ [] → opened ≡ old ++ kept ∷ [] →
    AddsTrees ps opened mid none found → held ≡ found → new ≡ set mid at (Alt held) → AddsNodes (subparts (alt (parts ps))) old new
choice_added ps at kept old opened mid new none found held at_is none_is opened_is trees held_is h =
    adds_above (alt (parts ps)) (all_subparts (parts ps)) (Alt held) kept old opened mid new opened_is trees.nodes (h ∙ ap (λ n. set mid n (Alt held)) at_is)
    (ap Alt (held_is ∙ (trees.numbers_are ∙ (ap (λ ns. ns ++ numbers (length opened) (parts ps)) none_is
    ∙ ap (λ n. numbers n (parts ps)) (ap length opened_is ∙ (length-append old (kept ∷ []) ∙ (let one : length old + 1 ≡ suc (length old) = omega arith in one)))))))

-- a choice of one repetition stands before its body
pub repeated_added : (p : Part) (old opened new : List Node) → opened ≡ old ++ Alt (suc (length old) ∷ []) ∷ Rep 0 None (suc (suc (length old))) ∷ [] → AddsNodes (subparts p) opened new →
    AddsNodes (subparts (alt (next (rep 0 None p) end))) old new
repeated_added p old opened new e h =
    subst (λ ps. AddsNodes (alt (next (rep 0 None p) end) ∷ rep 0 None p ∷ ps) old new) (sym (append-nil (subparts p)))
    (adds_both (alt (next (rep 0 None p) end) ∷ rep 0 None p ∷ []) (subparts p) old opened new
    (record { more = Alt (suc (length old) ∷ []) ∷ Rep 0 None (suc (suc (length old))) ∷ []; joined = e; are = (refl, (refl, tt)) }) h)

-- a repetition stands before its body
pub rep_added : (least : ℕ) (most : Option ℕ) (p : Part) (old opened new : List Node) → opened ≡ old ++ Rep least most (suc (length old)) ∷ [] → AddsNodes (subparts p) opened new →
    AddsNodes (rep least most p ∷ subparts p) old new
rep_added least most p old opened new o h =
    adds_both (rep least most p ∷ []) (subparts p) old opened new (adds_one (rep least most p) (Rep least most (suc (length old))) old opened o refl) h

pub rep_begun : (least : ℕ) (most : Option ℕ) (part : (Alternation → Part) → Part) (inside : Option (Bor Alternation)) (old opened mid : List Node) → opened ≡ old ++ Rep least most (suc (length old)) ∷ [] →
    Begins part inside opened mid → Begins (λ tree. rep least most (part tree)) inside old mid
rep_begun least most part inside old opened mid o h = λ tree new added. rep_added least most (part tree) old opened new o (h tree new added)

pub on_ok : {A E : Type 0} (r : Result A E) (P Q : Type 0) → (P → Q) → OnOk r P → OnOk r Q
on_ok (Ok x) P Q f h = f h
on_ok (Err e) P Q f h = tt

-- where an error is handed on, nothing is said of an `Ok`
pub on_refused : {A E : Type 0} (r : Result A E) (P : Type 0) → IsErr r → OnOk r P
on_refused (Ok x) P h = absurd (false≢true h)
on_refused (Err e) P h = tt

pub if_ok : {A E : Type 0} (r : Result A E) (P Q : A → Type 0) → ((x : A) → P x → Q x) → IfOk r P → IfOk r Q
if_ok (Ok x) P Q f h = f x h
if_ok (Err e) P Q f h = tt

pub quoted_part_alone : (text : List ℕ) → subparts (quoted_part text) ≡ quoted_part text ∷ []
quoted_part_alone text = refl

span_alone : (ns : List ℕ) → subparts (span_of ns) ≡ span_of ns ∷ []
span_alone [] = refl
span_alone (a ∷ []) = refl
span_alone (a ∷ b ∷ ns) = refl

either_alone : (b : Bool) (ns : List ℕ) → subparts (if b then span_of ns else series ns) ≡ (if b then span_of ns else series ns) ∷ []
either_alone true ns = span_alone ns
either_alone false ns = refl

pub number_part_alone : (text : List ℕ) → subparts (number_part text) ≡ number_part text ∷ []
number_part_alone [] = refl
number_part_alone (a ∷ []) = refl
number_part_alone (a ∷ b ∷ digits) = either_alone (has 0x2D digits) (numbers_from (base_of b) 0 digits)

pub inside_is : (number : List ℕ → Option ℕ) (room : ℕ) (a : Alternation) → (room ≡ 0 → ⊥) → tree_inside number room a ≡ alternation_part number (tree_inside number (room - 1)) a
inside_is number zero a h = absurd (h refl)
inside_is number (suc room) a h = ap (λ k. alternation_part number (tree_inside number k) a) (let e : room ≡ suc room - 1 = omega arith in e)
