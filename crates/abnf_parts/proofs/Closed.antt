-- Each reference in a tree is to one of so many rules.
use Rattle.std.proofs.Common.{◌≡◌, ◌<◌, ◌+◌, ℕ, zero, suc, Bool, true, false, cond, List, [], ◌∷◌, ◌++◌, map, length, refl, sym, subst, arith}
use Rattle.std.specs.Prelude.{Option, Some, None, option_map, position, filter, nat_lt, slice_get, codes, if◌then◌else◌}
use Rattle.std.specs.List.{AllByRecursion, position_or_len}
use Rattle.std.proofs.lemmas.Bool.{ltb-true}
use Rattle.abnf_token.specs.Classes.{base_of}
use Rattle.abnf_token.specs.declared.token.Token.{Token}
use Rattle.abnf_token.specs.Folded.{lowercase}
use Rattle.abnf_syntax.specs.declared.tree.Element.{out-Element}
use Rattle.abnf_syntax.specs.declared.tree.Element.TheOpen as e
use Rattle.abnf_syntax.specs.declared.tree.Repetition.{out-Repetition}
use Rattle.abnf_syntax.specs.Grammar.{Concatenation, Alternation, max_nesting}
use Rattle.abnf_parts.specs.Part.{Part, series, seq, alt, ref, subparts, all_subparts, parts_of}
use Rattle.abnf_parts.specs.Leaf.{number_part, numbers_from, span_of, has, repeated}
use Rattle.abnf_parts.specs.Tree.{ElementLayer, parts, join, element_part, repetition_part, concatenation_part, tree_inside, alternatives}
use Rattle.abnf_parts.specs.Nodes.{RefersWithin}
use Rattle.abnf_parts.specs.Names.{Name}
use Rattle.abnf_parts.specs.Core.{CoreRule, core_rules}
use Rattle.abnf_parts.proofs.Pushing.{number_part_alone}

pub all_both : {X : Type 0} (P : X → Type 0) (xs ys : List X) → AllByRecursion P xs → AllByRecursion P ys → AllByRecursion P (xs ++ ys)
all_both P [] ys h k = k
all_both P (x ∷ xs) ys h k = (h.0, all_both P xs ys h.1 k)

all_filter_by : {X : Type 0} (P : X → Type 0) (b : Bool) (x : X) (xs : List X) → P x → AllByRecursion P xs → AllByRecursion P (cond b (x ∷ xs) xs)
all_filter_by P true x xs h k = (h, k)
all_filter_by P false x xs h k = k

pub all_filter : {X : Type 0} (P : X → Type 0) (test : X → Bool) (xs : List X) → AllByRecursion P xs → AllByRecursion P (filter test xs)
all_filter P test [] h = tt
all_filter P test (x ∷ xs) h = all_filter_by P (test x) x (filter test xs) h.0 (all_filter P test xs h.1)

-- all of these parts that are references are to one of so many rules
abbrev pub Closed : ℕ → List Part → Type 0
Closed count ps = AllByRecursion (RefersWithin count) ps

-- all references in a tree are to one of so many rules
abbrev pub IsClosed : ℕ → Part → Type 0
IsClosed count p = Closed count (subparts p)

pub side_closed : (count : ℕ) (ps : List Part) → AllByRecursion (IsClosed count) ps → Closed count (all_subparts (parts ps))
side_closed count [] h = tt
side_closed count (p ∷ ps) h = all_both (RefersWithin count) (subparts p) (all_subparts (parts ps)) h.0 (side_closed count ps h.1)

-- where a name stands for no more than so many rules
module _ (count : ℕ) (number : Name → Option ℕ) (bounded : (n : Name) (r : ℕ) → number n ≡ Some r → r < count) where
  ref_by : (name : List ℕ) (o : Option ℕ) → ((r : ℕ) → o ≡ Some r → r < count) → RefersWithin count (ref name o)
  ref_by name None h = tt
  ref_by name (Some r) h = h r refl

  ref_closed : (name n : List ℕ) → RefersWithin count (ref name (number n))
  ref_closed name n = ref_by name (number n) (bounded n)

  span_within : (ns : List ℕ) → RefersWithin count (span_of ns)
  span_within [] = tt
  span_within (a ∷ []) = tt
  span_within (a ∷ b ∷ ns) = tt

  either_within : (b : Bool) (ns : List ℕ) → RefersWithin count (if b then span_of ns else series ns)
  either_within true ns = span_within ns
  either_within false ns = tt

  number_within : (text : List ℕ) → RefersWithin count (number_part text)
  number_within [] = tt
  number_within (a ∷ []) = tt
  number_within (a ∷ b ∷ digits) = either_within (has 0x2D digits) (numbers_from (base_of b) 0 digits)

  seq_closed : (ps : List Part) → AllByRecursion (IsClosed count) ps → IsClosed count (join seq ps)
  seq_closed [] h = (tt, tt)
  seq_closed (p ∷ []) h = h.0
  seq_closed (p ∷ q ∷ ps) h = (tt, side_closed count (p ∷ q ∷ ps) h)

  alt_closed : (ps : List Part) → AllByRecursion (IsClosed count) ps → IsClosed count (join alt ps)
  alt_closed [] h = (tt, tt)
  alt_closed (p ∷ []) h = h.0
  alt_closed (p ∷ q ∷ ps) h = (tt, side_closed count (p ∷ q ∷ ps) h)

  repeated_closed : (repeat : Option Token) (p : Part) → IsClosed count p → IsClosed count (repeated repeat p)
  repeated_closed None p h = h
  repeated_closed (Some t) p h = (tt, h)

  module _ (inner : Alternation → Part) (inner_closed : (a : Alternation) → IsClosed count (inner a)) where
    element_closed : (layer : ElementLayer) → IsClosed count (element_part number inner layer)
    element_closed (e.Name t) = (ref_closed t.text.now (lowercase t.text.now), tt)
    element_closed (e.Quoted t) = (tt, tt)
    element_closed (e.Number t) = subst (Closed count) (sym (number_part_alone t.text.now)) (number_within t.text.now, tt)
    element_closed (e.Prose t) = (tt, tt)
    element_closed (e.Group a) = inner_closed a
    element_closed (e.Choice a) = (tt, inner_closed a)

    repetitions_closed : (c : Concatenation) → AllByRecursion (IsClosed count) (map (repetition_part number inner) c)
    repetitions_closed [] = tt
    repetitions_closed (r ∷ c) =
        (repeated_closed (out-Repetition r).repeat (element_part number inner (out-Element (out-Repetition r).element)) (element_closed (out-Element (out-Repetition r).element)), repetitions_closed c)

    concatenations_closed : (a : Alternation) → AllByRecursion (IsClosed count) (map (concatenation_part number inner) a)
    concatenations_closed [] = tt
    concatenations_closed (c ∷ a) = (seq_closed (map (repetition_part number inner) c) (repetitions_closed c), concatenations_closed a)

  inside_closed : (room : ℕ) (a : Alternation) → IsClosed count (tree_inside number room a)
  inside_closed zero a = (tt, tt)
  inside_closed (suc room) a = alt_closed (map (concatenation_part number (tree_inside number room)) a) (concatenations_closed (tree_inside number room) (inside_closed room) a)

  pub alternatives_closed : (body : Alternation) → AllByRecursion (IsClosed count) (alternatives number body)
  alternatives_closed body = concatenations_closed (tree_inside number max_nesting) (inside_closed max_nesting) body

  pub cores_closed : AllByRecursion (λ core. IsClosed count (core.tree number)) core_rules
  cores_closed =
      ((tt, (tt, (tt, tt))), ((tt, (tt, (tt, tt))), ((tt, (tt, tt)), ((tt, (tt, tt)), ((tt, (tt, (ref_closed (codes "CR") (lowercase (codes "CR")), (ref_closed (codes "LF") (lowercase (codes "LF")), tt)))), ((tt, (tt, (tt, tt))), ((tt, (tt, tt)), ((tt, (tt, tt)), ((tt, (ref_closed (codes "DIGIT") (lowercase (codes "DIGIT")), (tt, (tt, (tt, (tt, (tt, (tt, tt)))))))), ((tt, (tt, tt)), ((tt, (tt, tt)), ((tt, (tt, (tt, (ref_closed (codes "WSP") (lowercase (codes "WSP")), (tt, (ref_closed (codes "CRLF") (lowercase (codes "CRLF")), (ref_closed (codes "WSP") (lowercase (codes "WSP")), tt))))))), ((tt, (tt, tt)), ((tt, (tt, tt)), ((tt, (tt, tt)), ((tt, (ref_closed (codes "SP") (lowercase (codes "SP")), (ref_closed (codes "HTAB") (lowercase (codes "HTAB")), tt))), tt))))))))))))))))

within_by : (b : Bool) (n l r : ℕ) → nat_lt n l ≡ b → cond b (Some n) None ≡ Some r → r < l
within_by true n l r e h = subst (λ k. k < l) (cc h) (ltb-true n l e)
within_by false n l r e h = absurd (cc h)

pub position_within : (test : Name → Bool) (names : List Name) (r : ℕ) → position test names ≡ Some r → r < length names
position_within test names r h = within_by (nat_lt (position_or_len test names) (length names)) (position_or_len test names) (length names) r refl h

pub core_within : (first : ℕ) (o : Option ℕ) (l r : ℕ) → ((k : ℕ) → o ≡ Some k → k < l) → option_map (λ k. first + k) o ≡ Some r → r < first + l
core_within first None l r h e = absurd (cc e)
core_within first (Some k) l r h e =
    let is : first + k ≡ r = cc e in
    let lt : k < l = h k refl in
    omega (arith, is, lt)

pub trees_closed : (count : ℕ) (number : Name → Option ℕ) (cores : List CoreRule) → AllByRecursion (λ core. IsClosed count (core.tree number)) cores →
    AllByRecursion (IsClosed count) (map (λ core. core.tree number) cores)
trees_closed count number [] h = tt
trees_closed count number (c ∷ cores) h = (h.0, trees_closed count number cores h.1)

pub parts_closed : (count : ℕ) (trees : List Part) → AllByRecursion (IsClosed count) trees → Closed count (parts_of trees)
parts_closed count [] h = tt
parts_closed count (p ∷ trees) h = all_both (RefersWithin count) (subparts p) (parts_of trees) h.0 (parts_closed count trees h.1)

pub all_at : {X : Type 0} (P : X → Type 0) (xs : List X) → AllByRecursion P xs → (n : ℕ) (x : X) → slice_get xs n ≡ Some x → P x
all_at P [] h n x e = absurd (cc e)
all_at P (y ∷ xs) h zero x e = subst P (cc e) h.0
all_at P (y ∷ xs) h (suc n) x e = all_at P xs h.1 n x e
