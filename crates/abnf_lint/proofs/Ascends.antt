-- Findings ascend strictly, and what stands in such a list settles it. So what is found are the rows of the table, and one list is.
use Rattle.std.proofs.Common.{◌≡◌, ◌∙◌, ℕ, ◌<◌, ◌≤◌, ◌+◌, suc, Bool, true, false, List, [], ◌∷◌, length, refl, sym, ap, subst, arith, get_or, inl, inr}
use Rattle.std.specs.Prelude.{Contains, not, ◌&&◌, filter, if◌then◌else◌}
use Rattle.std.specs.Cmp.{IsStrictWeakOrder}
use Rattle.std.specs.Ordering.{is_lt}
use Rattle.std.specs.List.{AllByRecursion}
use Rattle.std.specs.List.Sorted.{IsSortedBy, ties}
use Rattle.std.proofs.lemmas.Bool.{cases_order}
use Rattle.std.proofs.lemmas.List.Sorted.{ranks_by, sorted_far}
use Rattle.abnf_syntax.specs.Blocks.{line_texts}
use Rattle.abnf_names.specs.Said.{AreSaid, Block}
use Rattle.abnf_names.specs.Rules.{names_of, rules_of}
use Rattle.abnf_lint.specs.declared.finding.Finding.{Finding}
use Rattle.abnf_lint.specs.Order.{FindingsAscend, Key, finding_before, key, key_cmp}
use Rattle.abnf_lint.specs.own.Findings.{AreFindings, findings_in}
use Rattle.abnf_lint.specs.Rows.{AreRows}
use Rattle.abnf_lint.specs.Unproductive.{AreUnproductive}
use Rattle.abnf_lint.proofs.Apart.{AllDiffer, Differ, blocks_differ}
use Rattle.abnf_lint.proofs.Exist.{some_order}
use Rattle.abnf_lint.proofs.KeyOrder.{by_line, by_row, by_start}
use Rattle.abnf_lint.proofs.Member.{first_in, in_cons, later_in, none_in}
use Rattle.abnf_lint.proofs.OneFinding.{key_total}
use Rattle.abnf_lint.proofs.Stands.{stands_is}

-- ---- keys that tie are one

both_false : (a b : Bool) → (not a && not b) ≡ true → (a ≡ false) × (b ≡ false)
both_false true b e = absurd (cc e)
both_false false true e = absurd (cc e)
both_false false false e = (refl, refl)

neither : (b : Bool) → b ≡ true → b ≡ false → ⊥
neither b e f = cc (e, f)

same_key : (p q : Key) → is_lt (key_cmp p q) ≡ false → is_lt (key_cmp q p) ≡ false → (p.0 ≡ q.0) × (p.1 ≡ q.1) × (p.2 ≡ q.2)
same_key p q there back = (line, start, row_is)
  where
    line : p.0 ≡ q.0
    line = elim (cases_order p.0 q.0) [
      | inl e ↦ e
      | inr o ↦ elim o [ inl h ↦ absurd (neither (is_lt (key_cmp p q)) (by_line p q h) there) | inr h ↦ absurd (neither (is_lt (key_cmp q p)) (by_line q p h) back) ]
    ]

    start : p.1 ≡ q.1
    start = elim (cases_order p.1 q.1) [
      | inl e ↦ e
      | inr o ↦ elim o [ inl h ↦ absurd (neither (is_lt (key_cmp p q)) (by_start p q line h) there) | inr h ↦ absurd (neither (is_lt (key_cmp q p)) (by_start q p (sym line) h) back) ]
    ]

    row_is : p.2 ≡ q.2
    row_is = elim (cases_order p.2 q.2) [
      | inl e ↦ e
      | inr o ↦ elim o [
        | inl h ↦ absurd (neither (is_lt (key_cmp p q)) (by_row p q line start h) there)
        | inr h ↦ absurd (neither (is_lt (key_cmp q p)) (by_row q p (sym line) (sym start) h) back)
      ]
    ]

-- ---- what ties with a finding

order : IsStrictWeakOrder finding_before
order = ranks_by key_total key

abbrev tied : Finding → List Finding → List Finding
tied z fs = filter (ties finding_before z) fs

tie_keys : (z f : Finding) → ties finding_before z f ≡ true → ((key z).0 ≡ (key f).0) × ((key z).1 ≡ (key f).1) × ((key z).2 ≡ (key f).2)
tie_keys z f e =
    let both = both_false (finding_before z f) (finding_before f z) e in
    same_key (key z) (key f) both.0 both.1

none_tied : (z f : Finding) (fs : List Finding) → ties finding_before z f ≡ true → AllByRecursion (Differ f) fs → tied z fs ≡ []
none_tied z f [] e h = refl
none_tied z f (g ∷ fs) e h = by (ties finding_before z g) refl (none_tied z f fs e h.1)
  where
    by : (b : Bool) → ties finding_before z g ≡ b → tied z fs ≡ [] → (if b then g ∷ tied z fs else tied z fs) ≡ []
    by true t rest =
        let a = tie_keys z f e in
        let k = tie_keys z g t in
        absurd (h.0 (sym a.0 ∙ k.0) (sym a.1 ∙ k.1) (sym a.2 ∙ k.2))
    by false t rest = rest

few_tied : (z : Finding) (fs : List Finding) → AllDiffer fs → length (tied z fs) ≤ 1
few_tied z [] h = omega arith
few_tied z (f ∷ fs) h = by (ties finding_before z f) refl (few_tied z fs h.1)
  where
    by : (b : Bool) → ties finding_before z f ≡ b → length (tied z fs) ≤ 1 → length (if b then f ∷ tied z fs else tied z fs) ≤ 1
    by true e rest = let none : length (tied z fs) ≡ 0 = ap length (none_tied z f fs e h.0) in omega arith
    by false e rest = rest

-- ---- in order

self : (f : Finding) (b : Bool) → finding_before f f ≡ b → finding_before f f ≡ false
self f true e = order.one_way f f e
self f false e = e

ties_self : (f : Finding) → ties finding_before f f ≡ true
ties_self f = ap (λ b. not b && not b) (self f (finding_before f f) refl)

each_of : (P : Finding → Type 0) (fs : List Finding) → ((i : ℕ) (d : Finding) → i < length fs → P (get_or fs i d)) → AllByRecursion P fs
each_of P [] h = tt
each_of P (f ∷ fs) h = (h 0 f (omega arith), each_of P fs (λ i d k. h (suc i) d (omega arith)))

tail_sorted : (f : Finding) (fs : List Finding) → IsSortedBy finding_before (f ∷ fs) → IsSortedBy finding_before fs
tail_sorted f fs up k d low h =
    let e : suc k + 1 ≡ suc (k + 1) = omega arith in subst (λ n. finding_before (get_or (f ∷ fs) n d) (get_or fs k d) ≡ false) e (up (suc k) d (omega arith) (omega arith))

above : (f : Finding) (fs : List Finding) → AllByRecursion (λ g. finding_before g f ≡ false) fs → length (tied f fs) ≤ 0 → AllByRecursion (λ g. finding_before f g ≡ true) fs
above f [] h few = tt
above f (g ∷ fs) h few = by (finding_before f g) refl few (λ k. above f fs h.1 k)
  where
    by : (b : Bool) → finding_before f g ≡ b → length (if not b && not (finding_before g f) then g ∷ tied f fs else tied f fs) ≤ 0 → (length (tied f fs) ≤ 0 → AllByRecursion (λ x. finding_before f x ≡ true) fs) → (finding_before f g ≡ true) × AllByRecursion (λ x. finding_before f x ≡ true) fs
    by true e k rest = (e, rest k)
    by false e k rest =
        let one : length (if not (finding_before g f) then g ∷ tied f fs else tied f fs) ≡ suc (length (tied f fs)) = ap (λ b. length (if not b then g ∷ tied f fs else tied f fs)) h.0 in
        absurd (omega (arith, one, k))

ascends : (fs : List Finding) → IsSortedBy finding_before fs → ((z : Finding) → length (tied z fs) ≤ 1) → FindingsAscend fs
ascends [] up few = tt
ascends (f ∷ fs) up few =
    let not_later : AllByRecursion (λ g. finding_before g f ≡ false) fs =
    each_of (λ g. finding_before g f ≡ false) fs (λ i d k. sorted_far finding_before order (f ∷ fs) up 0 (suc i) d (omega arith) (omega arith)) in
    let own : length (tied f (f ∷ fs)) ≡ suc (length (tied f fs)) = ap (λ b. length (if b then f ∷ tied f fs else tied f fs)) (ties_self f) in
    (above f fs not_later (omega (arith, own, few f)), ascends fs (tail_sorted f fs up) (λ z. fewer z (few z)))
  where
    fewer : (z : Finding) → length (tied z (f ∷ fs)) ≤ 1 → length (tied z fs) ≤ 1
    fewer z h = by (ties finding_before z f) h
      where
        by : (b : Bool) → length (if b then f ∷ tied z fs else tied z fs) ≤ 1 → length (tied z fs) ≤ 1
        by true k = omega arith
        by false k = k

findings_ascend : (text : List ℕ) (found : List Finding) → AreFindings text found → FindingsAscend found
findings_ascend text found are =
    let given = findings_in are.marks are.blocks in
    let apart = blocks_differ are.marks (names_of are.blocks) (line_texts text) 0 are.of_text.bounds [] are.blocks are.of_text.all are.of_text.each in
    ascends found are.ordered.sorted (λ z. subst (λ l. length l ≤ 1) (sym (are.ordered.stable z)) (few_tied z given apart.0))

-- ---- one list

in_all : (P : Finding → Type 0) (fs : List Finding) (f : Finding) → AllByRecursion P fs → Contains fs f → P f
in_all P [] f h k = none_in f k
in_all P (g ∷ fs) f h k = elim (in_cons g fs f k) [ inl e ↦ subst P e h.0 | inr r ↦ in_all P fs f h.1 r ]

one_first : (x y : Finding) (xs ys : List Finding) → FindingsAscend (x ∷ xs) → FindingsAscend (y ∷ ys) → Contains (y ∷ ys) x → Contains (x ∷ xs) y → x ≡ y
one_first x y xs ys a b h k = elim (in_cons y ys x h) [
  | inl e ↦ sym e
  | inr r ↦ elim (in_cons x xs y k) [
    | inl e ↦ e
    | inr s ↦ absurd (neither (finding_before x y) (in_all (λ g. finding_before x g ≡ true) xs y a.0 s) (order.one_way y x (in_all (λ g. finding_before y g ≡ true) ys x b.0 r)))
  ]
]

-- what a list has behind its first, the other has behind its first
behind_first : (x y : Finding) (xs ys : List Finding) → x ≡ y → FindingsAscend (x ∷ xs) → (f : Finding) → (Contains (x ∷ xs) f → Contains (y ∷ ys) f) → Contains xs f → Contains ys f
behind_first x y xs ys e a f h k = elim (in_cons y ys f (h (later_in x xs f k))) [
  | inl is ↦ absurd (neither (finding_before x f) (in_all (λ g. finding_before x g ≡ true) xs f a.0 k) (subst (λ g. finding_before x g ≡ false) (e ∙ is) (self x (finding_before x x) refl)))
  | inr r ↦ r
]

one_list : (xs ys : List Finding) → FindingsAscend xs → FindingsAscend ys → ((f : Finding) → Contains xs f → Contains ys f) → ((f : Finding) → Contains ys f → Contains xs f) → xs ≡ ys
one_list [] [] a b h k = refl
one_list [] (y ∷ ys) a b h k = none_in y (k y (first_in y ys))
one_list (x ∷ xs) [] a b h k = none_in x (h x (first_in x xs))
one_list (x ∷ xs) (y ∷ ys) a b h k =
    let first : x ≡ y = one_first x y xs ys a b (h x (first_in x xs)) (k y (first_in y ys)) in
    let rest : xs ≡ ys = one_list xs ys a.1 b.1 (λ f i. behind_first x y xs ys first a f (h f) i) (λ f i. behind_first y x ys xs (sym first) b f (k f) i) in
    ap (λ z. z ∷ xs) first ∙ ap (λ l. y ∷ l) rest

pub rows_unique : (text : List ℕ) (xs ys : List Finding) → AreRows text xs → AreRows text ys → xs ≡ ys
rows_unique text xs ys p q = one_list xs ys p.ordered q.ordered (λ f h. (q.each f).1 ((p.each f).0 h)) (λ f h. (p.each f).1 ((q.each f).0 h))

-- ---- the rows of a text

-- what the pass finds
pub found_rows : (text : List ℕ) (found : List Finding) → AreFindings text found → AreRows text found
found_rows text found are = record { each = stands_is text found are; ordered = findings_ascend text found are }

-- a text has rows where its rules can be marked
pub some_rows : (text : List ℕ) (blocks : List Block) → AreSaid text blocks → (marks : List Bool) → AreUnproductive (rules_of blocks) marks → (rows : List Finding) × AreRows text rows
some_rows text blocks said marks are =
    let order = some_order (findings_in marks blocks) in
    (order.0, found_rows text order.0 (record { blocks = blocks; of_text = said; marks = marks; are_marks = are; ordered = order.1 }))
