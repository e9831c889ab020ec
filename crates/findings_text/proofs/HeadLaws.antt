-- The rules that places define, by a table of those that have come.
use Rattle.std.proofs.Common.{◌≡◌, ◌∙◌, ◌<◌, ℕ, suc, ◌+◌, Bool, true, false, cond, List, [], ◌∷◌, ◌++◌, length, map, drop, get_or, set, replicate, refl, sym, ap, subst, arith, eq-eqb, get_or-set_same, get_or-set_other, append_assoc, ⊎_elim}
use Rattle.std.proofs.Math.Seq.{drop-cons}
use Rattle.std.specs.Prelude.{Option, Some, None, IfSome, All, nat_eq, not, ◌&&◌, if◌then◌else◌, filter, find, ◌≤◌}
use Rattle.std.proofs.lemmas.List.{get_or-replicate, get_or_past, length-replicate}
use Rattle.std.proofs.lemmas.List.Elements.{All-cons, All-filter}
use Rattle.std.specs.Option.{option_map_or}
use Rattle.std.proofs.lemmas.Bool.{cases_eq, cases_lt, ne_eqb}
use Rattle.abnf_token.specs.Folded.{lowercase}
use Rattle.abnf_parts.specs.Names.{Name, rule_number}
use Rattle.abnf_names.specs.declared.place.Spot.{Spot}
use Rattle.abnf_names.specs.Places.{Named, named_at}
use Rattle.abnf_names.specs.Rules.{Grammar, IsGrammar}
use Rattle.abnf_names.proofs.Within.{rule_within}
use Rattle.findings_text.specs.declared.rules.Head.{Head}
use Rattle.findings_text.specs.Rules.{ahead, also_told, defined_at, defines_rule, head_at, heads, if_new}

-- ---- a test behind another

filter_kept : {X : Type 0} (p : X → Bool) (b : Bool) (x : X) (xs : List X) → filter p (cond b (x ∷ xs) xs) ≡ cond (b && p x) (x ∷ filter p xs) (filter p xs)
filter_kept p true x xs = refl
filter_kept p false x xs = refl

filter_both : {X : Type 0} (p q both : X → Bool) → ((x : X) → (q x && p x) ≡ both x) → (xs : List X) → filter p (filter q xs) ≡ filter both xs
filter_both p q both is [] = refl
filter_both p q both is (x ∷ xs) =
    filter_kept p (q x) x (filter q xs) ∙ (λ i. cond (is x i) (x ∷ filter_both p q both is xs i) (filter_both p q both is xs i))

filter_all : {X : Type 0} (p : X → Bool) → ((x : X) → p x ≡ true) → (xs : List X) → filter p xs ≡ xs
filter_all p all [] = refl
filter_all p all (x ∷ xs) = λ i. cond (all x i) (x ∷ filter_all p all xs i) (filter_all p all xs i)

-- ---- rules that haven't come

-- the rule of a head hasn't come yet
abbrev pub is_left : List Bool → Named × ℕ → Bool
is_left told head = not (get_or told head.1 false)

abbrev pub one_head : Named → Option ℕ → List (Named × ℕ)
one_head n None = []
one_head n (Some r) = (n, r) ∷ []

told_by : (told : List Bool) (r k : ℕ) → get_or told r false ≡ true → (not (nat_eq r k) && not (get_or told k false)) ≡ not (get_or told k false)
told_by told r k is =
    ⊎_elim
    (λ (e : r ≡ k).
    let same : nat_eq r k ≡ true = eq-eqb r k e in
    let at : get_or told k false ≡ true = ap (λ n. get_or told n false) (sym e) ∙ is in
    (λ i. not (same i) && not (at i)) ∙ (λ i. not (sym at i)))
    (λ (ne : r ≡ k → ⊥). let other : nat_eq r k ≡ false = ne_eqb r k ne in (λ i. not (other i) && not (get_or told k false)))
    (cases_eq r k)

new_by : (told : List Bool) (r k : ℕ) → r < length told → (not (nat_eq r k) && not (get_or told k false)) ≡ not (get_or (set told r true) k false)
new_by told r k within =
    ⊎_elim
    (λ (e : r ≡ k).
    let same : nat_eq r k ≡ true = eq-eqb r k e in
    let at : get_or (set told r true) k false ≡ true = ap (λ n. get_or (set told r true) n false) (sym e) ∙ get_or-set_same told r true false within in
    (λ i. not (same i) && not (get_or told k false)) ∙ (λ i. not (sym at i)))
    (λ (ne : r ≡ k → ⊥).
    let other : nat_eq r k ≡ false = ne_eqb r k ne in
    let at : get_or (set told r true) k false ≡ get_or told k false = get_or-set_other told r k true false (λ e. ne (sym e)) in
    (λ i. not (other i) && not (sym at i)))
    (cases_eq r k)

some_next : (told : List Bool) (n : Named) (r : ℕ) (b : Bool) (left : List (Named × ℕ)) → get_or told r false ≡ b → IfSome (if b then None else Some r) (λ r. r < length told)
    → cond (not b) ((n, r) ∷ filter (is_left told) (filter (λ head. not (nat_eq r head.1)) left)) (filter (is_left told) (filter (λ head. not (nat_eq r head.1)) left))
    ≡ one_head n (if b then None else Some r) ++ filter (is_left (also_told (if b then None else Some r) told)) left
some_next told n r true left is within =
    filter_both (is_left told) (λ head. not (nat_eq r head.1)) (is_left told) (λ head. told_by told r head.1 is) left
some_next told n r false left is within =
    ap (λ (hs : List (Named × ℕ)). (n, r) ∷ hs) (filter_both (is_left told) (λ head. not (nat_eq r head.1)) (is_left (set told r true)) (λ head. new_by told r head.1 within) left)

-- of what a place defines, and what is left behind it
left_next : (told : List Bool) (n : Named) (rule : Option ℕ) (left : List (Named × ℕ)) → IfSome (if_new told rule) (λ r. r < length told)
    → filter (is_left told) (ahead n rule left) ≡ one_head n (if_new told rule) ++ filter (is_left (also_told (if_new told rule) told)) left
left_next told n None left within = refl
left_next told n (Some r) left within = some_next told n r (get_or told r false) left refl within

none_told : (count k : ℕ) → get_or (replicate count false) k false ≡ false
none_told count k =
    ⊎_elim
    (λ (l : k < count). get_or-replicate count k false false l)
    (λ (m : count ≤ k). get_or_past (replicate count false) k false (omega (arith, length-replicate count false)))
    (cases_lt k count)

all_left : (count : ℕ) (left : List (Named × ℕ)) → filter (is_left (replicate count false)) left ≡ left
all_left count left = filter_all (is_left (replicate count false)) (λ head. λ i. not (none_told count head.1 i)) left

-- ---- the loop over the places

-- the heads that are found, and those that are left behind the places before i
abbrev pub AreFound : List Name → List Spot → List Bool → ℕ → List Head → Type 0
AreFound names spots told i found =
    heads names (map named_at spots) ≡ map head_at found ++ filter (is_left told) (heads names (map named_at (drop i spots)))

pub found_first : (names : List Name) (spots : List Spot) (told : List Bool) (count : ℕ) (found : List Head) → told ≡ replicate count false → found ≡ [] → AreFound names spots told 0 found
found_first names spots told count found none is =
    let all : List (Named × ℕ) = heads names (map named_at spots) in
    sym (all_left count all) ∙ (λ i. map head_at (sym is i) ++ filter (is_left (sym none i)) all)

rest_is : (spots : List Spot) (i : ℕ) (d : Spot) → i < length spots → map named_at (drop i spots) ≡ named_at (get_or spots i d) ∷ map named_at (drop (i + 1) spots)
rest_is spots i d less =
    ap (map named_at) (drop-cons spots i d less ∙ ap (λ k. get_or spots i d ∷ drop k spots) (let e : suc i ≡ i + 1 = omega arith in e))

-- one place more, and the head of the rule that is new there
pub found_next : (names : List Name) (spots : List Spot) (told now : List Bool) (i : ℕ) (found more : List Head) (d : Spot) (rule : Option ℕ)
    → AreFound names spots told i found → i < length spots
    → rule ≡ if_new told (defined_at names (named_at (get_or spots i d))) → IfSome rule (λ r. r < length told) → now ≡ also_told rule told
    → map head_at more ≡ map head_at found ++ one_head (named_at (get_or spots i d)) rule → AreFound names spots now (i + 1) more
found_next names spots told now i found more d rule are less new within also grown =
    let n = named_at (get_or spots i d) in
    let left : List (Named × ℕ) = heads names (map named_at (drop (i + 1) spots)) in
    are
    ∙ (ap (λ (ns : List Named). map head_at found ++ filter (is_left told) (heads names ns)) (rest_is spots i d less)
    ∙ (ap (λ (hs : List (Named × ℕ)). map head_at found ++ hs)
    (left_next told n (defined_at names n) left (subst (λ o. IfSome o (λ r. r < length told)) new within)
    ∙ ((λ j. one_head n (sym new j) ++ filter (is_left (also_told (sym new j) told)) left) ∙ (λ j. one_head n rule ++ filter (is_left (sym also j)) left)))
    ∙ (sym (append_assoc (map head_at found) (one_head n rule) (filter (is_left now) left)) ∙ (λ j. sym grown j ++ filter (is_left now) left))))

-- ---- the heads of these are among the rules

within_ahead : (count : ℕ) (n : Named) (rule : Option ℕ) (left : List (Named × ℕ)) → IfSome rule (λ r. r < count) → All (λ head. head.1 < count) left → All (λ head. head.1 < count) (ahead n rule left)
within_ahead count n None left within all = all
within_ahead count n (Some r) left within all =
    All-cons (λ head. head.1 < count) (n, r) (filter (λ head. not (nat_eq r head.1)) left) within
    (All-filter (λ head. not (nat_eq r head.1)) (λ head. head.1 < count) left all)

within_if : (count : ℕ) (b : Bool) (rule : Option ℕ) → IfSome rule (λ r. r < count) → IfSome (if b then rule else None) (λ r. r < count)
within_if count true rule within = within
within_if count false rule within = tt

pub heads_within : (g : Grammar) → IsGrammar g → (ns : List Named) → All (λ head. head.1 < length g.rules) (heads g.names ns)
heads_within g is [] = λ k d less. absurd (omega arith)
heads_within g is (n ∷ ns) =
    within_ahead (length g.rules) n (defined_at g.names n) (heads g.names ns)
    (within_if (length g.rules) n.defines (rule_number g.names (lowercase n.text)) (rule_within g is (lowercase n.text))) (heads_within g is ns)

-- ---- of each rule there is one head

filter_none : {X : Type 0} (p : X → Bool) → ((x : X) → p x ≡ false) → (xs : List X) → filter p xs ≡ []
filter_none p none [] = refl
filter_none p none (x ∷ xs) = (λ i. cond (none x i) (x ∷ filter p xs) (filter p xs)) ∙ filter_none p none xs

not_both : (b : Bool) → (not b && b) ≡ false
not_both true = refl
not_both false = refl

same_not_both : (q r k : ℕ) → r ≡ q → (not (nat_eq q k) && nat_eq r k) ≡ false
same_not_both q r k same = ap (λ n. not (nat_eq q k) && nat_eq n k) same ∙ not_both (nat_eq q k)

other_passes : (q r k : ℕ) → (r ≡ q → ⊥) → (not (nat_eq q k) && nat_eq r k) ≡ nat_eq r k
other_passes q r k other =
    ⊎_elim
    (λ (e : q ≡ k).
    let is : nat_eq q k ≡ true = eq-eqb q k e in
    let isnt : nat_eq r k ≡ false = ne_eqb r k (λ f. other (f ∙ sym e)) in
    (λ i. not (is i) && nat_eq r k) ∙ sym isnt)
    (λ (ne : q ≡ k → ⊥). let isnt : nat_eq q k ≡ false = ne_eqb q k ne in (λ i. not (isnt i) && nat_eq r k))
    (cases_eq q k)

abbrev first_head : ℕ → Option Named → List (Named × ℕ)
first_head r first = option_map_or (λ n. (n, r) ∷ []) first []

-- behind the first place that defines rule q
first_some : (r q : ℕ) (n : Named) (left : List (Named × ℕ)) (first : Option Named) → filter (λ head. nat_eq r head.1) left ≡ first_head r first
    → filter (λ head. nat_eq r head.1) ((n, q) ∷ filter (λ head. not (nat_eq q head.1)) left) ≡ first_head r (cond (nat_eq r q) (Some n) first)
first_some r q n left first rest =
    ⊎_elim
    (λ (e : r ≡ q).
    let is : nat_eq r q ≡ true = eq-eqb r q e in
    let none : filter (λ (head : Named × ℕ). nat_eq r head.1) (filter (λ head. not (nat_eq q head.1)) left) ≡ [] =
    filter_both (λ head. nat_eq r head.1) (λ head. not (nat_eq q head.1)) (λ head. false) (λ head. same_not_both q r head.1 e) left ∙ filter_none (λ head. false) (λ head. refl) left in
    (λ i. cond (is i) ((n, sym e i) ∷ none i) (none i)) ∙ (λ i. first_head r (cond (sym is i) (Some n) first)))
    (λ (ne : r ≡ q → ⊥).
    let isnt : nat_eq r q ≡ false = ne_eqb r q ne in
    let left_is : filter (λ (head : Named × ℕ). nat_eq r head.1) (filter (λ head. not (nat_eq q head.1)) left) ≡ first_head r first =
    filter_both (λ head. nat_eq r head.1) (λ head. not (nat_eq q head.1)) (λ head. nat_eq r head.1) (λ head. other_passes q r head.1 ne) left ∙ rest in
    (λ i. cond (isnt i) ((n, q) ∷ left_is i) (left_is i)) ∙ (λ i. first_head r (cond (sym isnt i) (Some n) first)))
    (cases_eq r q)

first_ahead : (r : ℕ) (n : Named) (rule : Option ℕ) (left : List (Named × ℕ)) (first : Option Named) → filter (λ head. nat_eq r head.1) left ≡ first_head r first
    → filter (λ head. nat_eq r head.1) (ahead n rule left) ≡ first_head r (cond (option_map_or (nat_eq r) rule false) (Some n) first)
first_ahead r n None left first rest = rest
first_ahead r n (Some q) left first rest = first_some r q n left first rest

pub first_heads : (names : List Name) (places : List Named) (r : ℕ) → filter (λ head. nat_eq r head.1) (heads names places) ≡ option_map_or (λ n. (n, r) ∷ []) (find (defines_rule names r) places) []
first_heads names [] r = refl
first_heads names (n ∷ ns) r = first_ahead r n (defined_at names n) (heads names ns) (find (defines_rule names r) ns) (first_heads names ns r)
