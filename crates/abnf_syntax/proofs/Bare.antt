-- What is said of items doesn't depend on where their texts lie in memory: it is the same of bare items, whose texts all lie at one
-- address. So a text has one list of blocks, one list of bare items in each, and one fault of a block at most.
use Rattle.std.proofs.Common.{◌≡◌, ℕ, suc, ◌+◌, ◌<◌, ◌≤◌, Bool, true, false, List, [], ◌∷◌, ◌++◌, length, map, take, drop, Option, Some, None, option_map, refl, sym, ap, subst, ◌∙◌, arith, inl, inr}
use Rattle.std.specs.Prelude.{if◌then◌else◌, ◌&&◌, slice_index_or, ◌^◌}
use Rattle.std.specs.List.{flat_map}
use Rattle.std.proofs.Math.Bridge.{le_prop}
use denote.Struct.Props.{props}
use Rattle.std.proofs.lemmas.Bool.{cases_order, false≢true}
use Rattle.std.proofs.lemmas.List.{length-map, map-append, take-append-drop}
use Rattle.abnf_token.specs.declared.token.Kind.{Kind}
use Rattle.abnf_token.specs.declared.token.Token.{Token}
use Rattle.abnf_token.specs.Classes.{Text}
use Rattle.abnf_token.specs.Tokens.{TokensOf, view}
use Rattle.abnf_token.proofs.Laws.{one_answer}
use Rattle.abnf_syntax.specs.declared.block.Head.{Head}
use Rattle.abnf_syntax.specs.declared.item.Item.{Item}
use Rattle.abnf_syntax.specs.declared.fault.SyntaxFault.{SyntaxFault}
use Rattle.abnf_syntax.specs.declared.tree.Rule.{Rule}
use Rattle.abnf_syntax.specs.Kinds.{is_item, is_name_kind, is_defined_as, opens, closes}
use Rattle.abnf_syntax.specs.Blocks.{begins_at, NoneBegins, IsBlock, AreBlocks}
use Rattle.abnf_syntax.specs.Items as items
use Rattle.abnf_syntax.specs.Items.{with_line_end, items_behind, items_of, AreTokens, AreItems}
use Rattle.abnf_syntax.specs.Grammar.{kind_of, Derives}
use Rattle.abnf_syntax.specs.Heads.{head_of}
use Rattle.abnf_syntax.specs.Faults.{last_of, without_first, open_after, open_from, rows_of, least, shown, Faults}
use Rattle.abnf_syntax.proofs.Cons.{cons_same}
use Rattle.abnf_syntax.proofs.Exact.{one_fault, parse_none, some_not_none}
use Rattle.abnf_syntax.proofs.Whole.{parse_complete}

abbrev pub bare_token : Token → Token
bare_token t = record { kind = t.kind; text = record { ref_ptr = (0, 0); now = t.text.now }; line = t.line; start = t.start; in_line = t.in_line }

abbrev pub bare : Item → Item
bare item = record { token = bare_token item.token; apart = item.apart; solid = item.solid }

-- ---- blocks

not_both : {A : Type 0} (b : Bool) → b ≡ true → b ≡ false → A
not_both b t f = absurd (false≢true (sym f ∙ t))

-- where none begins no block does
none_there : {A : Type 0} (ls : List Text) (from to : ℕ) (b : ℕ × ℕ) → NoneBegins ls from to → from ≤ b.0 → b.0 < to → IsBlock ls b.0 b.1 → A
none_there ls from to b none reached before is = not_both (begins_at ls b.0) is.begins (none b.0 reached before)

same_first : (ls : List Text) (from : ℕ) (b c : ℕ × ℕ) → from ≤ b.0 → from ≤ c.0 → NoneBegins ls from b.0 → NoneBegins ls from c.0 → IsBlock ls b.0 b.1 → IsBlock ls c.0 c.1 → b.0 ≡ c.0
same_first ls from b c rb rc nb nc ib ic =
    elim (cases_order b.0 c.0) [
      | inl same ↦ same
      | inr order ↦ elim order [ inl less ↦ none_there ls from c.0 b nc rb less ib | inr more ↦ none_there ls from b.0 c nb rc more ic ]
    ]

-- the one that ends first isn't the last
ends_later : {A : Type 0} (ls : List Text) (first b c : ℕ) → IsBlock ls first b → IsBlock ls first c → b < c → A
ends_later ls first b c ib ic less = not_both (begins_at ls b) (ib.ends (omega (arith, less, ic.within))) (ic.rest b (omega (arith, ib.some)) less)

same_end : (ls : List Text) (first b c : ℕ) → IsBlock ls first b → IsBlock ls first c → b ≡ c
same_end ls first b c ib ic =
    elim (cases_order b c) [
      | inl same ↦ same
      | inr order ↦ elim order [ inl less ↦ ends_later ls first b c ib ic less | inr more ↦ ends_later ls first c b ic ib more ]
    ]

pub one_list : (ls : List Text) (from : ℕ) (bs cs : List (ℕ × ℕ)) → AreBlocks ls from bs → AreBlocks ls from cs → bs ≡ cs
one_list ls from [] [] p q = refl
one_list ls from [] (c ∷ cs) p q = none_there ls from (length ls) c p q.0 (omega (arith, q.2.some, q.2.within)) q.2
one_list ls from (b ∷ bs) [] p q = none_there ls from (length ls) b q p.0 (omega (arith, p.2.some, p.2.within)) p.2
one_list ls from (b ∷ bs) (c ∷ cs) p q =
    let first : b.0 ≡ c.0 = same_first ls from b c p.0 q.0 p.1 q.1 p.2 q.2 in
    let end : b.1 ≡ c.1 = same_end ls c.0 b.1 c.1 (subst (λ n. IsBlock ls n b.1) first p.2) q.2 in
    (λ i. (first i, end i) ∷ one_list ls b.1 bs cs p.3 (subst (λ n. AreBlocks ls n cs) (sym end) q.3) i)

-- ---- items

abbrev View : Type 0
View = Kind × Text × ℕ × ℕ

abbrev of_view : (v : View) → v.3 + length v.1 < 2 ^ 64 → Token
of_view v fits = record { kind = v.0; text = record { ref_ptr = (0, 0); now = v.1 }; line = v.2; start = v.3; in_line = fits }

view_same : (v w : View) (p : v.3 + length v.1 < 2 ^ 64) (q : w.3 + length w.1 < 2 ^ 64) → v ≡ w → of_view v p ≡ of_view w q
view_same v w p q e = subst (λ w. (q : w.3 + length w.1 < 2 ^ 64) → of_view v p ≡ of_view w q) e (λ q. ap (of_view v) (le_prop p q)) q

bare_tokens : (ts us : List Token) → map view ts ≡ map view us → map bare_token ts ≡ map bare_token us
bare_tokens [] [] e = refl
bare_tokens [] (u ∷ us) e = absurd (cc)
bare_tokens (t ∷ ts) [] e = absurd (cc)
bare_tokens (t ∷ ts) (u ∷ us) e = let h = cons_same e in (λ i. view_same (view t) (view u) t.in_line u.in_line h.0 i ∷ bare_tokens ts us h.1 i)

line_bare : (line : ℕ) (left : Text) (ts us : List Token) → TokensOf line 0 left ts → TokensOf line 0 left us → map bare_token ts ≡ map bare_token us
line_bare line left ts us p q = bare_tokens ts us (one_answer left line 0 ts us p q)

lines_bare : (ls : List Text) (at : ℕ) (ts us : List (List Token)) → length ts ≡ length us → AreTokens ls at ts → AreTokens ls at us → map (map bare_token) ts ≡ map (map bare_token) us
lines_bare ls at [] [] e p q = refl
lines_bare ls at [] (u ∷ us) e p q = absurd (omega (arith, e))
lines_bare ls at (t ∷ ts) [] e p q = absurd (omega (arith, e))
lines_bare ls at (t ∷ ts) (u ∷ us) e p q =
    (λ i. line_bare at (slice_index_or ls at []) t u p.0 q.0 i ∷ lines_bare ls (suc at) ts us (omega (arith, e)) p.1 q.1 i)

abbrev bare_pair : Token × Bool → Token × Bool
bare_pair p = (bare_token p.0, p.1)

abbrev bare_some : Option Token → Option Token
bare_some o = option_map bare_token o

behind_bare : (apart : Bool) (os : List (Option Token)) → items_behind apart (map bare_some os) ≡ map bare_pair (items_behind apart os)
behind_bare apart [] = refl
behind_bare apart (None ∷ os) = behind_bare true os
behind_bare apart (Some t ∷ os) = by (is_item t.kind) (behind_bare false os) (behind_bare true os)
  where
    by : (b : Bool) → items_behind false (map bare_some os) ≡ map bare_pair (items_behind false os) → items_behind true (map bare_some os) ≡ map bare_pair (items_behind true os) →
        (if b then (bare_token t, apart) ∷ items_behind false (map bare_some os) else items_behind true (map bare_some os))
        ≡ map bare_pair (if b then (t, apart) ∷ items_behind false os else items_behind true os)
    by true item other = ap (λ l. (bare_token t, apart) ∷ l) item
    by false item other = other

of_bare : (os : List (Option Token)) → items_of (map bare_some os) ≡ map bare_pair (items_of os)
of_bare [] = refl
of_bare (None ∷ os) = of_bare os
of_bare (Some t ∷ os) = by (is_item t.kind) (of_bare os)
  where
    by : (b : Bool) → items_of (map bare_some os) ≡ map bare_pair (items_of os) → (if b then (bare_token t, false) ∷ items_behind false (map bare_some os) else items_of (map bare_some os))
        ≡ map bare_pair (if b then (t, false) ∷ items_behind false os else items_of os)
    by true other = ap (λ l. (bare_token t, false) ∷ l) (behind_bare false os)
    by false other = other

line_end_bare : (ts : List Token) → with_line_end (map bare_token ts) ≡ map bare_some (with_line_end ts)
line_end_bare [] = refl
line_end_bare (t ∷ ts) = ap (λ l. Some (bare_token t) ∷ l) (line_end_bare ts)

line_ends_bare : (tss : List (List Token)) → flat_map with_line_end (map (map bare_token) tss) ≡ map bare_some (flat_map with_line_end tss)
line_ends_bare [] = refl
line_ends_bare (ts ∷ tss) = (λ i. line_end_bare ts i ++ line_ends_bare tss i) ∙ sym (map-append bare_some (with_line_end ts) (flat_map with_line_end tss))

abbrev item_of : (p : Token × Bool) → is_item p.0.kind ≡ true → Item
item_of p solid = record { token = p.0; apart = p.1; solid = solid }

item_same : (p q : Token × Bool) (a : is_item p.0.kind ≡ true) (b : is_item q.0.kind ≡ true) → p ≡ q → item_of p a ≡ item_of q b
item_same p q a b e = subst (λ q. (b : is_item q.0.kind ≡ true) → item_of p a ≡ item_of q b) e (λ b. let props : IsProp (is_item p.0.kind ≡ true) = hlevel props in ap (item_of p) (props a b)) b

bare_items : (xs ys : List Item) → map bare_pair (map items.view xs) ≡ map bare_pair (map items.view ys) → map bare xs ≡ map bare ys
bare_items [] [] e = refl
bare_items [] (y ∷ ys) e = absurd (cc)
bare_items (x ∷ xs) [] e = absurd (cc)
bare_items (x ∷ xs) (y ∷ ys) e =
    let h = cons_same e in (λ i. item_same (bare_pair (items.view x)) (bare_pair (items.view y)) x.solid y.solid h.0 i ∷ bare_items xs ys h.1 i)

by_tokens : (ls : List Text) (first end : ℕ) (xs : List Item) (h : AreItems ls first end xs) → map bare_pair (map items.view xs) ≡ items_of (flat_map with_line_end (map (map bare_token) h.tokens))
by_tokens ls first end xs h =
    ap (map bare_pair) h.items_are ∙ (sym (of_bare (flat_map with_line_end h.tokens)) ∙ ap items_of (sym (line_ends_bare h.tokens)))

pub same_items : (ls : List Text) (first end : ℕ) (xs ys : List Item) → AreItems ls first end xs → AreItems ls first end ys → map bare xs ≡ map bare ys
same_items ls first end xs ys p q =
    bare_items xs ys (by_tokens ls first end xs p
    ∙ (ap (λ l. items_of (flat_map with_line_end l)) (lines_bare ls first p.tokens q.tokens (omega (arith, p.all, q.all)) p.tokens_are q.tokens_are)
    ∙ sym (by_tokens ls first end ys q)))

-- ---- heads

abbrev pub bare_head : Head → Head
bare_head head = record { name = bare_token head.name; adds = head.adds }

head_by : (b : Bool) (head : Head) → (if b then Some (bare_head head) else None) ≡ option_map bare_head (if b then Some head else None)
head_by true head = refl
head_by false head = refl

pub head_bare : (xs : List Item) → head_of (map bare xs) ≡ option_map bare_head (head_of xs)
head_bare [] = refl
head_bare (x ∷ []) = refl
head_bare (x ∷ y ∷ xs) = head_by (is_name_kind (kind_of x) && is_defined_as (kind_of y)) _

-- ---- faults

last_bare : (last : Item) (xs : List Item) → last_of (bare last) (map bare xs) ≡ bare (last_of last xs)
last_bare last [] = refl
last_bare last (x ∷ xs) = last_bare x xs

after_bare : (ts : List Token) (x : Item) → open_after (map bare_token ts) (bare x) ≡ map bare_token (open_after ts x)
after_bare ts x = by (opens (kind_of x)) (closes (kind_of x)) ts
  where
    by : (b c : Bool) (ts : List Token) → (if b then bare_token x.token ∷ map bare_token ts else (if c then without_first (map bare_token ts) else map bare_token ts))
        ≡ map bare_token (if b then x.token ∷ ts else (if c then without_first ts else ts))
    by true c ts = refl
    by false true [] = refl
    by false true (t ∷ ts) = refl
    by false false ts = refl

open_bare : (ts : List Token) (xs : List Item) → open_from (map bare_token ts) (map bare xs) ≡ map bare_token (open_from ts xs)
open_bare ts [] = refl
open_bare ts (x ∷ xs) = ap (λ l. open_from l (map bare xs)) (after_bare ts x) ∙ open_bare (open_after ts x) xs

rows_bare : (last : Item) (ts : List Token) (rest : List Item) → rows_of (bare last) (map bare_token ts) (map bare rest) ≡ rows_of last ts rest
rows_bare last [] [] = refl
rows_bare last (t ∷ ts) [] = refl
rows_bare last [] (x ∷ []) = refl
rows_bare last [] (x ∷ y ∷ rest) = refl
rows_bare last (t ∷ ts) (x ∷ []) = rw (length-map ts bare_token) refl
rows_bare last (t ∷ ts) (x ∷ y ∷ rest) = rw (length-map ts bare_token) refl

shown_bare : (front rest : List Item) → shown (map bare front) (map bare rest) ≡ shown front rest
shown_bare [] [] = refl
shown_bare [] (x ∷ rest) = refl
shown_bare (head ∷ []) [] = refl
shown_bare (head ∷ []) (x ∷ rest) = refl
shown_bare (head ∷ defined ∷ body) rest =
    (λ i. least (rows_of (last_bare defined body i) (open_bare [] body i) (map bare rest))) ∙ ap least (rows_bare (last_of defined body) (open_from [] body) rest)

split_bare : (xs us vs : List Item) → map bare xs ≡ us ++ vs → (map bare (take (length us) xs) ≡ us) × (map bare (drop (length us) xs) ≡ vs)
split_bare xs [] vs e = (refl, e)
split_bare [] (u ∷ us) vs e = absurd (cc)
split_bare (x ∷ xs) (u ∷ us) vs e =
    let first : bare x ≡ u = cc in
    let rest = split_bare xs us vs (cc) in
    ((λ i. first i ∷ rest.0 i), rest.1)

shown_at : (xs us vs : List Item) → map bare xs ≡ us ++ vs → shown us vs ≡ shown (take (length us) xs) (drop (length us) xs)
shown_at xs us vs e =
    let s = split_bare xs us vs e in
    (λ i. shown (sym s.0 i) (sym s.1 i)) ∙ shown_bare (take (length us) xs) (drop (length us) xs)

front_length : (xs us vs : List Item) → map bare xs ≡ us ++ vs → length (take (length us) xs) ≡ length us
front_length xs us vs e = sym (length-map (take (length us) xs) bare) ∙ ap length (split_bare xs us vs e).0

faults_bare : (xs : List Item) (fault : SyntaxFault) → Faults xs fault → Faults (map bare xs) fault
faults_bare xs fault f = record {
  front = map bare f.front;
  rest = map bare f.rest;
  split = ap (map bare) f.split ∙ map-append bare f.front f.rest;
  shows = shown_bare f.front f.rest ∙ f.shows;
  first = λ before after e less.
      shown_at xs before after e
      ∙ f.first (take (length before) xs) (drop (length before) xs) (sym (take-append-drop (length before) xs))
      (omega (arith, less, length-map f.front bare, front_length xs before after e));
}

-- Items that are alike show one fault.
pub same_fault : (xs ys : List Item) (a b : SyntaxFault) → map bare xs ≡ map bare ys → Faults xs a → Faults ys b → a ≡ b
same_fault xs ys a b e p q = one_fault (map bare xs) a b (faults_bare xs a p) (subst (λ l. Faults l b) (sym e) (faults_bare ys b q))

-- They don't both say a rule and show a fault.
pub no_fault : {A : Type 0} (xs ys : List Item) (rule : Rule) (fault : SyntaxFault) → map bare xs ≡ map bare ys → Derives xs rule → Faults ys fault → A
no_fault xs ys rule fault e d q =
    let f : Faults (map bare xs) fault = subst (λ l. Faults l fault) (sym e) (faults_bare ys fault q) in
    let n = length f.front in
    some_not_none (shown f.front f.rest) fault f.shows
    (shown_at xs f.front f.rest f.split ∙ parse_none xs rule (parse_complete xs rule d) (take n xs) (drop n xs) (sym (take-append-drop n xs)))
