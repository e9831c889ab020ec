-- The places of the names of a grammar ascend. Points are pairs of a line and a byte of it.
use Rattle.std.proofs.Common.{◌≡◌, ℕ, suc, ◌+◌, ◌<◌, ◌≤◌, ◌⊎◌, inl, inr, Bool, true, false, List, [], ◌∷◌, ◌++◌, length, map, drop, Option, Some, None, refl, sym, ap, subst, ◌∙◌, arith}
use Rattle.std.specs.Prelude.{◌||◌, ◌&&◌, nat_lt, nat_eq, flat_map, slice_index_or, if◌then◌else◌}
use Rattle.std.specs.Option.{is_some}
use Rattle.std.proofs.lemmas.Bool.{cases_lt, lt-ltb, le-ltb, eq-eqb}
use Rattle.std.proofs.lemmas.List.{map-append}
use Rattle.std.proofs.lemmas.List.Elements.{All-nil, All-cons}
use Rattle.abnf_token.specs.Classes.{Text}
use Rattle.abnf_token.specs.Tokens.{TokensOf}
use Rattle.abnf_token.specs.declared.token.Kind.{Kind}
use Rattle.abnf_token.specs.declared.token.Token.{Token}
use Rattle.abnf_syntax.specs.declared.item.Item.{Item}
use Rattle.abnf_syntax.specs.Kinds.{is_item, is_name_kind}
use Rattle.abnf_syntax.specs.Grammar.{kind_of}
use Rattle.abnf_syntax.specs.Faults.{place_of}
use Rattle.abnf_syntax.specs.Heads.{head_of}
use Rattle.abnf_syntax.specs.Blocks.{AreBlocks, line_texts}
use Rattle.abnf_syntax.specs.Items.{AreItems, AreTokens, items_behind, items_of, view, with_line_end}
use Rattle.abnf_names.specs.Said.{Block, AreWithin}
use Rattle.abnf_names.specs.Places.{AllBehind, Ascend, Named, begins_before, is_touched, named, places_in, places_of, uses_after}
use Rattle.abnf_names.specs.Rules.{Grammar, IsGrammar}

abbrev pub Point : Type 0
Point = ℕ × ℕ

-- the second point isn't before the first
abbrev pub Ahead : Point → Point → Type 0
Ahead p q = (p.0 < q.0) ⊎ ((p.0 ≡ q.0) × (p.1 ≤ q.1))

abbrev pub behind : Point → Point
behind p = (p.0, suc p.1)

-- The points ascend between two others: none is before the one, and the other isn't before what stands behind the last.
abbrev pub Run : Point → List Point → Point → Type 0
Run p [] q = Ahead p q
Run p (x ∷ xs) q = Ahead p x × Run (behind x) xs q

pub ahead_trans : (p q r : Point) → Ahead p q → Ahead q r → Ahead p r
ahead_trans p q r (inl a) (inl b) = inl (omega (arith, a, b))
ahead_trans p q r (inl a) (inr b) = inl (let e : q.0 ≡ r.0 = b.0 in omega (arith, a, e))
ahead_trans p q r (inr a) (inl b) = inl (let e : p.0 ≡ q.0 = a.0 in omega (arith, b, e))
ahead_trans p q r (inr a) (inr b) = inr (a.0 ∙ b.0, (let l : p.1 ≤ q.1 = a.1 in let m : q.1 ≤ r.1 = b.1 in omega (arith, l, m)))

pub ahead_behind : (p : Point) → Ahead p (behind p)
ahead_behind p = inr (refl, omega arith)

-- ---- runs

earlier : (p q r : Point) (xs : List Point) → Ahead p q → Run q xs r → Run p xs r
earlier p q r [] a h = ahead_trans p q r a h
earlier p q r (x ∷ xs) a h = (ahead_trans p q x a h.0, h.1)

joined : (p q r : Point) (xs ys : List Point) → Run p xs q → Run q ys r → Run p (xs ++ ys) r
joined p q r [] ys h k = earlier p q r ys h k
joined p q r (x ∷ xs) ys h k = (h.0, joined (behind x) q r xs ys h.1 k)

fewer : (p r x : Point) (xs : List Point) → Run p (x ∷ xs) r → Run p xs r
fewer p r x xs h = earlier p (behind x) r xs (ahead_trans p x (behind x) h.0 (ahead_behind x)) h.1

-- ---- tokens and items

abbrev token_point : Token → Point
token_point t = (t.line, t.start)

abbrev token_points : List (Option Token) → List Point
token_points [] = []
token_points (None ∷ ts) = token_points ts
token_points (Some t ∷ ts) = token_point t ∷ token_points ts

abbrev pair_point : Token × Bool → Point
pair_point p = token_point p.0

abbrev pub item_point : Item → Point
item_point item = token_point item.token

next_line : (line start : ℕ) → Ahead (line, start) (suc line, 0)
next_line line start = inl (omega arith)

line_run : (line start : ℕ) (left : Text) (ts : List Token) → TokensOf line start left ts → Run (line, start) (token_points (with_line_end ts)) (suc line, 0)
line_run line start left [] h = next_line line start
line_run line start left (t ∷ ts) h =
    let there : t.line ≡ line = h.0.line in
    let at : t.start ≡ start = h.0.start in
    let some : 0 < length t.text.now = h.0.next.some in (
      inr (sym there, omega (arith, at)),
      earlier (t.line, suc t.start) (line, start + length t.text.now) (suc line, 0) (token_points (with_line_end ts)) (inr (there, omega (arith, at, some)))
          (line_run line (start + length t.text.now) (drop (length t.text.now) left) ts h.1),
    )

points_append : (ts us : List (Option Token)) → token_points (ts ++ us) ≡ token_points ts ++ token_points us
points_append [] us = refl
points_append (None ∷ ts) us = points_append ts us
points_append (Some t ∷ ts) us = ap (λ l. token_point t ∷ l) (points_append ts us)

lines_run : (ls : List Text) (at end : ℕ) (tss : List (List Token)) → at + length tss ≡ end → AreTokens ls at tss → Run (at, 0) (token_points (flat_map with_line_end tss)) (end, 0)
lines_run ls at end [] all h = inr (omega (arith, all), omega arith)
lines_run ls at end (ts ∷ tss) all h =
    subst (λ l. Run (at, 0) l (end, 0)) (sym (points_append (with_line_end ts) (flat_map with_line_end tss)))
    (joined (at, 0) (suc at, 0) (end, 0) (token_points (with_line_end ts)) (token_points (flat_map with_line_end tss)) (line_run at 0 (slice_index_or ls at []) ts h.0)
    (lines_run ls (suc at) end tss (omega (arith, all)) h.1))

behind_by : (b : Bool) (p q : Point) (t : Token) (apart : Bool) (if_item if_none : List (Token × Bool)) → Ahead p (token_point t) → Run (behind (token_point t)) (map pair_point if_item) q → Run p (map pair_point if_none) q →
    Run p (map pair_point (if b then (t, apart) ∷ if_item else if_none)) q
behind_by true p q t apart if_item if_none a h k = (a, h)
behind_by false p q t apart if_item if_none a h k = k

behind_run : (p q : Point) (apart : Bool) (ts : List (Option Token)) → Run p (token_points ts) q → Run p (map pair_point (items_behind apart ts)) q
behind_run p q apart [] h = h
behind_run p q apart (None ∷ ts) h = behind_run p q true ts h
behind_run p q apart (Some t ∷ ts) h =
    behind_by (is_item t.kind) p q t apart (items_behind false ts) (items_behind true ts) h.0 (behind_run (behind (token_point t)) q false ts h.1)
    (behind_run p q true ts (fewer p q (token_point t) (token_points ts) h))

items_run : (p q : Point) (ts : List (Option Token)) → Run p (token_points ts) q → Run p (map pair_point (items_of ts)) q
items_run p q [] h = h
items_run p q (None ∷ ts) h = items_run p q ts h
items_run p q (Some t ∷ ts) h =
    behind_by (is_item t.kind) p q t false (items_behind false ts) (items_of ts) h.0 (behind_run (behind (token_point t)) q false ts h.1) (items_run p q ts (fewer p q (token_point t) (token_points ts) h))

viewed : (items : List Item) → map pair_point (map view items) ≡ map item_point items
viewed [] = refl
viewed (item ∷ items) = ap (λ l. item_point item ∷ l) (viewed items)

pub block_run : (ls : List Text) (first end : ℕ) (items : List Item) → AreItems ls first end items → Run (first, 0) (map item_point items) (end, 0)
block_run ls first end items h =
    subst (λ l. Run (first, 0) l (end, 0)) (ap (map pair_point) (sym h.items_are) ∙ viewed items)
    (items_run (first, 0) (end, 0) (flat_map with_line_end h.tokens) (lines_run ls first end h.tokens h.all h.tokens_are))

-- ---- places

abbrev pub name_point : Named → Point
name_point n = (n.place.line, n.place.start)

abbrev pub name_points : List Named → List Point
name_points ns = map name_point ns

if_run : (b : Bool) (p q : Point) (n : Named) (rest : List Named) → Run p (name_point n ∷ name_points rest) q → Run p (name_points ((if b then n ∷ [] else []) ++ rest)) q
if_run true p q n rest h = h
if_run false p q n rest h = fewer p q (name_point n) (name_points rest) h

named_run : (defines : Bool) (p q : Point) (item : Item) (rest : List Named) → Run p (item_point item ∷ name_points rest) q → Run p (name_points (named defines item ++ rest)) q
named_run defines p q item rest h = if_run (is_name_kind (kind_of item)) p q (record { text = item.token.text.now; place = place_of item.token; defines = defines }) rest h

unless_run : (b : Bool) (p q : Point) (item : Item) (rest : List Named) → Run p (item_point item ∷ name_points rest) q → Run p (name_points ((if b then [] else named false item) ++ rest)) q
unless_run true p q item rest h = fewer p q (item_point item) (name_points rest) h
unless_run false p q item rest h = named_run false p q item rest h

uses_run : (before : Kind) (p q : Point) (items : List Item) → Run p (map item_point items) q → Run p (name_points (uses_after before items)) q
uses_run before p q [] h = h
uses_run before p q (item ∷ items) h =
    unless_run (is_touched before item) p q item (uses_after (kind_of item) items) (h.0, uses_run (kind_of item) (behind (item_point item)) q items h.1)

pub places_run : (p q : Point) (items : List Item) → Run p (map item_point items) q → Run p (name_points (places_in items)) q
places_run p q [] h = h
places_run p q (item ∷ items) h =
    named_run (is_some (head_of (item ∷ items))) p q item (uses_after (kind_of item) items) (h.0, uses_run (kind_of item) (behind (item_point item)) q items h.1)

-- ---- blocks

pub line_ahead : (from line : ℕ) → from ≤ line → Ahead (from, 0) (line, 0)
line_ahead from line h = by (cases_lt from line)
  where
    by : (from < line) ⊎ (line ≤ from) → Ahead (from, 0) (line, 0)
    by (inl less) = inl less
    by (inr more) = inr (omega (arith, h, more), omega arith)

blocks_run : (ls : List Text) (from : ℕ) (bounds : List (ℕ × ℕ)) (blocks : List Block) → AreBlocks ls from bounds → AreWithin ls bounds blocks → (end : ℕ) × Run (from, 0) (name_points (places_of blocks)) (end, 0)
blocks_run ls from [] [] all each = (from, inr (refl, omega arith))
blocks_run ls from [] (block ∷ blocks) all each = absurd each
blocks_run ls from (b ∷ bounds) [] all each = absurd each
blocks_run ls from (b ∷ bounds) (block ∷ blocks) all each =
    let rest = blocks_run ls b.1 bounds blocks all.3 each.1 in
    let own = places_run (b.0, 0) (b.1, 0) block.items (block_run ls b.0 b.1 block.items each.0.items) in (
      rest.0,
      subst (λ l. Run (from, 0) l (rest.0, 0)) (sym (map-append name_point (places_in block.items) (places_of blocks)))
          (joined (from, 0) (b.1, 0) (rest.0, 0) (name_points (places_in block.items)) (name_points (places_of blocks)) (earlier (from, 0) (b.0, 0) (b.1, 0) (name_points (places_in block.items)) (line_ahead from b.0 all.0) own) rest.1),
    )

-- ---- in order

begins : (n m : Named) → Ahead (behind (name_point n)) (name_point m) → begins_before m.place.line m.place.start n ≡ true
begins n m (inl less) = ap (λ b. b || (nat_eq n.place.line m.place.line && nat_lt n.place.start m.place.start)) (lt-ltb n.place.line m.place.line less)
begins n m (inr at) =
    subst (λ line. (nat_lt n.place.line line || (nat_eq n.place.line line && nat_lt n.place.start m.place.start)) ≡ true) at.0
    (rw (le-ltb n.place.line n.place.line (omega arith), eq-eqb n.place.line n.place.line refl, lt-ltb n.place.start m.place.start at.1) refl)

all_behind : (n : Named) (q : Point) (ns : List Named) → Run (behind (name_point n)) (name_points ns) q → AllBehind n ns
all_behind n q [] h = All-nil (λ m. begins_before m.place.line m.place.start n ≡ true)
all_behind n q (m ∷ ns) h =
    All-cons (λ m. begins_before m.place.line m.place.start n ≡ true) m ns (begins n m h.0) (all_behind n q ns (fewer (behind (name_point n)) q (name_point m) (name_points ns) h))

run_ascends : (p q : Point) (ns : List Named) → Run p (name_points ns) q → Ascend ns
run_ascends p q [] h = tt
run_ascends p q (n ∷ ns) h = (all_behind n q ns h.1, run_ascends (behind (name_point n)) q ns h.1)

pub places_ascend : (g : Grammar) → IsGrammar g → Ascend g.places
places_ascend g h =
    let run = blocks_run (line_texts g.text) 0 h.of_text.bounds h.blocks h.of_text.all h.of_text.each in
    subst (λ (k : Grammar). Ascend k.places) (sym h.is) (run_ascends (0, 0) (run.0, 0) (places_of h.blocks) run.1)
