-- The bare items of lines, cut where blocks begin, are those of the blocks of these lines.
use Rattle.std.proofs.Common.{◌≡◌, ℕ, zero, suc, ◌+◌, ◌-◌, ◌<◌, ◌≤◌, Bool, true, false, not, List, [], ◌∷◌, ◌++◌, length, map, Option, Some, None, refl, sym, ap, subst, ◌∙◌, arith, append_assoc, inl, inr}
use Rattle.std.specs.Prelude.{◌||◌, if◌then◌else◌, slice_index_or}
use Rattle.std.specs.List.{flat_map, list_any}
use Rattle.std.proofs.lemmas.Bool.{cases_lt}
use Rattle.std.proofs.lemmas.List.{append-nil, length-map, get_or_past}
use Rattle.abnf_token.specs.declared.token.Token.{Token}
use Rattle.abnf_token.specs.Classes.{Text}
use Rattle.abnf_token.specs.Renamed.{Piece, piece}
use Rattle.abnf_token.specs.Tokens.{TokensOf}
use Rattle.abnf_token.proofs.LineLaw.{cut_tokens, one_cut}
use Rattle.abnf_syntax.specs.declared.item.Item.{Item}
use Rattle.abnf_syntax.specs.Blocks.{begins_at, NoneBegins, IsBlock, AreBlocksUpTo}
use Rattle.abnf_syntax.specs.Items.{with_line_end, items_behind, items_of, AreTokens, AreItems, view}
use Rattle.abnf_syntax.specs.Kinds.{is_item}
use Rattle.abnf_syntax.proofs.ContentLaws.{some_items}
use Rattle.abnf_names.specs.Said.{Block, IsWithin, AreWithin}
use Rattle.abnf_digests.specs.BareItems.{bare_text, BareItem, bare_item, bare_items_behind, line_bare_items, bare_items_from, AreBareItems}
use Rattle.abnf_digests.specs.Replaced.{AreBetween}

abbrev Seen : Type 0
Seen = Token × Bool

abbrev seen_bare_item : Bool → Seen → BareItem
seen_bare_item begins p = bare_item begins p.1 p.0

-- of items that go on with a block
abbrev pub more_bare_items : List Seen → List BareItem
more_bare_items ps = map (seen_bare_item false) ps

-- of the items of a block
abbrev pub seen_bare_items : List Seen → List BareItem
seen_bare_items [] = []
seen_bare_items (p ∷ ps) = seen_bare_item true p ∷ more_bare_items ps

abbrev pub block_bare_items : Block → List BareItem
block_bare_items block = seen_bare_items (map view block.items)

-- ---- bare items are cut

-- those before the first that begins a block, and those of each block
abbrev pub Cuts : Type 0
Cuts = List BareItem × List (List BareItem)

abbrev with_bare_item : BareItem → Cuts → Cuts
with_bare_item x cuts = if x.begins then ([], (x ∷ cuts.0) ∷ cuts.1) else (x ∷ cuts.0, cuts.1)

abbrev cut_bare_items : List BareItem → Cuts
cut_bare_items [] = ([], [])
cut_bare_items (x ∷ xs) = with_bare_item x (cut_bare_items xs)

abbrev pub groups : List BareItem → List (List BareItem)
groups bare_items = (cut_bare_items bare_items).1

cut_past : (ps : List Seen) (ys : List BareItem) → cut_bare_items (more_bare_items ps ++ ys) ≡ (more_bare_items ps ++ (cut_bare_items ys).0, (cut_bare_items ys).1)
cut_past [] ys = refl
cut_past (p ∷ ps) ys = ap (with_bare_item (seen_bare_item false p)) (cut_past ps ys)

cut_block : (ps : List Seen) (ys : List BareItem) → 0 < length ps → (cut_bare_items ys).0 ≡ [] → groups (seen_bare_items ps ++ ys) ≡ seen_bare_items ps ∷ groups ys
cut_block [] ys some none = absurd (omega (arith, some))
cut_block (p ∷ ps) ys some none =
    ap (λ (c : Cuts). (seen_bare_item true p ∷ c.0) ∷ c.1) (cut_past ps ys)
    ∙ ap (λ l. (seen_bare_item true p ∷ l) ∷ groups ys) (ap (λ l. more_bare_items ps ++ l) none ∙ append-nil (more_bare_items ps))

-- ---- lines and items

behind_if : (b apart : Bool) (t : Token) (xs ys : List Seen) (vs ws us : List BareItem) → more_bare_items xs ≡ vs ++ us → more_bare_items ys ≡ ws ++ us
    → more_bare_items (if b then (t, apart) ∷ xs else ys) ≡ (if b then bare_item false apart t ∷ vs else ws) ++ us
behind_if true apart t xs ys vs ws us p q = ap (λ l. bare_item false apart t ∷ l) p
behind_if false apart t xs ys vs ws us p q = q

behind_line : (apart : Bool) (ts : List Token) (os : List (Option Token))
    → more_bare_items (items_behind apart (with_line_end ts ++ os)) ≡ bare_items_behind apart ts ++ more_bare_items (items_behind true os)
behind_line apart [] os = refl
behind_line apart (t ∷ ts) os =
    behind_if (is_item t.kind) apart t (items_behind false (with_line_end ts ++ os)) (items_behind true (with_line_end ts ++ os)) (bare_items_behind false ts) (bare_items_behind true ts)
    (more_bare_items (items_behind true os)) (behind_line false ts os) (behind_line true ts os)

line_behind : (ts : List Token) → line_bare_items false ts ≡ bare_items_behind true ts
line_behind [] = refl
line_behind (t ∷ ts) = (λ i. if is_item t.kind then bare_item false true t ∷ bare_items_behind false ts else line_behind ts i)

first_none : (ls : List Text) (at n : ℕ) → NoneBegins ls at (at + suc n) → begins_at ls at ≡ false
first_none ls at n none = none at (omega arith) (omega arith)

rest_none : (ls : List Text) (at n : ℕ) → NoneBegins ls at (at + suc n) → NoneBegins ls (suc at) (suc at + n)
rest_none ls at n none m a b = none m (omega (arith, a)) (omega (arith, b))

-- lines that begin no block
lines_behind : (ls : List Text) (at : ℕ) (tss : List (List Token)) → NoneBegins ls at (at + length tss)
    → bare_items_from ls at tss ≡ more_bare_items (items_behind true (flat_map with_line_end tss))
lines_behind ls at [] none = refl
lines_behind ls at (ts ∷ tss) none =
    (λ i. (ap (λ b. line_bare_items b ts) (first_none ls at (length tss) none) ∙ line_behind ts) i ++ lines_behind ls (suc at) tss (rest_none ls at (length tss) none) i)
    ∙ sym (behind_line true ts (flat_map with_line_end tss))

-- ---- a line with content has an item

abbrev has_item : List Token → Bool
has_item ts = list_any (λ t. is_item t.kind) ts

abbrev Kept : List Seen → Type 0
Kept ps = (items : List Item) × (map view items ≡ ps)

kept_behind : (apart : Bool) (os : List (Option Token)) → Kept (items_behind apart os)
kept_behind apart [] = ([], refl)
kept_behind apart (None ∷ os) = kept_behind true os
kept_behind apart (Some t ∷ os) = by (is_item t.kind) refl (kept_behind false os) (kept_behind true os)
  where
    by : (b : Bool) → is_item t.kind ≡ b → Kept (items_behind false os) → Kept (items_behind true os) → Kept (items_behind apart (Some t ∷ os))
    by true e kept past = (record { token = t; apart = apart; solid = e } ∷ kept.0, rw e (ap (λ l. (t, apart) ∷ l) kept.1))
    by false e kept past = (past.0, rw e past.1)

kept : (os : List (Option Token)) → Kept (items_of os)
kept [] = ([], refl)
kept (None ∷ os) = kept os
kept (Some t ∷ os) = by (is_item t.kind) refl (kept_behind false os) (kept os)
  where
    by : (b : Bool) → is_item t.kind ≡ b → Kept (items_behind false os) → Kept (items_of os) → Kept (items_of (Some t ∷ os))
    by true e kept past = (record { token = t; apart = false; solid = e } ∷ kept.0, rw e (ap (λ l. (t, false) ∷ l) kept.1))
    by false e kept past = (past.0, rw e past.1)

item_if : (b c : Bool) (t : Token) (xs ys : List Seen) → (0 < length ys → c ≡ true) → 0 < length (if b then (t, false) ∷ xs else ys) → b || c ≡ true
item_if true c t xs ys h some = refl
item_if false c t xs ys h some = h some

item_there : (ts : List Token) → 0 < length (items_of (with_line_end ts ++ [])) → has_item ts ≡ true
item_there [] some = absurd (omega (arith, some))
item_there (t ∷ ts) some =
    item_if (is_item t.kind) (has_item ts) t (items_behind false (with_line_end ts ++ [])) (items_of (with_line_end ts ++ [])) (λ h. item_there ts h) some

begin_has : (ls : List Text) (at : ℕ) (ts : List Token) → begins_at ls at ≡ true → TokensOf at 0 (slice_index_or ls at []) ts → has_item ts ≡ true
begin_has ls at ts begins t =
    let items = kept (with_line_end ts ++ []) in
    let are : AreItems ls at (suc at) items.0 = record { tokens = ts ∷ []; all = omega arith; tokens_are = (t, tt); items_are = items.1 } in
    let some : 0 < length items.0 = some_items ls at (suc at) items.0 (omega arith) begins are in
    item_there ts (omega (arith, some, length-map items.0 view, ap length items.1))

-- ---- the lines of a block

first_if : (b c : Bool) (t : Token) (xs ys : List Seen) (vs ws us : List BareItem) → more_bare_items xs ≡ vs ++ us → (c ≡ true → seen_bare_items ys ≡ ws ++ us) → b || c ≡ true
    → seen_bare_items (if b then (t, false) ∷ xs else ys) ≡ (if b then bare_item true false t ∷ vs else ws) ++ us
first_if true c t xs ys vs ws us p q h = ap (λ l. bare_item true false t ∷ l) p
first_if false c t xs ys vs ws us p q h = q h

first_line : (ts : List Token) (os : List (Option Token)) → has_item ts ≡ true
    → seen_bare_items (items_of (with_line_end ts ++ os)) ≡ line_bare_items true ts ++ more_bare_items (items_behind true os)
first_line [] os has = absurd (cc (has))
first_line (t ∷ ts) os has =
    first_if (is_item t.kind) (has_item ts) t (items_behind false (with_line_end ts ++ os)) (items_of (with_line_end ts ++ os)) (bare_items_behind false ts) (line_bare_items true ts)
    (more_bare_items (items_behind true os)) (behind_line false ts os) (λ h. first_line ts os h) has

block_lines : (ls : List Text) (first end : ℕ) (tss : List (List Token)) → IsBlock ls first end → first + length tss ≡ end → AreTokens ls first tss
    → seen_bare_items (items_of (flat_map with_line_end tss)) ≡ bare_items_from ls first tss
block_lines ls first end [] is all t = absurd (omega (arith, is.some, all))
block_lines ls first end (ts ∷ tss) is all t =
    first_line ts (flat_map with_line_end tss) (begin_has ls first ts is.begins t.0)
    ∙ (λ i. line_bare_items (sym is.begins i) ts ++ sym (lines_behind ls (suc first) tss (λ n a b. is.rest n a (omega (arith, b, all)))) i)

-- ---- lines have one list of bare items

abbrev piece_bare_item : Bool → Bool → Piece → BareItem
piece_bare_item begins apart p = record { begins = begins; kind = p.0; text = bare_text p.0 p.1; apart = apart }

abbrev pieces_behind : Bool → List Piece → List BareItem
pieces_behind apart [] = []
pieces_behind apart (p ∷ ps) = if is_item p.0 then piece_bare_item false apart p ∷ pieces_behind false ps else pieces_behind true ps

abbrev line_pieces : Bool → List Piece → List BareItem
line_pieces begins [] = []
line_pieces begins (p ∷ ps) = if is_item p.0 then piece_bare_item begins (not begins) p ∷ pieces_behind false ps else line_pieces begins ps

behind_pieces : (apart : Bool) (ts : List Token) → bare_items_behind apart ts ≡ pieces_behind apart (map piece ts)
behind_pieces apart [] = refl
behind_pieces apart (t ∷ ts) = (λ i. if is_item t.kind then bare_item false apart t ∷ behind_pieces false ts i else behind_pieces true ts i)

line_by_pieces : (begins : Bool) (ts : List Token) → line_bare_items begins ts ≡ line_pieces begins (map piece ts)
line_by_pieces begins [] = refl
line_by_pieces begins (t ∷ ts) = (λ i. if is_item t.kind then bare_item begins (not begins) t ∷ behind_pieces false ts i else line_by_pieces begins ts i)

one_line : (begins : Bool) (at : ℕ) (l : Text) (ts us : List Token) → TokensOf at 0 l ts → TokensOf at 0 l us → line_bare_items begins ts ≡ line_bare_items begins us
one_line begins at l ts us t u =
    let one = cut_tokens at 0 l ts t in
    let two = cut_tokens at 0 l us u in
    line_by_pieces begins ts ∙ (ap (line_pieces begins) (one_cut (map piece ts) (map piece us) one.cut two.cut (sym one.is ∙ two.is)) ∙ sym (line_by_pieces begins us))

one_bare_items : (ls : List Text) (at : ℕ) (tss uss : List (List Token)) → length tss ≡ length uss → AreTokens ls at tss → AreTokens ls at uss
    → bare_items_from ls at tss ≡ bare_items_from ls at uss
one_bare_items ls at [] [] e t u = refl
one_bare_items ls at [] (us ∷ uss) e t u = absurd (omega (arith, e))
one_bare_items ls at (ts ∷ tss) [] e t u = absurd (omega (arith, e))
one_bare_items ls at (ts ∷ tss) (us ∷ uss) e t u =
    (λ i. one_line (begins_at ls at) at (slice_index_or ls at []) ts us t.0 u.0 i ++ one_bare_items ls (suc at) tss uss (omega (arith, e)) t.1 u.1 i)

-- ---- lines are parted

record Parted (ls : List Text) (at to : ℕ) (tss : List (List Token)) : Type 0 where
  front : List (List Token)
  back : List (List Token)
  count : at + length front ≡ to
  all : length tss ≡ length front + length back
  fronts : AreTokens ls at front
  backs : AreTokens ls to back
  bare_items : bare_items_from ls at tss ≡ bare_items_from ls at front ++ bare_items_from ls to back

parted_bare_items : (line rest front back : List BareItem) → rest ≡ front ++ back → line ++ rest ≡ (line ++ front) ++ back
parted_bare_items line rest front back e = ap (λ l. line ++ l) e ∙ sym (append_assoc line front back)

parted : (ls : List Text) (n at to : ℕ) (tss : List (List Token)) → at + n ≡ to → n ≤ length tss → AreTokens ls at tss → Parted ls at to tss
parted ls zero at to tss e le t =
    let same : at ≡ to = omega (arith, e) in
    record {
      front = [];
      back = tss;
      count = e;
      all = omega arith;
      fronts = tt;
      backs = subst (λ n. AreTokens ls n tss) same t;
      bare_items = ap (λ n. bare_items_from ls n tss) same;
    }
parted ls (suc n) at to [] e le t = absurd (omega (arith, le))
parted ls (suc n) at to (ts ∷ tss) e le t =
    let rest = parted ls n (suc at) to tss (omega (arith, e)) (omega (arith, le)) t.1 in
    record {
      front = ts ∷ rest.front;
      back = rest.back;
      count = omega (arith, rest.count);
      all = omega (arith, rest.all);
      fronts = (t.0, rest.fronts);
      backs = rest.backs;
      bare_items = parted_bare_items (line_bare_items (begins_at ls at) ts) (bare_items_from ls (suc at) tss) (bare_items_from ls (suc at) rest.front) (bare_items_from ls to rest.back) rest.bare_items;
    }

-- ---- what follows a block begins one, or is nothing

first_cut_if : (b c : Bool) (t : Token) (vs ws us : List BareItem) → (c ≡ true → (cut_bare_items (ws ++ us)).0 ≡ []) → b || c ≡ true
    → (cut_bare_items ((if b then bare_item true false t ∷ vs else ws) ++ us)).0 ≡ []
first_cut_if true c t vs ws us h has = refl
first_cut_if false c t vs ws us h has = h has

first_cut : (ts : List Token) (us : List BareItem) → has_item ts ≡ true → (cut_bare_items (line_bare_items true ts ++ us)).0 ≡ []
first_cut [] us has = absurd (cc (has))
first_cut (t ∷ ts) us has = first_cut_if (is_item t.kind) (has_item ts) t (bare_items_behind false ts) (line_bare_items true ts) us (λ h. first_cut ts us h) has

no_tokens : (at : ℕ) (l : Text) (ts : List Token) (b : Bool) → l ≡ [] → TokensOf at 0 l ts → line_bare_items b ts ≡ []
no_tokens at l [] b e t = refl
no_tokens at l (x ∷ ts) b e t = absurd (omega (arith, t.0.next.some, t.0.next.within, ap length e))

no_bare_items : (ls : List Text) (at : ℕ) (tss : List (List Token)) → length ls ≤ at → AreTokens ls at tss → bare_items_from ls at tss ≡ []
no_bare_items ls at [] le t = refl
no_bare_items ls at (ts ∷ tss) le t =
    (λ i. no_tokens at (slice_index_or ls at []) ts (begins_at ls at) (get_or_past ls at [] le) t.0 i ++ no_bare_items ls (suc at) tss (omega (arith, le)) t.1 i)

nothing_first : (ls : List Text) (at : ℕ) (tss : List (List Token)) → (at < length ls → begins_at ls at ≡ true) → AreTokens ls at tss
    → (cut_bare_items (bare_items_from ls at tss)).0 ≡ []
nothing_first ls at [] begins t = refl
nothing_first ls at (ts ∷ tss) begins t =
    elim (cases_lt at (length ls)) [
      | inl less ↦
          ap (λ b. (cut_bare_items (line_bare_items b ts ++ bare_items_from ls (suc at) tss)).0) (begins less)
          ∙ first_cut ts (bare_items_from ls (suc at) tss) (begin_has ls at ts (begins less) t.0)
      | inr more ↦ ap (λ l. (cut_bare_items l).0) (no_bare_items ls at (ts ∷ tss) more t)
    ]

-- ---- all blocks

cut_none : (ls : List Text) (at : ℕ) (tss : List (List Token)) (ys : List BareItem) → NoneBegins ls at (at + length tss)
    → groups (bare_items_from ls at tss ++ ys) ≡ groups ys
cut_none ls at tss ys none =
    ap (λ l. groups (l ++ ys)) (lines_behind ls at tss none)
    ∙ ap (λ (c : Cuts). c.1) (cut_past (items_behind true (flat_map with_line_end tss)) ys)

block_is : (ls : List Text) (b : ℕ × ℕ) (block : Block) (tss : List (List Token)) → IsBlock ls b.0 b.1 → b.0 + length tss ≡ b.1 → AreTokens ls b.0 tss → IsWithin ls b block
    → bare_items_from ls b.0 tss ≡ block_bare_items block
block_is ls b block tss is all t within =
    let items = within.items in
    one_bare_items ls b.0 tss items.tokens (omega (arith, all, items.all)) t items.tokens_are
    ∙ (sym (block_lines ls b.0 b.1 items.tokens is items.all items.tokens_are) ∙ ap seen_bare_items (sym items.items_are))

block_some : (ls : List Text) (b : ℕ × ℕ) (block : Block) → IsBlock ls b.0 b.1 → IsWithin ls b block → 0 < length (map view block.items)
block_some ls b block is within = omega (arith, some_items ls b.0 b.1 block.items is.some is.begins within.items, length-map block.items view)

block_groups : (ls : List Text) (b : ℕ × ℕ) (block : Block) (front back : List (List Token))
    → IsBlock ls b.0 b.1 → b.0 + length front ≡ b.1 → AreTokens ls b.0 front → AreTokens ls b.1 back → IsWithin ls b block
    → groups (bare_items_from ls b.0 front ++ bare_items_from ls b.1 back) ≡ block_bare_items block ∷ groups (bare_items_from ls b.1 back)
block_groups ls b block front back is all t u within =
    ap (λ l. groups (l ++ bare_items_from ls b.1 back)) (block_is ls b block front is all t within)
    ∙ cut_block (map view block.items) (bare_items_from ls b.1 back) (block_some ls b block is within) (nothing_first ls b.1 back is.ends u)

one_more : (bare_items past rest block more of_block : List BareItem) (others : List (List BareItem))
    → bare_items ≡ past ++ rest → groups (past ++ rest) ≡ groups rest → rest ≡ block ++ more
    → groups (block ++ more) ≡ of_block ∷ groups more → groups more ≡ others → groups bare_items ≡ of_block ∷ others
one_more bare_items past rest block more of_block others e skip f is tail = ap groups e ∙ (skip ∙ (ap groups f ∙ (is ∙ ap (λ l. of_block ∷ l) tail)))

all_groups : (ls : List Text) (from to : ℕ) (bs : List (ℕ × ℕ)) → AreBlocksUpTo ls from to bs → (blocks : List Block) → AreWithin ls bs blocks
    → (tss : List (List Token)) → from + length tss ≡ to → AreTokens ls from tss → groups (bare_items_from ls from tss) ≡ map block_bare_items blocks
all_groups ls from to [] h [] w tss all t =
    ap groups (sym (append-nil (bare_items_from ls from tss))) ∙ cut_none ls from tss [] (subst (λ n. NoneBegins ls from n) (sym all) h)
all_groups ls from to [] h (block ∷ blocks) w tss all t = absurd w
all_groups ls from to (b ∷ bs) h [] w tss all t = absurd w
all_groups ls from to (b ∷ bs) h (block ∷ blocks) w tss all t =
    let x = parted ls (b.0 - from) from b.0 tss (omega (arith, h.0)) (omega (arith, all, h.0, h.2.some, h.3)) t in
    let y = parted ls (b.1 - b.0) b.0 b.1 x.back (omega (arith, h.2.some)) (omega (arith, all, x.count, x.all, h.0, h.2.some, h.3)) x.backs in
    one_more (bare_items_from ls from tss) (bare_items_from ls from x.front) (bare_items_from ls b.0 x.back) (bare_items_from ls b.0 y.front) (bare_items_from ls b.1 y.back) (block_bare_items block)
    (map block_bare_items blocks) x.bare_items
    (cut_none ls from x.front (bare_items_from ls b.0 x.back) (subst (λ n. NoneBegins ls from n) (sym x.count) h.1))
    y.bare_items
    (block_groups ls b block y.front y.back h.2 y.count y.fronts y.backs w.0)
    (all_groups ls b.1 to bs h.4 blocks w.1 y.back (omega (arith, all, x.count, x.all, y.count, y.all)) y.backs)

pub groups_are : (ls : List Text) (from to : ℕ) (blocks : List Block) (bare_items : List BareItem) → AreBetween ls from to blocks → AreBareItems ls from to bare_items
    → groups bare_items ≡ map block_bare_items blocks
groups_are ls from to blocks bare_items p q = ap groups q.bare_items_are ∙ all_groups ls from to p.bounds p.all blocks p.each q.tokens q.all q.tokens_are
