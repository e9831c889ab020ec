-- Each text has blocks, and each block has items.
use Rattle.std.proofs.Common.{◌≡◌, ℕ, zero, suc, ◌+◌, ◌-◌, ◌*◌, ◌^◌, ◌<◌, ◌≤◌, Bool, true, false, List, [], ◌∷◌, length, map, Option, Some, None, cond, ⊎_elim, refl, sym, ap, subst, arith, length-append, eqb}
use Rattle.std.specs.Prelude.{All, slice_index_or}
use Rattle.std.specs.List.{flat_map}
use Rattle.std.specs.Str.{encode_utf8_all}
use Rattle.std.proofs.lemmas.Bool.{cases_lt}
use Rattle.std.proofs.lemmas.Str.{length-encode, len_utf8_bounds}
use lib.Utf8.{encode, encodes}
use Rattle.ls_text.specs.Lines.{lines, ends_line, put_first}
use Rattle.abnf_token.specs.declared.token.Token.{Token}
use Rattle.abnf_token.specs.Classes.{Text}
use Rattle.abnf_token.specs.Tokens.{TokensOf}
use Rattle.abnf_token.proofs.Exist.{tokens_of}
use Rattle.abnf_syntax.specs.declared.block.Block.{Block}
use Rattle.abnf_syntax.specs.declared.item.Item.{Item}
use Rattle.abnf_syntax.specs.Kinds.{is_item}
use Rattle.abnf_syntax.specs.Blocks.{line_texts, begins_at, NoneBegins, AreBlocks, AreBlocksUpTo, IsNextBlock}
use Rattle.abnf_syntax.specs.Bounds.{bounds}
use Rattle.abnf_syntax.specs.Items.{with_line_end, items_behind, items_of, AreTokens, AreItems, view}
use Rattle.abnf_syntax.proofs.BlockLaws.{none_at, none_both, from_next, block_first, all_blocks, end_seam}
use Rattle.abnf_syntax.proofs.ContentLaws.{some_items}

-- ---- lines are no longer than their text

abbrev AreShort : ℕ → List (List ℕ) → Type 0
AreShort n [] = Unit {0}
AreShort n (l ∷ ls) = (length l ≤ n) × AreShort n ls

short_more : (n : ℕ) (ls : List (List ℕ)) → AreShort n ls → AreShort (suc n) ls
short_more n [] h = tt
short_more n (l ∷ ls) h = (omega (arith, h.0), short_more n ls h.1)

short_first : (n c : ℕ) (ls : List (List ℕ)) → AreShort n ls → AreShort (suc n) (put_first c ls)
short_first n c [] h = (omega arith, tt)
short_first n c (l ∷ ls) h = (omega (arith, h.0), short_more n ls h.1)

short_by : (n c : ℕ) (ls : List (List ℕ)) (a b : Bool) → AreShort n ls → AreShort (suc n) (cond a ([] ∷ ls) (cond b ls (put_first c ls)))
short_by n c ls true b h = (omega arith, short_more n ls h)
short_by n c ls false true h = short_more n ls h
short_by n c ls false false h = short_first n c ls h

short_lines : (t : List ℕ) → AreShort (length t) (lines t)
unfolding lines
short_lines [] = (omega arith, tt)
short_lines (c ∷ t) = short_by (length t) c (lines t) (ends_line c t) (eqb c 13) (short_lines t)

record LineIs (n : ℕ) (text : Text) : Type 0 where
  chars : List ℕ
  short : length chars ≤ n
  is : encode_utf8_all chars ≡ text

line_is : (n : ℕ) (ls : List (List ℕ)) (at : ℕ) → AreShort n ls → LineIs n (slice_index_or (map encode_utf8_all ls) at [])
line_is n [] at h = record { chars = []; short = omega arith; is = refl }
line_is n (l ∷ ls) zero h = record { chars = l; short = h.0; is = refl }
line_is n (l ∷ ls) (suc at) h = line_is n ls at h.1

pub four_each : (cs : List ℕ) → length (encodes cs) ≤ 4 * length cs
four_each [] = omega arith
four_each (c ∷ cs) = omega (arith, four_each cs, length-append (encode c) (encodes cs), length-encode c, (len_utf8_bounds c).1)

-- ---- tokens and items

abbrev pub HasTokens : List Text → Type 0
HasTokens ls = (at : ℕ) → (ts : List Token) × TokensOf at 0 (slice_index_or ls at []) ts

pub text_has_tokens : (text : List ℕ) → length text < 2 ^ 62 → HasTokens (line_texts text)
text_has_tokens text small at =
    let line = line_is (length text) (lines text) at (short_lines text) in
    let found = tokens_of at line.chars (omega (arith, small, line.short, four_each line.chars)) in
    (found.0, subst (λ t. TokensOf at 0 t found.0) line.is found.1)

record TokensAre (ls : List Text) (at n : ℕ) : Type 0 where
  tokens : List (List Token)
  count : length tokens ≡ n
  are : AreTokens ls at tokens

all_tokens : (ls : List Text) → HasTokens ls → (n at : ℕ) → TokensAre ls at n
all_tokens ls has zero at = record { tokens = []; count = refl; are = tt }
all_tokens ls has (suc n) at =
    let r = all_tokens ls has n (suc at) in
    record { tokens = (has at).0 ∷ r.tokens; count = ap suc r.count; are = ((has at).1, r.are) }

-- items that say this
abbrev pub Seen : List (Token × Bool) → Type 0
Seen views = (items : List Item) × (map view items ≡ views)

seen_behind : (apart : Bool) (ts : List (Option Token)) → Seen (items_behind apart ts)
seen_behind apart [] = ([], refl)
seen_behind apart (None ∷ ts) = seen_behind true ts
seen_behind apart (Some t ∷ ts) = by (is_item t.kind) refl (seen_behind false ts) (seen_behind true ts)
  where
    by : (b : Bool) → is_item t.kind ≡ b → Seen (items_behind false ts) → Seen (items_behind true ts) → Seen (items_behind apart (Some t ∷ ts))
    by true e kept past = (record { token = t; apart = apart; solid = e } ∷ kept.0, rw e (ap (λ l. (t, apart) ∷ l) kept.1))
    by false e kept past = (past.0, rw e past.1)

pub seen : (ts : List (Option Token)) → Seen (items_of ts)
seen [] = ([], refl)
seen (None ∷ ts) = seen ts
seen (Some t ∷ ts) = by (is_item t.kind) refl (seen_behind false ts) (seen ts)
  where
    by : (b : Bool) → is_item t.kind ≡ b → Seen (items_behind false ts) → Seen (items_of ts) → Seen (items_of (Some t ∷ ts))
    by true e kept past = (record { token = t; apart = false; solid = e } ∷ kept.0, rw e (ap (λ l. (t, false) ∷ l) kept.1))
    by false e kept past = (past.0, rw e past.1)

pub block_items : (ls : List Text) → HasTokens ls → (first end : ℕ) → first ≤ end → (items : List Item) × AreItems ls first end items
block_items ls has first end le =
    let found = all_tokens ls has (end - first) first in
    let items = seen (flat_map with_line_end found.tokens) in
    (items.0, record { tokens = found.tokens; all = omega (arith, le, found.count); tokens_are = found.are; items_are = items.1 })

-- ---- blocks

abbrev HasNext : List Text → ℕ → Type 0
HasNext ls from = (next : ℕ) × IsNextBlock ls from (length ls) next

none_here : (ls : List Text) (from : ℕ) → begins_at ls from ≡ false → NoneBegins ls from (suc from)
none_here ls from e at reached before = let same : from ≡ at = omega arith in subst (λ n. begins_at ls n ≡ false) same e

next_begin : (ls : List Text) (n from : ℕ) → from + n ≡ length ls → HasNext ls from
next_begin ls zero from all = (from, record { reached = omega arith; within = omega arith; none = none_at ls from; begins = λ less. absurd (omega arith) })
next_begin ls (suc n) from all = by (begins_at ls from) refl (next_begin ls n (suc from) (omega arith))
  where
    by : (b : Bool) → begins_at ls from ≡ b → HasNext ls (suc from) → HasNext ls from
    by true e later = (from, record { reached = omega arith; within = omega arith; none = none_at ls from; begins = λ less. e })
    by false e later = (
      later.0,
      record {
        reached = omega (arith, later.1.reached);
        within = later.1.within;
        none = none_both ls from (suc from) later.0 (none_here ls from e) later.1.none;
        begins = later.1.begins;
      },
    )

next_from : (ls : List Text) (from : ℕ) → from ≤ length ls → HasNext ls from
next_from ls from le = next_begin ls (length ls - from) from (omega arith)

abbrev HasBlocks : List Text → ℕ → Type 0
HasBlocks ls from = (bs : List (ℕ × ℕ)) × AreBlocksUpTo ls from (length ls) bs

no_more : (ls : List Text) (from next : ℕ) → IsNextBlock ls from (length ls) next → length ls ≤ next → HasBlocks ls from
no_more ls from next is le = let same : next ≡ length ls = omega (arith, is.within) in ([], subst (NoneBegins ls from) same is.none)

blocks_from : (fuel : ℕ) (ls : List Text) (from : ℕ) → length ls ≤ from + fuel → from ≤ length ls → HasBlocks ls from
blocks_from zero ls from enough le = let next = next_from ls from le in no_more ls from next.0 next.1 (omega (arith, next.1.reached))
blocks_from (suc fuel) ls from enough le =
    let next = next_from ls from le in
    ⊎_elim
    (λ less.
    let end = next_from ls (next.0 + 1) (omega (arith, less)) in
    let rest = blocks_from fuel ls end.0 (omega (arith, enough, next.1.reached, end.1.reached)) end.1.within in
    let bs : List (ℕ × ℕ) = (next.0, end.0) ∷ rest.0 in
    let are : AreBlocksUpTo ls next.0 (length ls) bs = block_first ls next.0 (length ls) end.0 (end_seam ls) (next.1.begins less) end.1 rest.0 rest.1 in
    (bs, from_next ls from (length ls) next.0 next.1.reached next.1.none bs are))
    (λ ge. no_more ls from next.0 next.1 ge)
    (cases_lt next.0 (length ls))

pub text_blocks : (ls : List Text) → (bs : List (ℕ × ℕ)) × AreBlocks ls 0 bs
text_blocks ls = let found = blocks_from (length ls) ls 0 (omega arith) (omega arith) in (found.0, all_blocks ls 0 found.0 found.1)

-- ---- blocks with their items

abbrev IsWhole : List Text → Block → Type 0
IsWhole ls block = AreItems ls block.first block.end block.items × (0 < length block.items)

all_cons : {A : Type 0} (P : A → Type 0) (x : A) (xs : List A) → P x → All P xs → All P (x ∷ xs)
all_cons P x xs p all zero d less = p
all_cons P x xs p all (suc at) d less = all at d (omega arith)

pub record Blocks (ls : List Text) (bs : List (ℕ × ℕ)) : Type 0 where
  pub blocks : List Block
  pub are : map bounds blocks ≡ bs
  pub whole : All (IsWhole ls) blocks

pub with_items : (ls : List Text) → HasTokens ls → (from : ℕ) (bs : List (ℕ × ℕ)) → AreBlocks ls from bs → Blocks ls bs
with_items ls has from [] are = record { blocks = []; are = refl; whole = λ at d less. absurd (omega arith) }
with_items ls has from (b ∷ bs) are =
    let items = block_items ls has b.0 b.1 (omega (arith, are.2.some)) in
    let block : Block = record { first = b.0; end = b.1; items = items.0 } in
    let rest = with_items ls has b.1 bs are.3 in
    record {
      blocks = block ∷ rest.blocks;
      are = ap (λ l. b ∷ l) rest.are;
      whole = all_cons (IsWhole ls) block rest.blocks (items.1, some_items ls b.0 b.1 items.0 are.2.some are.2.begins items.1) rest.whole;
    }

pub some_blocks : (text : List ℕ) → length text < 2 ^ 62 → (blocks : List Block) × AreBlocks (line_texts text) 0 (map bounds blocks) × All (λ b. AreItems (line_texts text) b.first b.end b.items × (0 < length b.items)) blocks
some_blocks text small =
    let ls = line_texts text in
    let bs = text_blocks ls in
    let found = with_items ls (text_has_tokens text small) 0 bs.0 bs.1 in
    (found.blocks, subst (AreBlocks ls 0) (sym found.are) bs.1, found.whole)
