-- Blocks of lines that another text has too are blocks there.
use Rattle.std.proofs.Common.{◌≡◌, ◌∙◌, ℕ, suc, ◌+◌, ◌<◌, ◌⊎◌, inl, inr, List, [], ◌∷◌, Result, Ok, Err, drop, length, map, refl, ap, subst, arith}
use Rattle.std.specs.Prelude.{slice_index_or}
use Rattle.std.specs.List.{flat_map}
use Rattle.abnf_token.specs.declared.token.Token.{Token}
use Rattle.abnf_token.specs.Classes.{Text}
use Rattle.abnf_token.specs.Tokens.{TokensOf}
use Rattle.abnf_syntax.specs.declared.item.Item.{Item}
use Rattle.abnf_syntax.specs.Blocks.{AreBlocks, AreBlocksUpTo, IsBlock}
use Rattle.abnf_syntax.specs.Items.{AreItems, AreTokens, with_line_end}
use Rattle.abnf_syntax.specs.declared.fault.SyntaxFault.{SyntaxFault}
use Rattle.abnf_syntax.specs.declared.tree.Rule.{Rule}
use Rattle.abnf_syntax.specs.Faults.{Faults}
use Rattle.abnf_syntax.specs.Grammar.{Derives}
use Rattle.abnf_syntax.proofs.ContentLaws.{some_items}
use Rattle.abnf_syntax.proofs.Exist.{seen}
use Rattle.abnf_syntax.proofs.Whole.{some_answer}
use Rattle.abnf_names.specs.Said.{AreWithin, Block, BlockSays, IsWithin}
use Rattle.abnf_digests.specs.SameLines.{AreSameLines}
use Rattle.abnf_digests.proofs.Parted.{moved_lines}
use Rattle.abnf_digests.proofs.Seams.{AreMoved}

-- ---- what items say

pub said_by : (items : List Item) → ((rule : Rule) × Derives items rule) ⊎ ((fault : SyntaxFault) × Faults items fault) → (said : Result Rule SyntaxFault) × BlockSays items said
said_by items (inl rule) = (Ok rule.0, rule.1)
said_by items (inr fault) = (Err fault.0, fault.1)

-- ---- tokens

-- a token of the line with this number
abbrev pub numbered : ℕ → Token → Token
numbered line t = record { kind = t.kind; text = t.text; line = line; start = t.start; in_line = t.in_line }

pub tokens_numbered : (line there start : ℕ) (left : Text) (ts : List Token) → TokensOf line start left ts → TokensOf there start left (map (numbered there) ts)
tokens_numbered line there start left [] h = h
tokens_numbered line there start left (t ∷ ts) h =
    (record { next = h.0.next; line = refl; start = h.0.start }, tokens_numbered line there (start + length t.text.now) (drop (length t.text.now) left) ts h.1)

module _ (ls others : List Text) where
  abbrev pub AreLike : ℕ → ℕ → ℕ → Type 0
  AreLike at there count = (n : ℕ) → n < count → slice_index_or ls (at + n) [] ≡ slice_index_or others (there + n) []

  pub first_like : (at there count : ℕ) → AreLike at there (suc count) → slice_index_or ls at [] ≡ slice_index_or others there []
  first_like at there count same =
      let here : at ≡ at + 0 = omega arith in
      let beyond : there + 0 ≡ there = omega arith in
      ap (λ n. slice_index_or ls n []) here ∙ (same 0 (omega arith) ∙ ap (λ n. slice_index_or others n []) beyond)

  pub rest_like : (at there count : ℕ) → AreLike at there (suc count) → AreLike (suc at) (suc there) count
  rest_like at there count same n less =
      let here : suc at + n ≡ at + suc n = omega arith in
      let beyond : there + suc n ≡ suc there + n = omega arith in
      ap (λ m. slice_index_or ls m []) here ∙ (same (suc n) (omega (arith, less)) ∙ ap (λ m. slice_index_or others m []) beyond)

  tokens_there : (at there : ℕ) (tss : List (List Token)) → AreLike at there (length tss) → AreTokens ls at tss → (uss : List (List Token)) × (length uss ≡ length tss) × AreTokens others there uss
  tokens_there at there [] same h = ([], refl, tt)
  tokens_there at there (ts ∷ tss) same h =
      let rest = tokens_there (suc at) (suc there) tss (rest_like at there (length tss) same) h.1 in
      let line = first_like at there (length tss) same in (
        map (numbered there) ts ∷ rest.0,
        ap suc rest.1,
        (subst (λ l. TokensOf there 0 l (map (numbered there) ts)) line (tokens_numbered at there 0 (slice_index_or ls at []) ts h.0), rest.2),
      )

  tokens_here : (at : ℕ) (tss : List (List Token)) → AreLike at at (length tss) → AreTokens ls at tss → AreTokens others at tss
  tokens_here at [] same h = tt
  tokens_here at (ts ∷ tss) same h =
      (subst (λ l. TokensOf at 0 l ts) (first_like at at (length tss) same) h.0, tokens_here (suc at) tss (rest_like at at (length tss) same) h.1)

  -- ---- blocks

  items_there : (bounds there : ℕ × ℕ) (xs : List Item) → AreSameLines ls others bounds there → AreItems ls bounds.0 bounds.1 xs → (ys : List Item) × AreItems others there.0 there.1 ys
  items_there bounds there xs same p =
      let found = tokens_there bounds.0 there.0 p.tokens (λ n less. same.each n (omega (arith, less, p.all))) p.tokens_are in
      let items = seen (flat_map with_line_end found.0) in
      (items.0, record { tokens = found.0; all = omega (arith, found.1, p.all, same.count); tokens_are = found.2; items_are = items.1 })

  block_there : (bounds there : ℕ × ℕ) (block : Block) → AreSameLines ls others bounds there → IsBlock others there.0 there.1 → IsWithin ls bounds block
      → (other : Block) × IsWithin others there other
  block_there bounds there block same is within =
      let items = items_there bounds there block.items same within.items in
      let said = said_by items.0 (some_answer items.0 (some_items others there.0 there.1 items.0 is.some is.begins items.1)) in
      (record { items = items.0; said = said.0 }, record { items = items.1; says = said.1 })

  -- the blocks before a place are those there
  pub blocks_before : (front : ℕ) → ((n : ℕ) → n < front → slice_index_or ls n [] ≡ slice_index_or others n []) → (from : ℕ) (bs : List (ℕ × ℕ)) → AreBlocksUpTo ls from front bs
      → (blocks : List Block) → AreWithin ls bs blocks → AreWithin others bs blocks
  blocks_before front same from [] h [] p = tt
  blocks_before front same from [] h (block ∷ blocks) p = absurd p
  blocks_before front same from (b ∷ bs) h [] p = absurd p
  blocks_before front same from (b ∷ bs) h (block ∷ blocks) p =
      let items : AreItems others b.0 b.1 block.items = record {
        tokens = p.0.items.tokens;
        all = p.0.items.all;
        tokens_are = tokens_here b.0 p.0.items.tokens (λ n less. same (b.0 + n) (omega (arith, less, p.0.items.all, h.3))) p.0.items.tokens_are;
        items_are = p.0.items.items_are;
      } in
      (record { items = items; says = p.0.says }, blocks_before front same b.1 bs h.4 blocks p.1)

  -- the lines from a place on have blocks where they stand there
  pub blocks_there : (front old new : ℕ) → ((n : ℕ) → slice_index_or ls (old + n) [] ≡ slice_index_or others (new + n) []) → (from : ℕ) (bs cs : List (ℕ × ℕ)) → AreMoved old new bs cs
      → AreBlocks others from cs → (blocks : List Block) → AreWithin ls bs blocks → (fresh : List Block) × AreWithin others cs fresh
  blocks_there front old new same from [] [] m h blocks p = ([], tt)
  blocks_there front old new same from [] (c ∷ cs) m h blocks p = absurd m
  blocks_there front old new same from (b ∷ bs) [] m h blocks p = absurd m
  blocks_there front old new same from (b ∷ bs) (c ∷ cs) m h [] p = absurd p
  blocks_there front old new same from (b ∷ bs) (c ∷ cs) m h (block ∷ blocks) p =
      let first = block_there b c block (moved_lines ls others front old new same b c m.0) h.2 p.0 in
      let rest = blocks_there front old new same c.1 bs cs m.1 h.3 blocks p.1 in
      (first.0 ∷ rest.0, (first.1, rest.1))
