-- Laws of lines and blocks.
use Rattle.std.proofs.Common.{◌≡◌, ℕ, zero, suc, ◌+◌, ◌-◌, ◌<◌, ◌≤◌, Bool, true, false, cond, List, [], ◌∷◌, ◌++◌, length, take, drop, get_or, refl, sym, ap, append_assoc, length-drop, ◌∙◌, arith}
use Rattle.std.specs.Prelude.{flat_map, nat_eq}
use Rattle.std.proofs.lemmas.Grind.{flat_map-append}
use Rattle.std.proofs.lemmas.List.{append-nil, at_drop_more, take_all}
use Rattle.ls_text.specs.Lines.{ends_line}
use Rattle.origins.specs.Origins.{Sourced, aligned, gathered_grammar}
use Rattle.markdown_blocks.specs.declared.fence.Fence.{Fence}
use Rattle.markdown_blocks.specs.declared.reading.Reading.{Reading}
use Rattle.markdown_blocks.specs.declared.reading.Reading.TheVariants.{Text, BehindBlock, BehindAttributes, Comment, Extension, Block}
use Rattle.markdown_blocks.specs.declared.beside.Beside.{Beside}
use Rattle.markdown_blocks.specs.Fences.{Line, behind_line, fenced_blocks, closes_fence, fence_content, ended_block, first_says, markdown_blocks, placed_lines_from, put_placed, says_abnf, with_word, without_end}
use Rattle.markdown_blocks.specs.own.Reading.{Finds, abnf_of, if_abnf, line_len, with_blocks}
use Rattle.markdown_blocks.specs.Unread.{Fenced, all_blocks, begins_list, beside_behind, block_asides, draft_blocks, block_ended, first_lists, no_list, with_list}

-- ---- the first line of a text

pub line_len_le : (t : List ℕ) → line_len t ≤ length t
unfolding line_len
line_len_le [] = omega arith
line_len_le (c ∷ t) = by_test (ends_line c t) (line_len_le t)
  where
    by_test : (b : Bool) → line_len t ≤ length t → cond b 1 (suc (line_len t)) ≤ suc (length t)
    by_test true le = omega arith
    by_test false le = omega (arith, le)

pub line_len_some : (t : List ℕ) → 0 < length t → 0 < line_len t
unfolding line_len
line_len_some [] lt = lt
line_len_some (c ∷ t) lt = by_test (ends_line c t)
  where
    by_test : (b : Bool) → 0 < cond b 1 (suc (line_len t))
    by_test true = omega arith
    by_test false = omega arith

pub lines_first : (at : ℕ) (t : List ℕ) → 0 < length t → placed_lines_from at t ≡ (at, take (line_len t) t) ∷ placed_lines_from (at + line_len t) (drop (line_len t) t)
unfolding line_len placed_lines_from
lines_first at [] lt = absurd (omega (arith, lt))
lines_first at (c ∷ []) lt = by_test (ends_line c [])
  where
    by_test : (b : Bool) → cond b ((at, c ∷ []) ∷ []) ((at, c ∷ []) ∷ []) ≡ (at, take (cond b 1 1) (c ∷ [])) ∷ placed_lines_from (at + cond b 1 1) (drop (cond b 1 1) (c ∷ []))
    by_test true = refl
    by_test false = refl
lines_first at (c ∷ d ∷ t) lt = by_test (ends_line c (d ∷ t)) (lines_first (suc at) (d ∷ t) (omega arith))
  where
    by_test : (b : Bool) → placed_lines_from (suc at) (d ∷ t) ≡ (suc at, take (line_len (d ∷ t)) (d ∷ t)) ∷ placed_lines_from (suc at + line_len (d ∷ t)) (drop (line_len (d ∷ t)) (d ∷ t))
        → cond b ((at, c ∷ []) ∷ placed_lines_from (suc at) (d ∷ t)) (put_placed at c (placed_lines_from (suc at) (d ∷ t))) ≡ (at, take (cond b 1 (suc (line_len (d ∷ t)))) (c ∷ d ∷ t)) ∷ placed_lines_from (at + cond b 1 (suc (line_len (d ∷ t)))) (drop (cond b 1 (suc (line_len (d ∷ t)))) (c ∷ d ∷ t))
    by_test true more = ap (λ n. (at, c ∷ []) ∷ placed_lines_from n (d ∷ t)) (let e : suc at ≡ at + 1 = omega arith in e)
    by_test false more =
        ap (put_placed at c) more
        ∙ ap (λ n. (at, c ∷ take (line_len (d ∷ t)) (d ∷ t)) ∷ placed_lines_from n (drop (line_len (d ∷ t)) (d ∷ t))) (let e : suc at + line_len (d ∷ t) ≡ at + suc (line_len (d ∷ t)) = omega arith in e)

-- ---- a line of a block

pub blocks_closed : (end : ℕ) (fence : Fence) (beside : Beside) (content : List Sourced) (l : Line) (ls : List Line) → closes_fence fence (without_end l.1) ≡ true
    → all_blocks end (Block fence) beside content (l ∷ ls) ≡ block_ended (with_word (first_says ls) fence) (with_list (first_lists ls) beside) content l.0 ∷ all_blocks end BehindBlock no_list [] ls
unfolding all_blocks
blocks_closed end fence beside content l ls e = rw e refl

pub blocks_more : (end : ℕ) (fence : Fence) (beside : Beside) (content : List Sourced) (l : Line) (ls : List Line) → closes_fence fence (without_end l.1) ≡ false
    → all_blocks end (Block fence) beside content (l ∷ ls) ≡ all_blocks end (Block fence) beside (content ++ fence_content fence l) ls
unfolding all_blocks
blocks_more end fence beside content l ls e = rw e refl

-- ---- what was read so far

-- no block is open
abbrev pub IsOutside : Reading → Type 0
IsOutside (Block fence) = ⊥
IsOutside _ = Unit {0}

pub outside : (reading : Reading) → ((fence : Fence) → reading ≡ Block fence → ⊥) → IsOutside reading
outside Text none = tt
outside BehindBlock none = tt
outside BehindAttributes none = tt
outside Comment none = tt
outside Extension none = tt
outside (Block fence) none = absurd (none fence refl)

-- the next line, of which the text behind a line has the characters
pub next_says : (at : ℕ) (t : List ℕ) → first_says (placed_lines_from at t) ≡ says_abnf (without_end (take (line_len t) t))
unfolding line_len placed_lines_from
next_says at [] = refl
next_says at (c ∷ t) = ap first_says (lines_first at (c ∷ t) (omega arith))

-- and whether it is an attribute list at all
pub next_lists : (at : ℕ) (t : List ℕ) → first_lists (placed_lines_from at t) ≡ begins_list (without_end (take (line_len t) t))
unfolding line_len placed_lines_from
next_lists at [] = refl
next_lists at (c ∷ t) = ap first_lists (lines_first at (c ∷ t) (omega arith))

-- the grammar of blocks and then of others
grammar_append : (bs cs : List Fenced) → gathered_grammar (abnf_of (bs ++ cs)) ≡ gathered_grammar (abnf_of bs) ++ gathered_grammar (abnf_of cs)
grammar_append bs cs = ap gathered_grammar (flat_map-append if_abnf bs cs) ∙ flat_map-append aligned (abnf_of bs) (abnf_of cs)

-- blocks are found and then others
pub with_more : (found : Finds) (bs cs : List Fenced) → with_blocks (with_blocks found bs) cs ≡ with_blocks found (bs ++ cs)
with_more found bs cs = by_wish found.0
  where
    by_wish : (wants : Bool) → with_blocks (with_blocks (wants, found.1, found.2) bs) cs ≡ with_blocks (wants, found.1, found.2) (bs ++ cs)
    by_wish true = (λ i. (true, found.1, (append_assoc found.2 (flat_map block_asides bs) (flat_map block_asides cs) ∙ ap (λ found_asides. found.2 ++ found_asides) (sym (flat_map-append block_asides bs cs))) i))
    by_wish false = (λ i. (false, (append_assoc found.1 (gathered_grammar (abnf_of bs)) (gathered_grammar (abnf_of cs)) ∙ ap (λ g. found.1 ++ g) (sym (grammar_append bs cs))) i, found.2))

-- or none
with_none : (found : Finds) → found ≡ with_blocks found []
with_none found = by_wish found.0
  where
    by_wish : (wants : Bool) → (wants, found.1, found.2) ≡ with_blocks (wants, found.1, found.2) []
    by_wish true = (λ i. (true, found.1, sym (append-nil found.2) i))
    by_wish false = (λ i. (false, sym (append-nil found.1) i, found.2))

-- a line that isn't in a block
module _ (end : ℕ) (beside : Beside) (content : List Sourced) (l : Line) (ls : List Line) where
  pub text_line : (reading : Reading) → IsOutside reading
      → all_blocks end (behind_line reading (without_end l.1)) (beside_behind (behind_line reading (without_end l.1)) beside l.0 (without_end l.1)) [] ls ≡ all_blocks end reading beside content (l ∷ ls)
  unfolding all_blocks
  text_line Text o = refl
  text_line BehindBlock o = refl
  text_line BehindAttributes o = refl
  text_line Comment o = refl
  text_line Extension o = refl
  text_line (Block fence) o = absurd o

  -- and what is found with it
  pub text_found : (found : Finds) (reading behind : Reading) (known : Beside) (block : List Sourced) → IsOutside reading → behind ≡ behind_line reading (without_end l.1)
      → known ≡ beside_behind (behind_line reading (without_end l.1)) beside l.0 (without_end l.1) → block ≡ []
      → with_blocks found (all_blocks end behind known block ls) ≡ with_blocks found (all_blocks end reading beside content (l ∷ ls))
  text_found found reading behind known block o behind_is known_is none =
      (λ i. with_blocks found (all_blocks end (behind_is i) (known_is i) (none i) ls)) ∙ ap (with_blocks found) (text_line reading o)

-- ---- the blocks of ABNF among all

module _ (end : ℕ) where
  -- they are those that `markdown_blocks` has
  abnf_among : (ls : List Line) (reading : Reading) (beside : Beside) (content : List Sourced) → abnf_of (all_blocks end reading beside content ls) ≡ fenced_blocks end reading content ls
  unfolding all_blocks fenced_blocks
  abnf_among [] Text beside content = refl
  abnf_among [] BehindBlock beside content = refl
  abnf_among [] BehindAttributes beside content = refl
  abnf_among [] Comment beside content = refl
  abnf_among [] Extension beside content = refl
  abnf_among [] (Block fence) beside content = append-nil (ended_block fence content end)
  abnf_among (l ∷ ls) Text beside content = abnf_among ls _ _ []
  abnf_among (l ∷ ls) BehindBlock beside content = abnf_among ls _ _ []
  abnf_among (l ∷ ls) BehindAttributes beside content = abnf_among ls _ _ []
  abnf_among (l ∷ ls) Comment beside content = abnf_among ls _ _ []
  abnf_among (l ∷ ls) Extension beside content = abnf_among ls _ _ []
  abnf_among (l ∷ ls) (Block fence) beside content =
      by_close (closes_fence fence (without_end l.1)) (abnf_among ls BehindBlock no_list []) (abnf_among ls (Block fence) beside (content ++ fence_content fence l))
    where
      word : Fence
      word = with_word (first_says ls) fence

      by_close : (b : Bool) → abnf_of (all_blocks end BehindBlock no_list [] ls) ≡ fenced_blocks end BehindBlock [] ls
          → abnf_of (all_blocks end (Block fence) beside (content ++ fence_content fence l) ls) ≡ fenced_blocks end (Block fence) (content ++ fence_content fence l) ls
          → abnf_of (cond b (block_ended word (with_list (first_lists ls) beside) content l.0 ∷ all_blocks end BehindBlock no_list [] ls) (all_blocks end (Block fence) beside (content ++ fence_content fence l) ls))
          ≡ cond b (ended_block word content l.0 ++ fenced_blocks end BehindBlock [] ls) (fenced_blocks end (Block fence) (content ++ fence_content fence l) ls)
      by_close true behind more = ap (λ bs. ended_block word content l.0 ++ bs) behind
      by_close false behind more = more

-- so the grammar of a draft is that of its blocks of ABNF
pub abnf_blocks : (draft : List ℕ) → gathered_grammar (abnf_of (draft_blocks draft)) ≡ gathered_grammar (markdown_blocks draft)
abnf_blocks draft = ap gathered_grammar (abnf_among (length draft) (placed_lines_from 0 draft) Text no_list [])

pub lines_split : (at n : ℕ) (t line behind : List ℕ) → 0 < length t → n ≡ line_len t → line ≡ take n t → behind ≡ drop n t → length line ≡ n → (at, line) ∷ placed_lines_from (at + length line) behind ≡ placed_lines_from at t
lines_split at n t line behind some n_is line_is behind_is len =
    (λ i. (at, line_is i) ∷ placed_lines_from (at + len i) (behind_is i))
    ∙ ap (λ m. (at, take m t) ∷ placed_lines_from (at + m) (drop m t)) n_is
    ∙ sym (lines_first at t some)

module _ (found : Finds) (end at : ℕ) (beside : Beside) (block : List Sourced) (rest : List ℕ) (none : length rest ≡ 0) (left : at + length rest ≡ end) where
  lines_none : (t : List ℕ) → length t ≡ 0 → placed_lines_from at t ≡ []
  unfolding placed_lines_from
  lines_none [] e = refl
  lines_none (c ∷ t) e = absurd (omega (arith, e))

  pub end_open : (reading : Reading) (fence : Fence) {whole : Finds} → reading ≡ Block fence → with_blocks found (all_blocks end reading beside block (placed_lines_from at rest)) ≡ whole → with_blocks found (block_ended fence beside block at ∷ []) ≡ whole
  unfolding all_blocks
  end_open reading fence is was =
      (λ i. with_blocks found (block_ended fence beside block ((let e : at ≡ end = omega (arith, none, left) in e) i) ∷ []))
      ∙ (λ i. with_blocks found (all_blocks end (sym is i) beside block (sym (lines_none rest none) i)))
      ∙ was

  none_open : (reading : Reading) → IsOutside reading → [] ≡ all_blocks end reading beside block []
  unfolding all_blocks
  none_open Text o = refl
  none_open BehindBlock o = refl
  none_open BehindAttributes o = refl
  none_open Comment o = refl
  none_open Extension o = refl
  none_open (Block fence) o = absurd o

  pub end_outside : (reading : Reading) {whole : Finds} → IsOutside reading → with_blocks found (all_blocks end reading beside block (placed_lines_from at rest)) ≡ whole → found ≡ whole
  end_outside reading o was =
      with_none found
      ∙ ap (with_blocks found) (none_open reading o ∙ ap (all_blocks end reading beside block) (sym (lines_none rest none)))
      ∙ was

pub positive : (n : ℕ) → nat_eq n 0 ≡ false → 0 < n
positive zero e = cc
positive (suc n) e = omega arith

-- ---- the line of a loop
pub rest_all : (t : List ℕ) (n : ℕ) → take (length t - n) (drop n t) ≡ drop n t
rest_all t n = take_all (length t - n) (drop n t) (omega (arith, length-drop n t))

pub left_at : (t : List ℕ) (n c : ℕ) → n < length t → c ≡ get_or t n c → drop n t ≡ c ∷ drop (n + 1) t
left_at t n c lt is = at_drop_more (λ ds. ds) t n c lt ∙ ap (λ d. d ∷ drop (n + 1) t) (sym is)
