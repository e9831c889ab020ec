-- Of a draft no more is gathered than it has, whatever characters weigh, if each weighs something, a line end one, and in XML none more
-- than four.
use Rattle.std.proofs.Common.{◌≡◌, ℕ, zero, suc, ◌+◌, ◌-◌, ◌≤◌, List, [], ◌∷◌, ◌++◌, length, length-append, length-drop, length-take, take, drop, refl, sym, ap, subst, append_assoc, ◌∙◌, arith}
use Rattle.std.specs.Prelude.{pred, Bool, true, false, ◌&&◌, ◌==◌, nat_lt, min, Option, Some, None, is_some, Result, Ok, Err, if◌then◌else◌, slice_index, encode_utf8, encode_utf8_all}
use Rattle.std.specs.Option.{option_map}
use Rattle.std.specs.List.{prefix_len}
use Rattle.std.specs.Char.{is_digit, len_utf8}
use Rattle.std.proofs.lemmas.Bool.{eqb-true, true≢false}
use Rattle.std.proofs.lemmas.Str.{len_utf8_bounds, length-encode}
use Rattle.std.proofs.lemmas.List.{length-map}
use Rattle.ls_text.specs.Lines.{ends_line}
use Rattle.origins.specs.Origins.{Sourced, SourcedBlock, aligned, characters, first_indent, from, gathered_grammar, is_blank_char, is_break, left_aligned}
use Rattle.markdown_blocks.specs.Fences.{Line, begins_comment, begins_extension, behind_line, behind_text, closes_fence, ended_block, ends_extension, fence_content, fenced_blocks, first_says, has_end, margin, markdown_blocks, may_ask, opening_fence, placed_lines_from, put_placed, says_abnf, with_word, without_end}
use Rattle.markdown_blocks.specs.declared.fence.Fence.{Fence}
use Rattle.markdown_blocks.specs.declared.reading.Reading.{Reading}
use Rattle.markdown_blocks.specs.declared.reading.Reading.TheVariants as reading
use Rattle.xml_blocks.specs.Xml.{Opened, begins_with_mark, behind_piece, by_name, by_number, element_front, ended_at, closes_element, from_piece_on, is_plain_char, is_scalar, markup, named_value, number, numbered_value, opened_by, piece_at, piece_content, piece_of, put_before, reference, referred_piece, section_text, tag_len, until, value_with_digit, with_value}
use Rattle.xml_blocks.specs.declared.fault.XmlFault.{XmlFault}
use Rattle.xml_blocks.specs.declared.fault.XmlFault.TheVariants.{CommentWithoutEnd, SectionWithoutEnd, TagWithoutEnd}
use Rattle.xml_blocks.specs.declared.piece.Kind.{Kind}
use Rattle.xml_blocks.specs.declared.piece.Kind.TheVariants.{Text, Comment, Section, Tag, Reference}
use Rattle.xml_blocks.specs.declared.piece.Piece.{Piece}
use Rattle.xml_blocks.specs.declared.gather.Open.{Open as Begun}
use Rattle.draft_grammars.specs.Drafts.{grammar_in}
use Rattle.draft_grammars.specs.declared.format.Format.{Format}
use Rattle.draft_grammars.specs.declared.format.Format.TheVariants.{Markdown, Xml}

-- the grammar of blocks, and then of others
pub grammar_of_append : (bs cs : List SourcedBlock) → gathered_grammar (bs ++ cs) ≡ gathered_grammar bs ++ gathered_grammar cs
grammar_of_append [] cs = refl
grammar_of_append (b ∷ bs) cs = ap (λ g. aligned b ++ g) (grammar_of_append bs cs) ∙ sym (append_assoc (aligned b) (gathered_grammar bs) (gathered_grammar cs))

-- what a text weighs
abbrev pub size : (ℕ → ℕ) → List ℕ → ℕ
size f [] = 0
size f (c ∷ t) = f c + size f t

abbrev pub weight : (ℕ → ℕ) → List Sourced → ℕ
weight f [] = 0
weight f (c ∷ cs) = f c.0 + weight f cs

module _ (f : ℕ → ℕ) (some : (c : ℕ) → 1 ≤ f c) (one : f 10 ≡ 1) where
  weight_append : (xs ys : List Sourced) → weight f (xs ++ ys) ≡ weight f xs + weight f ys
  weight_append [] ys = omega arith
  weight_append (x ∷ xs) ys = let rest = weight_append xs ys in omega (arith, rest)

  pub weight_characters : (cs : List Sourced) → size f (characters cs) ≡ weight f cs
  weight_characters [] = refl
  weight_characters (c ∷ cs) = ap (λ n. f c.0 + n) (weight_characters cs)

  weight_from : (at : ℕ) (t : List ℕ) → weight f (from at t) ≡ size f t
  weight_from at [] = refl
  weight_from at (c ∷ t) = ap (λ n. f c + n) (weight_from (suc at) t)

  size_drop : (n : ℕ) (t : List ℕ) → size f (drop n t) ≤ size f t
  size_drop zero t = omega arith
  size_drop (suc n) [] = omega arith
  size_drop (suc n) (c ∷ t) = let rest = size_drop n t in omega (arith, rest)

  -- ---- blocks

  weight_aligned : (base left : ℕ) (cs : List Sourced) → weight f (left_aligned base left cs) ≤ weight f cs
  weight_aligned base left [] = omega arith
  weight_aligned base left (c ∷ cs) =
      by (is_blank_char c.0 && nat_lt 0 left) (weight_aligned base (pred left) cs) (weight_aligned base (if is_break c.0 then base else 0) cs)
    where
      by : (b : Bool) → weight f (left_aligned base (pred left) cs) ≤ weight f cs → weight f (left_aligned base (if is_break c.0 then base else 0) cs) ≤ weight f cs → weight f (if b then left_aligned base (pred left) cs else c ∷ left_aligned base (if is_break c.0 then base else 0) cs) ≤ f c.0 + weight f cs
      by true gone kept = omega (arith, gone)
      by false gone kept = omega (arith, kept)

  weight_block : (b : SourcedBlock) → weight f (aligned b) ≤ weight f b.content + 1
  weight_block b =
      let base = first_indent (Some 0) (characters b.content) in
      let rest = weight_aligned base base b.content in
      let both = weight_append (left_aligned base base b.content) ((10, b.end) ∷ []) in
      omega (arith, rest, both, one)

  weight_line : (fence : Fence) (l : Line) → weight f (fence_content fence l) ≤ size f l.1
  weight_line fence l =
      let gone = min fence.indent (margin fence.quoted l.1) in
      let all = weight_from (l.0 + gone) (drop gone l.1) in
      let rest = size_drop gone l.1 in
      omega (arith, all, rest)

  weight_ended : (fence : Fence) (content : List Sourced) (at : ℕ) → weight f (gathered_grammar (ended_block fence content at)) ≤ weight f content + 1
  weight_ended fence content at = by fence.is_abnf
    where
      by : (b : Bool) → weight f (gathered_grammar (if b then record { content = content; end = at } ∷ [] else [])) ≤ weight f content + 1
      by true =
          let block : SourcedBlock = record { content = content; end = at } in
          let rest = weight_block block in
          let both = weight_append (aligned block) [] in
          omega (arith, rest, both)
      by false = omega arith

  -- ---- lines

  abbrev total : List Line → ℕ
  total [] = 0
  total (l ∷ ls) = size f l.1 + total ls

  total_put : (at c : ℕ) (ls : List Line) → total (put_placed at c ls) ≡ f c + total ls
  total_put at c [] = omega arith
  total_put at c (l ∷ ls) = omega arith

  size_lines : (at : ℕ) (t : List ℕ) → total (placed_lines_from at t) ≡ size f t
  unfolding placed_lines_from
  size_lines at [] = refl
  size_lines at (c ∷ t) = by (ends_line c t) (size_lines (suc at) t)
    where
      by : (b : Bool) → total (placed_lines_from (suc at) t) ≡ size f t → total (if b then (at, c ∷ []) ∷ placed_lines_from (suc at) t else put_placed at c (placed_lines_from (suc at) t)) ≡ f c + size f t
      by true rest = omega (arith, rest)
      by false rest = let put = total_put at c (placed_lines_from (suc at) t) in omega (arith, rest, put)

  opened_some : (line : List ℕ) (fence : Fence) → opening_fence (without_end line) ≡ Some fence → 1 ≤ size f line
  opened_some [] fence e = absurd (cc (e))
  opened_some (c ∷ t) fence e = let first = some c in omega (arith, first)

  -- what may come of what was read: of an open block its content, and the line end that it gets
  abbrev bound : Reading → List Sourced → ℕ
  bound (reading.Block fence) content = weight f content + 1
  bound _ content = 0

  bound_text : (r : Reading) (line : List ℕ) (o : Option Fence) (n : ℕ) → ((fence : Fence) → o ≡ Some fence → 1 ≤ n) → bound (behind_text r line o) [] ≤ n
  bound_text r line None n least = by (begins_comment line) (begins_extension line) (may_ask r && says_abnf line)
    where
      by : (comment extension attributes : Bool)
          → bound (if comment then reading.Comment else (if extension then reading.Extension else (if attributes then reading.BehindAttributes else reading.Text))) [] ≤ n
      by true extension attributes = omega arith
      by false true attributes = omega arith
      by false false true = omega arith
      by false false false = omega arith
  bound_text r line (Some fence) n least = omega (arith, least fence refl)

  bound_opened : (r : Reading) (line : List ℕ) → bound (behind_text r (without_end line) (opening_fence (without_end line))) [] ≤ size f line
  bound_opened r line = bound_text r (without_end line) (opening_fence (without_end line)) (size f line) (opened_some line)

  bound_line : (r : Reading) (line : List ℕ) → bound (behind_line r (without_end line)) [] ≤ size f line
  bound_line reading.Comment line = by (has_end (without_end line))
    where
      by : (b : Bool) → bound (if b then reading.Text else reading.Comment) [] ≤ size f line
      by true = omega arith
      by false = omega arith
  bound_line reading.Extension line = by (ends_extension (without_end line))
    where
      by : (b : Bool) → bound (if b then reading.Text else reading.Extension) [] ≤ size f line
      by true = omega arith
      by false = omega arith
  bound_line r line = bound_opened r line

  abbrev IsGatheredLe : ℕ → Reading → List Sourced → List Line → Type 0
  IsGatheredLe end r content ls = weight f (gathered_grammar (fenced_blocks end r content ls)) ≤ bound r content + total ls

  -- a line that isn't in a block pays for the block that it opens
  behind_le : (end : ℕ) (r : Reading) (l : Line) (ls : List Line) → IsGatheredLe end (behind_line r (without_end l.1)) [] ls
      → weight f (gathered_grammar (fenced_blocks end (behind_line r (without_end l.1)) [] ls)) ≤ 0 + (size f l.1 + total ls)
  behind_le end r l ls rest = let line = bound_line r l.1 in omega (arith, rest, line)

  gathered_le : (end : ℕ) (r : Reading) (content : List Sourced) (ls : List Line) → IsGatheredLe end r content ls
  unfolding fenced_blocks
  gathered_le end (reading.Block fence) content [] = let ended = weight_ended fence content end in omega (arith, ended)
  gathered_le end r content [] = omega arith
  gathered_le end (reading.Block fence) content (l ∷ ls) =
      by (closes_fence fence (without_end l.1)) (gathered_le end reading.BehindBlock [] ls) (gathered_le end (reading.Block fence) (content ++ fence_content fence l) ls)
    where
      by : (b : Bool) → weight f (gathered_grammar (fenced_blocks end reading.BehindBlock [] ls)) ≤ 0 + total ls
          → weight f (gathered_grammar (fenced_blocks end (reading.Block fence) (content ++ fence_content fence l) ls)) ≤ weight f (content ++ fence_content fence l) + 1 + total ls
          → weight f (gathered_grammar (if b then ended_block (with_word (first_says ls) fence) content l.0 ++ fenced_blocks end reading.BehindBlock [] ls else fenced_blocks end (reading.Block fence) (content ++ fence_content fence l) ls))
          ≤ weight f content + 1 + (size f l.1 + total ls)
      by true rest inside =
          let fence = with_word (first_says ls) fence in
          let closed = ended_block fence content l.0 in
          let others = fenced_blocks end reading.BehindBlock [] ls in
          let ended = weight_ended fence content l.0 in
          let parts = ap (weight f) (grammar_of_append closed others) ∙ weight_append (gathered_grammar closed) (gathered_grammar others) in
          omega (arith, rest, ended, parts)
      by false outside rest =
          let more = weight_append content (fence_content fence l) in
          let line = weight_line fence l in
          omega (arith, rest, more, line)
  gathered_le end r content (l ∷ ls) = behind_le end r l ls (gathered_le end (behind_line r (without_end l.1)) [] ls)

  pub markdown_le : (draft : List ℕ) → size f (characters (gathered_grammar (markdown_blocks draft))) ≤ size f draft
  markdown_le draft =
      let rest = gathered_le (length draft) reading.Text [] (placed_lines_from 0 draft) in
      let lines = size_lines 0 draft in
      let same = weight_characters (gathered_grammar (markdown_blocks draft)) in
      omega (arith, rest, lines, same)

  -- ---- the same in XML, where no character weighs more than four

  right_of : (a b : Bool) → (a && b) ≡ true → b ≡ true
  right_of true b e = e
  right_of false b e = absurd (cc (e))

  begins_long : (m t : List ℕ) → begins_with_mark m t ≡ true → length m ≤ length t
  unfolding begins_with_mark
  begins_long [] t e = omega arith
  begins_long (m ∷ ms) [] e = absurd (cc (e))
  begins_long (m ∷ ms) (c ∷ t) e = let rest = begins_long ms t (right_of (c == m) (begins_with_mark ms t) e) in omega (arith, rest)

  abbrev Within : ℕ → ℕ → ℕ × ℕ → Type 0
  Within least most r = (least ≤ r.1) × (r.1 ≤ most)

  named_count : (value count : ℕ) (r : ℕ × ℕ) → named_value value count ≡ Some r → count ≡ r.1
  named_count value count r e = by (is_scalar value) e
    where
      by : (b : Bool) → (if b then Some (value, count) else None) ≡ Some r → count ≡ r.1
      by true e = let same : (value, count) ≡ r = cc (e) in ap (λ (q : ℕ × ℕ). q.1) same
      by false e = absurd (cc (e))

  number_long : (base value : ℕ) (t : List ℕ) (r : ℕ × ℕ) → number base value t ≡ Some r → Within 1 (length t) r
  unfolding number
  number_long base value [] r e = absurd (cc (e))
  number_long base value (c ∷ t) r e = by (λ more q. number_long base more t q) (c == 59) e
    where
      mapped : ((more : ℕ) (q : ℕ × ℕ) → number base more t ≡ Some q → Within 1 (length t) q) → (more : ℕ) (o : Option (ℕ × ℕ)) → number base more t ≡ o → option_map (λ (q : ℕ × ℕ). (q.0, suc q.1)) o ≡ Some r → Within 1 (suc (length t)) r
      mapped all more None is e = absurd (cc (e))
      mapped all more (Some q) is e =
          let rest = all more q is in
          let same : (q.0, suc q.1) ≡ r = cc (e) in
          let count : suc q.1 ≡ r.1 = ap (λ (q : ℕ × ℕ). q.1) same in
          (omega (arith, rest.0, count), omega (arith, rest.1, count))

      valued : ((more : ℕ) (q : ℕ × ℕ) → number base more t ≡ Some q → Within 1 (length t) q) → (o : Option ℕ) → with_value o (λ more. option_map (λ (q : ℕ × ℕ). (q.0, suc q.1)) (number base more t)) ≡ Some r → Within 1 (suc (length t)) r
      valued all None e = absurd (cc (e))
      valued all (Some more) e = mapped all more (number base more t) refl e

      by : ((more : ℕ) (q : ℕ × ℕ) → number base more t ≡ Some q → Within 1 (length t) q) → (b : Bool) → (if b then named_value value 1 else with_value (value_with_digit value base c) (λ more. option_map (λ (q : ℕ × ℕ). (q.0, suc q.1)) (number base more t))) ≡ Some r → Within 1 (suc (length t)) r
      by all true e = let count = named_count value 1 r e in (omega (arith, count), omega (arith, count))
      by all false e = valued all (value_with_digit value base c) e

  number_two : (base value : ℕ) (t : List ℕ) (r : ℕ × ℕ) → is_digit (slice_index t 0) base ≡ true → is_digit 59 base ≡ false → number base value t ≡ Some r → Within 2 (length t) r
  unfolding number
  number_two base value [] r digit end e = absurd (cc (e))
  number_two base value (c ∷ t) r digit end e = by (c == 59) refl e
    where
      mapped : (more : ℕ) (o : Option (ℕ × ℕ)) → number base more t ≡ o → option_map (λ (q : ℕ × ℕ). (q.0, suc q.1)) o ≡ Some r → Within 2 (suc (length t)) r
      mapped more None is e = absurd (cc (e))
      mapped more (Some q) is e =
          let rest = number_long base more t q is in
          let same : (q.0, suc q.1) ≡ r = cc (e) in
          let count : suc q.1 ≡ r.1 = ap (λ (q : ℕ × ℕ). q.1) same in
          (omega (arith, rest.0, count), omega (arith, rest.1, count))

      valued : (o : Option ℕ) → with_value o (λ more. option_map (λ (q : ℕ × ℕ). (q.0, suc q.1)) (number base more t)) ≡ Some r → Within 2 (suc (length t)) r
      valued None e = absurd (cc (e))
      valued (Some more) e = mapped more (number base more t) refl e

      by : (b : Bool) → (c == 59) ≡ b → (if b then named_value value 1 else with_value (value_with_digit value base c) (λ more. option_map (λ (q : ℕ × ℕ). (q.0, suc q.1)) (number base more t))) ≡ Some r → Within 2 (suc (length t)) r
      by true is e = absurd (true≢false (sym digit ∙ ap (λ n. is_digit n base) (eqb-true c 59 is) ∙ end))
      by false is e = valued (value_with_digit value base c) e

  numbered_long : (base front : ℕ) (t : List ℕ) (r : ℕ × ℕ) → is_digit 59 base ≡ false → numbered_value base front t ≡ Some r → Within (2 + front) (length t) r
  numbered_long base front t r end e = by (is_digit (slice_index (drop front t) 0) base) refl e
    where
      mapped : (o : Option (ℕ × ℕ)) → is_digit (slice_index (drop front t) 0) base ≡ true → number base 0 (drop front t) ≡ o → option_map (λ (q : ℕ × ℕ). (q.0, q.1 + front)) o ≡ Some r → Within (2 + front) (length t) r
      mapped None digit is e = absurd (cc (e))
      mapped (Some q) digit is e =
          let rest = number_two base 0 (drop front t) q digit end is in
          let same : (q.0, q.1 + front) ≡ r = cc (e) in
          let count : q.1 + front ≡ r.1 = ap (λ (q : ℕ × ℕ). q.1) same in
          (omega (arith, rest.0, count), omega (arith, rest.0, rest.1, count, length-drop front t))

      by : (b : Bool) → is_digit (slice_index (drop front t) 0) base ≡ b → (if b then option_map (λ (q : ℕ × ℕ). (q.0, q.1 + front)) (number base 0 (drop front t)) else None) ≡ Some r → Within (2 + front) (length t) r
      by true digit e = mapped (number base 0 (drop front t)) digit refl e
      by false digit e = absurd (cc (e))

  by_number_long : (t : List ℕ) (r : ℕ × ℕ) → by_number t ≡ Some r → Within 3 (length t) r
  by_number_long t r e = by (begins_with_mark (35 ∷ 120 ∷ []) t) (begins_with_mark (35 ∷ []) t) e
    where
      by : (hex number : Bool) → (if hex then numbered_value 16 2 t else (if number then numbered_value 10 1 t else None)) ≡ Some r → Within 3 (length t) r
      by true number e = let found = numbered_long 16 2 t r refl e in (omega (arith, found.0), found.1)
      by false true e = let found = numbered_long 10 1 t r refl e in (omega (arith, found.0), found.1)
      by false false e = absurd (cc (e))

  named_long : (m t : List ℕ) (c n : ℕ) (other : Option (ℕ × ℕ)) (r : ℕ × ℕ) → 3 ≤ n → length m ≡ n → (other ≡ Some r → Within 3 (length t) r) → (if begins_with_mark m t then Some (c, n) else other) ≡ Some r → Within 3 (length t) r
  named_long m t c n other r least long rest e = by (begins_with_mark m t) refl e
    where
      by : (b : Bool) → begins_with_mark m t ≡ b → (if b then Some (c, n) else other) ≡ Some r → Within 3 (length t) r
      by true is e =
          let same : (c, n) ≡ r = cc (e) in
          let count : n ≡ r.1 = ap (λ (q : ℕ × ℕ). q.1) same in
          (omega (arith, count, least), omega (arith, count, long, begins_long m t is))
      by false is e = rest e

  by_name_long : (t : List ℕ) (r : ℕ × ℕ) → by_name t ≡ Some r → Within 3 (length t) r
  by_name_long t r e =
      named_long (110 ∷ 98 ∷ 115 ∷ 112 ∷ 59 ∷ []) t 0xA0 5 _ r (omega arith) refl
      (λ e. named_long (110 ∷ 98 ∷ 104 ∷ 121 ∷ 59 ∷ []) t 0x2011 5 _ r (omega arith) refl
      (λ e. named_long (122 ∷ 119 ∷ 115 ∷ 112 ∷ 59 ∷ []) t 0x200B 5 _ r (omega arith) refl
      (λ e. named_long (119 ∷ 106 ∷ 59 ∷ []) t 0x2060 3 _ r (omega arith) refl (λ e. by_number_long t r e) e) e) e)
      e

  reference_long : (t : List ℕ) (r : ℕ × ℕ) → reference t ≡ Some r → Within 3 (length t) r
  reference_long t r e =
      named_long (108 ∷ 116 ∷ 59 ∷ []) t 60 3 _ r (omega arith) refl
      (λ e. named_long (103 ∷ 116 ∷ 59 ∷ []) t 62 3 _ r (omega arith) refl
      (λ e. named_long (97 ∷ 109 ∷ 112 ∷ 59 ∷ []) t 38 4 _ r (omega arith) refl
      (λ e. named_long (113 ∷ 117 ∷ 111 ∷ 116 ∷ 59 ∷ []) t 34 5 _ r (omega arith) refl
      (λ e. named_long (97 ∷ 112 ∷ 111 ∷ 115 ∷ 59 ∷ []) t 39 5 _ r (omega arith) refl (λ e. by_name_long t r e) e) e) e) e)
      e

  -- ---- pieces

  size_take : (n : ℕ) (t : List ℕ) → size f (take n t) + size f (drop n t) ≡ size f t
  size_take zero t = omega arith
  size_take (suc n) [] = omega arith
  size_take (suc n) (c ∷ t) = let rest = size_take n t in omega (arith, rest)

  length_size : (t : List ℕ) → length t ≤ size f t
  length_size [] = omega arith
  length_size (c ∷ t) = let rest = length_size t in let first = some c in omega (arith, rest, first)

  weight_section : (at : ℕ) (t : List ℕ) → weight f (from at (section_text t)) ≤ size f t
  weight_section at t =
      let front = size_take (length t - 11) (drop 8 t) in
      let rest = size_drop 8 t in
      omega (arith, weight_from at (section_text t), front, rest)

  abbrev IsFair : ℕ → ℕ → List ℕ → Piece → Type 0
  IsFair at c t piece = weight f (piece_content piece.kind at (take piece.more t)) ≤ f c + size f (take piece.more t)

  fair_markup : (at c : ℕ) (t : List ℕ) (piece : Piece) → markup at t ≡ Ok piece → IsFair at c t piece
  fair_markup at c t piece e = by (begins_with_mark (33 ∷ 45 ∷ 45 ∷ []) t) (begins_with_mark (33 ∷ 91 ∷ 67 ∷ 68 ∷ 65 ∷ 84 ∷ 65 ∷ 91 ∷ []) t) e
    where
      made : (kind : Kind) (fault : XmlFault) (o : Option ℕ) (front : ℕ) → ((n : ℕ) → IsFair at c t (record { kind = kind; more = n })) → piece_of kind fault o front ≡ Ok piece → IsFair at c t piece
      made kind fault None front all e = absurd (cc (e))
      made kind fault (Some n) front all e = let same : record { kind = kind; more = n + front } ≡ piece = cc (e) in subst (IsFair at c t) same (all (n + front))

      by : (comment section : Bool) → (if comment then piece_of Comment (CommentWithoutEnd at) (until (45 ∷ 45 ∷ 62 ∷ []) (drop 3 t)) 6
          else (if section then piece_of Section (SectionWithoutEnd at) (until (93 ∷ 93 ∷ 62 ∷ []) (drop 8 t)) 11 else piece_of Tag (TagWithoutEnd at) (tag_len t) 0)) ≡ Ok piece → IsFair at c t piece
      by true section e = made Comment (CommentWithoutEnd at) (until (45 ∷ 45 ∷ 62 ∷ []) (drop 3 t)) 6 (λ n. omega arith) e
      by false true e = made Section (SectionWithoutEnd at) (until (93 ∷ 93 ∷ 62 ∷ []) (drop 8 t)) 11 (λ n. let rest = weight_section (at + 9) (take n t) in omega (arith, rest)) e
      by false false e = made Tag (TagWithoutEnd at) (tag_len t) 0 (λ n. omega arith) e

  fair_reference : ((c : ℕ) → f c ≤ 4) → (at c : ℕ) (t : List ℕ) (piece : Piece) → referred_piece at (reference t) ≡ Ok piece → IsFair at c t piece
  fair_reference most at c t piece e = by (reference t) refl e
    where
      by : (o : Option (ℕ × ℕ)) → reference t ≡ o → referred_piece at o ≡ Ok piece → IsFair at c t piece
      by None is e = absurd (cc (e))
      by (Some r) is e =
          let same : record { kind = Reference r.0; more = r.1 } ≡ piece = cc (e) in
          let long = reference_long t r is in
          let behind = length_size (take r.1 t) in
          let first = some c in
          let own = most r.0 in
          subst (IsFair at c t) same (omega (arith, long.0, long.1, behind, length-take r.1 t, first, own))

  fair : ((c : ℕ) → f c ≤ 4) → (in_block : Bool) (at c : ℕ) (t : List ℕ) (piece : Piece) → piece_at in_block at c t ≡ Ok piece → IsFair at c t piece
  fair most in_block at c t piece e = by (c == 60) (in_block && c == 38) e
    where
      by : (mark refers : Bool) → (if mark then markup at t else (if refers then referred_piece at (reference t) else Ok (record { kind = Text c; more = prefix_len (is_plain_char in_block) t }))) ≡ Ok piece → IsFair at c t piece
      by true refers e = fair_markup at c t piece e
      by false true e = fair_reference most at c t piece e
      by false false e =
          let n = prefix_len (is_plain_char in_block) t in
          let same : record { kind = Text c; more = n } ≡ piece = cc (e) in
          let all = weight_from (at + 1) (take n t) in
          subst (IsFair at c t) same (omega (arith, all))

  -- ---- elements

  abbrev bound_of : Option Opened → ℕ
  bound_of None = 0
  bound_of (Some opened) = weight f opened.1 + 1

  abbrev IsBounded : Option Opened × List SourcedBlock → ℕ → Type 0
  IsBounded next n = weight f (gathered_grammar next.1) + bound_of next.0 ≤ n

  step_le : (state : Option Opened) (kind : Kind) (at c : ℕ) (t : List ℕ) → weight f (piece_content kind at t) ≤ f c + size f t → IsBounded (behind_piece state kind at t) (bound_of state + (f c + size f t))
  step_le None kind at c t le = by (opened_by kind at t)
    where
      by : (o : Option Begun) → IsBounded (option_map (λ (o : Begun). (o, [])) o, []) (0 + (f c + size f t))
      by None = omega arith
      by (Some o) = let first = some c in omega (arith, first)
  step_le (Some opened) kind at c t le = by (closes_element (opened.0).element kind t)
    where
      by : (b : Bool) → IsBounded (if b then (None, record { content = opened.1; end = at } ∷ []) else (Some (opened.0, opened.1 ++ piece_content kind at t), [])) (weight f opened.1 + 1 + (f c + size f t))
      by true =
          let block : SourcedBlock = record { content = opened.1; end = at } in
          let rest = weight_block block in
          let both = weight_append (aligned block) [] in
          omega (arith, rest, both)
      by false = let more = weight_append opened.1 (piece_content kind at t) in omega (arith, more, le)

  ended_le : (state : Option Opened) (at : ℕ) → weight f (gathered_grammar (ended_at state at)) ≤ bound_of state
  ended_le None at = omega arith
  ended_le (Some opened) at =
      let block : SourcedBlock = record { content = opened.1; end = at } in
      let rest = weight_block block in
      let both = weight_append (aligned block) [] in
      omega (arith, rest, both)

  elements_le : ((c : ℕ) → f c ≤ 4) → (state : Option Opened) (read at : ℕ) (t : List ℕ) → weight f (gathered_grammar (element_front state read at t).blocks) ≤ bound_of state + size f (drop read t)
  unfolding element_front
  elements_le most None read at [] = omega arith
  elements_le most (Some opened) read at [] = omega arith
  elements_le most state (suc read) at (c ∷ t) = elements_le most state read (suc at) t
  elements_le most state zero at (c ∷ t) = by (λ s read. elements_le most s read (suc at) t) (piece_at (is_some state) at c t) refl
    where
      by : ((s : Option Opened) (read : ℕ) → weight f (gathered_grammar (element_front s read (suc at) t).blocks) ≤ bound_of s + size f (drop read t)) → (r : Result Piece XmlFault) → piece_at (is_some state) at c t ≡ r
          → weight f (gathered_grammar (from_piece_on state at r (λ piece.
          put_before (behind_piece state piece.kind at (take piece.more t)).1 (element_front (behind_piece state piece.kind at (take piece.more t)).0 piece.more (suc at) t))).blocks)
          ≤ bound_of state + (f c + size f t)
      by all (Err fault) is = let ended = ended_le state at in omega (arith, ended)
      by all (Ok piece) is =
          let next = behind_piece state piece.kind at (take piece.more t) in
          let behind = element_front next.0 piece.more (suc at) t in
          let rest = all next.0 piece.more in
          let step = step_le state piece.kind at c (take piece.more t) (fair most (is_some state) at c t piece is) in
          let parts = ap (weight f) (grammar_of_append next.1 behind.blocks) ∙ weight_append (gathered_grammar next.1) (gathered_grammar behind.blocks) in
          let both = size_take piece.more t in
          omega (arith, rest, step, parts, both)

  pub xml_le : ((c : ℕ) → f c ≤ 4) → (draft : List ℕ) → size f (characters (grammar_in Xml draft)) ≤ size f draft
  xml_le most draft =
      let le = elements_le most None 0 0 draft in
      omega (arith, le, weight_characters (grammar_in Xml draft))

-- a reference is no longer than the text
pub reference_le : (t : List ℕ) (r : ℕ × ℕ) → reference t ≡ Some r → r.1 ≤ length t
reference_le t r e = (reference_long (λ c. 1) (λ c. omega arith) refl t r e).1

-- ---- characters and bytes

sizes : (t : List ℕ) → size (λ c. 1) t ≡ length t
sizes [] = refl
sizes (c ∷ t) = let rest = sizes t in omega (arith, rest)

bytes_sum : (t : List ℕ) → length (encode_utf8_all t) ≡ size len_utf8 t
bytes_sum [] = refl
bytes_sum (c ∷ t) =
    let all : length (encode_utf8_all (c ∷ t)) ≡ length (encode_utf8 c) + length (encode_utf8_all t) = length-append (encode_utf8 c) (encode_utf8_all t) in
    let rest = bytes_sum t in
    omega (arith, all, length-encode c, rest)

-- and no more bytes
pub markdown_small : (draft : List ℕ) → length (encode_utf8_all (characters (gathered_grammar (markdown_blocks draft)))) ≤ length (encode_utf8_all draft)
markdown_small draft =
    let le = markdown_le len_utf8 (λ c. (len_utf8_bounds c).0) refl draft in
    omega (arith, le, bytes_sum (characters (gathered_grammar (markdown_blocks draft))), bytes_sum draft)

pub markdown_short : (draft : List ℕ) → length (gathered_grammar (markdown_blocks draft)) ≤ length draft
markdown_short draft =
    let g = gathered_grammar (markdown_blocks draft) in
    let le = markdown_le (λ c. 1) (λ c. omega arith) refl draft in
    omega (arith, le, sizes (characters g), sizes draft, length-map g (λ (c : Sourced). c.0))

-- ---- the same of both formats

pub no_longer : (format : Format) (draft : List ℕ) → length (grammar_in format draft) ≤ length draft
no_longer Markdown draft = markdown_short draft
no_longer Xml draft =
    let g = grammar_in Xml draft in
    let le = xml_le (λ c. 1) (λ c. omega arith) refl (λ c. omega arith) draft in
    let all = length-map g (λ (c : Sourced). c.0) in
    omega (arith, le, sizes (characters g), sizes draft, all)

pub no_larger : (format : Format) (draft : List ℕ) → length (encode_utf8_all (characters (grammar_in format draft))) ≤ length (encode_utf8_all draft)
no_larger Markdown draft = markdown_small draft
no_larger Xml draft =
    let le = xml_le len_utf8 (λ c. (len_utf8_bounds c).0) refl (λ c. (len_utf8_bounds c).1) draft in
    let own = bytes_sum (characters (grammar_in Xml draft)) in
    let all = bytes_sum draft in
    omega (arith, le, own, all)
