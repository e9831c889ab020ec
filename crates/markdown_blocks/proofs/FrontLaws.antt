-- Laws of what lines begin with.
use Rattle.std.proofs.Common.{◌≡◌, ℕ, zero, suc, ◌+◌, ◌-◌, ◌<◌, ◌≤◌, Bool, true, false, not, cond, ◌||◌, ◌&&◌, List, [], ◌∷◌, ◌++◌, length, take, drop, refl, sym, ap, subst, ◌∙◌, arith}
use Rattle.std.specs.Prelude.{Option, Some, None, nat_le, ◌==◌, slice_index, min}
use Rattle.std.specs.Char.{to_ascii_lowercase}
use Rattle.std.specs.Str.{chars, IsUtf8, IsCharBoundary, encode_utf8_all, all_scalars}
use Rattle.std.specs.List.{list_any, prefix_len}
use Rattle.std.proofs.lemmas.Bool.{and_left, and_parts, and_right, eqb-true, or_from, or_parts}
use Rattle.std.proofs.lemmas.Bool.Decides.{nat_tests}
use Rattle.std.proofs.lemmas.Str.{IsCharBoundary-from_drop, chars-encodes, encode_ascii, encodes-chars, length-le-encodes, scalars-chars}
use Rattle.origins.specs.Origins.{is_blank_char, is_break}
use Rattle.markdown_blocks.specs.declared.fence.Fence.{Fence}
use Rattle.markdown_blocks.specs.declared.reading.Reading.{Reading}
use Rattle.markdown_blocks.specs.declared.reading.Reading.TheVariants.{Text, BehindBlock, BehindAttributes, Comment, Extension, Block}
use Rattle.markdown_blocks.specs.Fences.{begins, begins_comment, begins_extension, behind_line, behind_text, closes_fence, fence_with, is_margin, margin, marks, may_ask, may_open, opening_fence, says_abnf, without_blanks, without_end}
use Rattle.markdown_blocks.specs.declared.beside.Beside.{Beside}
use Rattle.markdown_blocks.specs.Unread.{begins_list, beside_behind, no_list}
use Rattle.markdown_blocks.specs.own.Fronts.{first_behind, goes_on, is_mark, may_begin, may_close, may_matter}

-- ---- the loop that looks for the first character behind the margin

-- a character of the margin is passed over
pub behind_more : (quoted : Bool) (c : ℕ) (t : List ℕ) → is_margin quoted c ≡ true → first_behind quoted (c ∷ t) ≡ first_behind quoted t
behind_more quoted c t e = rw e refl

-- another one is found
pub behind_found : (quoted : Bool) (c : ℕ) (t : List ℕ) → is_margin quoted c ≡ false → first_behind quoted (c ∷ t) ≡ Some c
behind_found quoted c t e = rw e refl

-- one more, as lists are counted
one_more : (n : ℕ) → 1 + n ≡ suc n
one_more n = omega arith

-- ---- a line without its line end

-- a test of the first character that isn't passed by a line isn't passed by the line without its line end
pub without_end_behind : (f : Option ℕ → Bool) → f None ≡ false → (quoted : Bool) (line : List ℕ) → f (first_behind quoted line) ≡ false → f (first_behind quoted (without_end line)) ≡ false
without_end_behind f none quoted [] e = none
without_end_behind f none quoted (c ∷ t) e = by_test (not (is_break c)) (is_margin quoted c) refl e (without_end_behind f none quoted t)
  where
    by_test : (goes passed : Bool) → is_margin quoted c ≡ passed → f (cond passed (first_behind quoted t) (Some c)) ≡ false → (f (first_behind quoted t) ≡ false → f (first_behind quoted (without_end t)) ≡ false)
        → f (first_behind quoted (take (cond goes (1 + prefix_len (λ d. not (is_break d)) t) 0) (c ∷ t))) ≡ false
    by_test false passed is h more = none
    by_test true true is h more = ap (λ k. f (first_behind quoted (take k (c ∷ t)))) (one_more _) ∙ ap f (behind_more quoted c (without_end t) is) ∙ more h
    by_test true false is h more = ap (λ k. f (first_behind quoted (take k (c ∷ t)))) (one_more _) ∙ ap f (behind_found quoted c (without_end t) is) ∙ h

-- ---- a line that may not be more than text

-- what holds of no text, and of each that begins with another character than these two, holds of the line without blanks
module _ (P : List ℕ → Type 0) (none : P []) (some : (c : ℕ) (t : List ℕ) → (c == 60) ≡ false → (c == 123) ≡ false → P (c ∷ t)) where
  pub blanks_gone : (line : List ℕ) → may_matter line ≡ false → P (without_blanks line)
  blanks_gone [] e = none
  blanks_gone (c ∷ t) e = by_blank (is_blank_char c) refl (blanks_gone t)
    where
      others : (b : Bool) → (c == 62) ≡ b → may_begin (cond b (first_behind true t) (Some c)) ≡ false → ((c == 60) ≡ false) × ((c == 123) ≡ false)
      others true quote h = (rw (eqb-true c 62 quote) refl, rw (eqb-true c 62 quote) refl)
      others false quote h =
          let last = or_parts (c == 96 || c == 126 || c == 60) (c == 123) h in
          ((or_parts (c == 96 || c == 126) (c == 60) last.0).1, last.1)

      by_blank : (b : Bool) → is_blank_char c ≡ b → (may_matter t ≡ false → P (without_blanks t)) → P (drop (cond (b || false) (1 + margin false t) 0) (c ∷ t))
      by_blank true is more = subst (λ k. P (drop k (c ∷ t))) (sym (one_more (margin false t))) (more (ap may_begin (sym (behind_more true c t (ap (λ x. x || (c == 62)) is))) ∙ e))
      by_blank false is more =
          let parts = others (c == 62) refl (ap (λ x. may_begin (cond (x || (c == 62)) (first_behind true t) (Some c))) (sym is) ∙ e) in
          some c t parts.0 parts.1

-- a letter in any case is neither of these
small_60 : (c : ℕ) → (c == 60) ≡ false → (to_ascii_lowercase c == 60) ≡ false
small_60 c e = grind (arith, nat_tests)

-- nor a `{`
small_123 : (c : ℕ) → (c == 123) ≡ false → (to_ascii_lowercase c == 123) ≡ false
small_123 c e = grind (arith, nat_tests)

-- such a line begins no comment, nothing that is left out, and no attribute list
no_comment : (line : List ℕ) → may_matter line ≡ false → begins_comment line ≡ false
no_comment line e =
    and_left _ _ (blanks_gone (λ t. begins (60 ∷ 33 ∷ 45 ∷ 45 ∷ []) t ≡ false) refl (λ c t no other. and_left _ _ (small_60 c no)) line e)

-- begins nothing that is left out
no_extension : (line : List ℕ) → may_matter line ≡ false → begins_extension line ≡ false
no_extension line e =
    and_left _ _ (blanks_gone (λ t. begins (123 ∷ 58 ∷ 58 ∷ 99 ∷ 111 ∷ 109 ∷ 109 ∷ 101 ∷ 110 ∷ 116 ∷ 125 ∷ []) t ≡ false) refl (λ c t other no. and_left _ _ (small_123 c no)) line e)

-- doesn't begin as an attribute list does
no_list_begun : (line : List ℕ) → may_matter line ≡ false → begins_list line ≡ false
no_list_begun line e = blanks_gone (λ t. (slice_index t 0 == 123) ≡ false) refl (λ c t other no. no) line e

-- is no attribute list that says ABNF
no_word : (line : List ℕ) → may_matter line ≡ false → says_abnf line ≡ false
no_word line e = and_left _ _ (no_list_begun line e)

-- and opens no fence
no_mark : (info : List ℕ) (line : List ℕ) → may_matter line ≡ false → may_open (slice_index (drop (margin true line) line) 0) info ≡ false
no_mark info [] e = refl
no_mark info (c ∷ t) e = by_margin (is_margin true c) e (no_mark info t)
  where
    by_margin : (b : Bool) → may_begin (cond b (first_behind true t) (Some c)) ≡ false → (may_matter t ≡ false → may_open (slice_index (drop (margin true t) t) 0) info ≡ false)
        → may_open (slice_index (drop (cond b (1 + margin true t) 0) (c ∷ t)) 0) info ≡ false
    by_margin true h more = ap (λ k. may_open (slice_index (drop k (c ∷ t)) 0) info) (one_more (margin true t)) ∙ more h
    by_margin false h more =
        let last = or_parts (c == 96 || c == 126 || c == 60) (c == 123) h in
        let marks = or_parts (c == 96) (c == 126) (or_parts (c == 96 || c == 126) (c == 60) last.0).0 in
        or_from (c == 126) (c == 96 && not (list_any (λ d. d == 96) info)) marks.1 (and_left (c == 96) (not (list_any (λ d. d == 96) info)) marks.0)

-- so it opens none
no_fence : (line : List ℕ) → may_matter line ≡ false → opening_fence line ≡ None
no_fence line e =
    let n = margin true line in
    let rest = drop n line in
    let mark = slice_index rest 0 in
    ap (λ b. cond b (Some (fence_with (take n line) mark (marks mark rest) (drop (marks mark rest) rest))) None) (and_right (nat_le 3 (marks mark rest)) (may_open mark (drop (marks mark rest) rest)) (no_mark (drop (marks mark rest) rest) line e))

-- so text is read behind it
text_behind : (reading : Reading) (line : List ℕ) → may_matter line ≡ false → behind_text reading line (opening_fence line) ≡ Text
text_behind reading line e =
    ap (behind_text reading line) (no_fence line e)
    ∙ ap (λ b. cond b Comment (cond (begins_extension line) Extension (cond (may_ask reading && says_abnf line) BehindAttributes Text))) (no_comment line e)
    ∙ ap (λ b. cond b Extension (cond (may_ask reading && says_abnf line) BehindAttributes Text)) (no_extension line e)
    ∙ ap (λ b. cond b BehindAttributes Text) (and_right (may_ask reading) (says_abnf line) (no_word line e))

-- behind it text is read, with its line end too
pub prose_behind : (reading : Reading) (line : List ℕ) → goes_on reading ≡ false → may_matter line ≡ false → Text ≡ behind_line reading (without_end line)
prose_behind reading line goes e = by_reading reading goes
  where
    none : may_matter (without_end line) ≡ false
    none = without_end_behind may_begin refl true line e

    by_reading : (r : Reading) → goes_on r ≡ false → Text ≡ behind_line r (without_end line)
    by_reading Text g = sym (text_behind Text (without_end line) none)
    by_reading BehindBlock g = sym (text_behind BehindBlock (without_end line) none)
    by_reading BehindAttributes g = sym (text_behind BehindAttributes (without_end line) none)
    by_reading Comment g = cc
    by_reading Extension g = cc
    by_reading (Block fence) g = sym (text_behind (Block fence) (without_end line) none)

-- and it is known that no attribute list stands there
pub prose_beside : (reading : Reading) (beside : Beside) (at : ℕ) (line : List ℕ) → goes_on reading ≡ false → may_matter line ≡ false → no_list ≡ beside_behind (behind_line reading (without_end line)) beside at (without_end line)
prose_beside reading beside at line goes e =
    (λ i. record { is_bare = not (sym (no_list_begun (without_end line) (without_end_behind may_begin refl true line e)) i); at = 0 })
    ∙ ap (λ next. beside_behind next beside at (without_end line)) (prose_behind reading line goes e)

-- ---- a line that may not close a block

-- no marks stand behind the margin of a line whose first character there is none
no_marks : (quoted : Bool) (mark : ℕ) (line : List ℕ) → is_mark mark (first_behind quoted line) ≡ false → marks mark (drop (margin quoted line) line) ≡ 0
no_marks quoted mark [] e = refl
no_marks quoted mark (c ∷ t) e = by_margin (is_margin quoted c) e (no_marks quoted mark t)
  where
    by_margin : (b : Bool) → is_mark mark (cond b (first_behind quoted t) (Some c)) ≡ false → (is_mark mark (first_behind quoted t) ≡ false → marks mark (drop (margin quoted t) t) ≡ 0)
        → marks mark (drop (cond b (1 + margin quoted t) 0) (c ∷ t)) ≡ 0
    by_margin true h more = ap (λ k. marks mark (drop k (c ∷ t))) (one_more _) ∙ more h
    by_margin false h more = ap (λ b. cond b (1 + marks mark t) 0) h

-- no marks are fewer than some
few_marks : (count n : ℕ) → (count == 0) ≡ false → n ≡ 0 → nat_le count n ≡ false
few_marks count n some none = grind (arith, nat_tests)

-- so it closes no block
pub stays_open : (fence : Fence) (line : List ℕ) → may_close fence line ≡ false → false ≡ closes_fence fence (without_end line)
stays_open fence line e =
    let parts = or_parts (fence.count == 0) (is_mark fence.mark (first_behind fence.quoted line)) e in
    let none = no_marks fence.quoted fence.mark (without_end line) (without_end_behind (is_mark fence.mark) refl fence.quoted line parts.1) in
    sym (and_left _ _ (few_marks fence.count _ parts.0 none))

-- ---- the margin that goes before a block's content

-- the loop that counts it
pub margin_cut : (quoted : Bool) (c : ℕ) (t : List ℕ) → is_margin quoted c ≡ false → margin quoted (c ∷ t) ≡ 0
margin_cut quoted c t e = rw e refl

-- a character of the margin is counted
pub margin_more : (quoted : Bool) (c : ℕ) (t : List ℕ) → is_margin quoted c ≡ true → margin quoted (c ∷ t) ≡ 1 + margin quoted t
margin_more quoted c t e = rw e refl

-- the next character goes
pub gone_on : (gone indent a b whole : ℕ) → a ≡ 1 + b → gone ≤ indent → (gone ≡ indent → ⊥) → gone + min (indent - gone) a ≡ whole → (gone + 1) + min (indent - (gone + 1)) b ≡ whole
gone_on gone indent a b whole one le more so_far = omega (arith, one, le, more, so_far)

-- as many go as the fence has before it
pub gone_all : (gone indent a whole : ℕ) → gone ≡ indent → gone + min (indent - gone) a ≡ whole → gone ≡ whole
gone_all gone indent a whole all so_far = omega (arith, all, so_far)

-- no more go, as the margin has ended
pub gone_end : (gone indent a whole : ℕ) → a ≡ 0 → gone + min (indent - gone) a ≡ whole → gone ≡ whole
gone_end gone indent a whole none so_far = omega (arith, none, so_far)

-- a margin is ASCII
ascii_margin : (quoted : Bool) (c : ℕ) → is_margin quoted c ≡ true → c < 128
ascii_margin quoted c e = by_quoted quoted e
  where
    by_quoted : (q : Bool) → is_margin q c ≡ true → c < 128
    by_quoted true h = grind (arith, nat_tests)
    by_quoted false h = grind (arith, nat_tests)

-- the bytes behind it are those of the characters behind it
bytes_behind : (quoted : Bool) (k : ℕ) (cs : List ℕ) → k ≤ margin quoted cs → drop k (encode_utf8_all cs) ≡ encode_utf8_all (drop k cs)
bytes_behind quoted zero cs le = refl
bytes_behind quoted (suc k) [] le = absurd (omega (arith, le))
bytes_behind quoted (suc k) (c ∷ cs) le = by_margin (is_margin quoted c) refl le (bytes_behind quoted k cs)
  where
    by_margin : (b : Bool) → is_margin quoted c ≡ b → suc k ≤ cond b (1 + margin quoted cs) 0 → (k ≤ margin quoted cs → drop k (encode_utf8_all cs) ≡ encode_utf8_all (drop k cs))
        → drop (suc k) (encode_utf8_all (c ∷ cs)) ≡ encode_utf8_all (drop k cs)
    by_margin true is h more = ap (λ bs. drop (suc k) (bs ++ encode_utf8_all cs)) (encode_ascii c (ascii_margin quoted c is)) ∙ more (omega (arith, h))
    by_margin false is h more = absurd (omega (arith, h))

-- a margin is no longer than its line
margin_le : (quoted : Bool) (cs : List ℕ) → margin quoted cs ≤ length cs
margin_le quoted [] = omega arith
margin_le quoted (c ∷ cs) = by_margin (is_margin quoted c) (margin_le quoted cs)
  where
    by_margin : (b : Bool) → margin quoted cs ≤ length cs → cond b (1 + margin quoted cs) 0 ≤ suc (length cs)
    by_margin true le = omega (arith, le)
    by_margin false le = omega arith

-- what is behind characters are characters
scalars_behind : (k : ℕ) (cs : List ℕ) → all_scalars cs ≡ true → all_scalars (drop k cs) ≡ true
scalars_behind zero cs e = e
scalars_behind (suc k) [] e = e
scalars_behind (suc k) (c ∷ cs) e = scalars_behind k cs (and_parts _ _ e).1

module _ (bs : List ℕ) (u : IsUtf8 bs) (quoted : Bool) (k : ℕ) (le : k ≤ margin quoted (chars bs)) where
  -- the same of a text
  bytes_are : drop k bs ≡ encode_utf8_all (drop k (chars bs))
  bytes_are = ap (drop k) (sym (encodes-chars bs u)) ∙ bytes_behind quoted k (chars bs) le

  -- the characters behind a margin
  pub chars_behind : chars (drop k bs) ≡ drop k (chars bs)
  chars_behind = ap chars bytes_are ∙ chars-encodes (drop k (chars bs)) (scalars_behind k (chars bs) (scalars-chars bs u))

  -- a line may be cut there
  pub cut_behind : IsCharBoundary bs k
  cut_behind = IsCharBoundary-from_drop bs k (omega (arith, le, margin_le quoted (chars bs), length-le-encodes (chars bs), ap length (encodes-chars bs u))) (drop k (chars bs), (scalars_behind k (chars bs) (scalars-chars bs u), sym bytes_are))

  -- which is in the line
  pub gone_within : k ≤ length (chars bs)
  gone_within = omega (arith, le, margin_le quoted (chars bs))
