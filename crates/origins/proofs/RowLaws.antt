-- Laws of the rows of a block.
use Rattle.std.proofs.Common.{◌≡◌, ℕ, zero, suc, ◌+◌, ◌-◌, ◌<◌, ◌≤◌, Bool, true, false, List, [], ◌∷◌, ◌++◌, length, take, drop, refl, sym, ap, subst, ◌∙◌, length-append, arith}
use Rattle.std.specs.Prelude.{if◌then◌else◌}
use Rattle.std.specs.Str.{chars, IsUtf8, IsCharBoundary, encode_utf8_all as encodes}
use Rattle.std.proofs.Math.Seq.{drop-append_seam}
use Rattle.std.proofs.lemmas.Bool.{lt-ltb}
use Rattle.std.proofs.lemmas.List.{append-nil, append_assoc, append_cancel_right, length-drop, take-append-drop}
use Rattle.std.proofs.lemmas.Str.{encodes-chars, chars-nil, chars-append, encodes-append, IsCharBoundary-at_seam, IsUtf8-take}
use Rattle.origins.specs.declared.runs.Run.{Run}
use Rattle.origins.specs.Origins.{Sourced, from, is_blank_char, is_break, left_aligned}
use Rattle.origins.specs.own.Runs.{first_run, origin_at, origin_by, placed, row_len, run_at}

-- ---- texts

pub chars_none : (bs : List ℕ) → length bs ≡ 0 → chars bs ≡ []
chars_none [] e = chars-nil
chars_none (b ∷ bs) e = absurd (omega (arith, e))

-- a text is what comes before a rest of it, and the rest
module _ (bs ds : List ℕ) (n : ℕ) (u : IsUtf8 bs) (v : IsUtf8 ds) (is : chars ds ≡ drop n (chars bs)) where
  joins : encodes (take n (chars bs)) ++ ds ≡ bs
  joins =
      ap (λ r. encodes (take n (chars bs)) ++ r) (sym (encodes-chars ds v) ∙ ap encodes is)
      ∙ sym (encodes-append (take n (chars bs)) (drop n (chars bs)))
      ∙ ap encodes (take-append-drop n (chars bs))
      ∙ encodes-chars bs u

  pub rest_le : length ds ≤ length bs
  rest_le = omega (arith, ap length joins, length-append (encodes (take n (chars bs))) ds)

  row_bytes : length bs - length ds ≡ length (encodes (take n (chars bs)))
  row_bytes = omega (arith, ap length joins, length-append (encodes (take n (chars bs))) ds)

  pub rest_boundary : IsCharBoundary bs (length bs - length ds)
  rest_boundary = subst (λ k. IsCharBoundary bs k) (sym row_bytes) (IsCharBoundary-at_seam bs (encodes (take n (chars bs))) ds (sym joins) v)

  rest_is : drop (length bs - length ds) bs ≡ ds
  rest_is = ap (λ k. drop k bs) row_bytes ∙ ap (λ r. drop (length (encodes (take n (chars bs)))) r) (sym joins) ∙ drop-append_seam (encodes (take n (chars bs))) ds

  pub row_chars : (row : List ℕ) → row ≡ take (length bs - length ds) bs → chars row ≡ take n (chars bs)
  row_chars row e =
      let w : IsUtf8 row = subst IsUtf8 (sym e) (IsUtf8-take bs (length bs - length ds) u rest_boundary) in
      append_cancel_right (chars row) (take n (chars bs)) (drop n (chars bs))
      (ap (λ r. chars row ++ r) (sym is) ∙ sym (chars-append row ds w)
      ∙ ap chars ((λ i. e i ++ sym rest_is i) ∙ take-append-drop (length bs - length ds) bs)
      ∙ sym (take-append-drop n (chars bs)))

-- what is left behind one character more
pub drop_next : (n : ℕ) (cs ds : List ℕ) (c : ℕ) → drop n cs ≡ c ∷ ds → (drop (n + 1) cs ≡ ds) × (n < length cs)
drop_next zero [] ds c e = absurd (omega (arith, ap length e))
drop_next zero (b ∷ cs) ds c e = (ap (drop 1) e, omega arith)
drop_next (suc n) [] ds c e = absurd (omega (arith, ap length e))
drop_next (suc n) (b ∷ cs) ds c e =
    let more = drop_next n cs ds c e in
    (ap (λ m. drop m (b ∷ cs)) (let same : suc n + 1 ≡ suc (n + 1) = omega arith in same) ∙ more.0, omega (arith, more.1))

-- how long what is left is
pub left_len : (rest kept behind : List ℕ) (gone count : ℕ) → kept ≡ drop gone rest → gone ≤ length rest → behind ≡ drop count kept → count ≤ length kept → gone + count + length behind ≡ length rest
left_len rest kept behind gone count e le f lf =
    omega (arith, ap length e, length-drop gone rest, ap length f, length-drop count kept, le, lf)

-- ---- the blanks at the front

-- a blank goes, of those that may
pub blank_goes : (base left n c : ℕ) (f : ℕ → ℕ) (cs ds : List ℕ) → ds ≡ c ∷ cs → is_blank_char c ≡ true → left_aligned base (suc left) (placed f n ds) ≡ left_aligned base left (placed f (suc n) cs)
unfolding placed
blank_goes base left n c f cs ds is e = rw is (rw (e, lt-ltb 0 (suc left) (omega arith)) refl)

-- where the next character is no blank none goes
pub others_stay : (base left n c : ℕ) (f : ℕ → ℕ) (cs ds : List ℕ) → ds ≡ c ∷ cs → is_blank_char c ≡ false → left_aligned base left (placed f n ds) ≡ left_aligned base 0 (placed f n ds)
unfolding placed
others_stay base left n c f cs ds is e = rw is (rw e refl)

pub nothing_stays : (base left n : ℕ) (f : ℕ → ℕ) (cs : List ℕ) → cs ≡ [] → left_aligned base left (placed f n cs) ≡ []
unfolding placed
nothing_stays base left n f cs e = rw e refl

-- a blank more goes
pub one_more_goes : (base gone at c : ℕ) (f : ℕ → ℕ) (cs ds : List ℕ) {whole : List Sourced} → gone < base → ds ≡ c ∷ cs → is_blank_char c ≡ true → left_aligned base (base - gone) (placed f (at + gone) ds) ≡ whole → left_aligned base (base - (gone + 1)) (placed f (at + (gone + 1)) cs) ≡ whole
one_more_goes base gone at c f cs ds lt is e was =
    ap (λ m. left_aligned base (base - (gone + 1)) (placed f m cs)) (let same : at + (gone + 1) ≡ suc (at + gone) = omega arith in same)
    ∙ sym (blank_goes base (base - (gone + 1)) (at + gone) c f cs ds is e)
    ∙ ap (λ m. left_aligned base m (placed f (at + gone) ds)) (let same : suc (base - (gone + 1)) ≡ base - gone = omega (arith, lt) in same)
    ∙ was

-- ---- a row

pub row_none : (cs : List ℕ) → cs ≡ [] → row_len cs ≡ 0
unfolding row_len
row_none cs e = rw e refl

pub row_ends : (c : ℕ) (cs ds : List ℕ) → ds ≡ c ∷ cs → is_break c ≡ true → row_len ds ≡ 1
unfolding row_len
row_ends c cs ds is e = rw is (rw e refl)

pub row_goes_on : (c : ℕ) (cs ds : List ℕ) → ds ≡ c ∷ cs → is_break c ≡ false → row_len ds ≡ suc (row_len cs)
unfolding row_len
row_goes_on c cs ds is e = rw is (rw e refl)

-- behind the blanks that go all of a row stays, and blanks may go at the front of the next one
pub row_stays : (base n : ℕ) (f : ℕ → ℕ) (cs : List ℕ) → left_aligned base 0 (placed f n cs) ≡ placed f n (take (row_len cs) cs) ++ left_aligned base base (placed f (n + row_len cs) (drop (row_len cs) cs))
unfolding placed row_len
row_stays base n f [] = refl
row_stays base n f (c ∷ cs) = by_test (row_stays base (suc n) f cs) (is_blank_char c) refl (is_break c) refl
  where
    step : (blank : Bool) → is_blank_char c ≡ blank → left_aligned base 0 (placed f n (c ∷ cs)) ≡ (c, f n) ∷ left_aligned base (if is_break c then base else 0) (placed f (suc n) cs)
    step true b = rw b refl
    step false b = rw b refl

    by_test : left_aligned base 0 (placed f (suc n) cs) ≡ placed f (suc n) (take (row_len cs) cs) ++ left_aligned base base (placed f (suc n + row_len cs) (drop (row_len cs) cs)) → (blank : Bool) → is_blank_char c ≡ blank → (break : Bool) → is_break c ≡ break → left_aligned base 0 (placed f n (c ∷ cs)) ≡ placed f n (take (row_len (c ∷ cs)) (c ∷ cs)) ++ left_aligned base base (placed f (n + row_len (c ∷ cs)) (drop (row_len (c ∷ cs)) (c ∷ cs)))
    by_test more blank b true e = step blank b ∙ rw e (ap (λ m. (c, f n) ∷ left_aligned base base (placed f m cs)) (let same : suc n ≡ n + 1 = omega arith in same))
    by_test more blank b false e =
        step blank b ∙ rw e (ap (λ ds. (c, f n) ∷ ds) (more
        ∙ ap (λ m. placed f (suc n) (take (row_len cs) cs) ++ left_aligned base base (placed f m (drop (row_len cs) cs))) (let same : suc n + row_len cs ≡ n + suc (row_len cs) = omega arith in same)))

pub row_empty : (cs : List ℕ) → row_len cs ≡ 0 → cs ≡ []
unfolding row_len
row_empty [] e = refl
row_empty (c ∷ cs) e = by_test (is_break c) refl e
  where
    by_test : (break : Bool) → is_break c ≡ break → row_len (c ∷ cs) ≡ 0 → c ∷ cs ≡ []
    by_test true b e = absurd (omega (arith, row_ends c cs (c ∷ cs) refl b, e))
    by_test false b e = absurd (omega (arith, row_goes_on c cs (c ∷ cs) refl b, e))

-- a row is put behind what is there
pub row_put : (base n gone count : ℕ) (f : ℕ → ℕ) (kept row behind : List ℕ) (old new rest : List Sourced) {whole : List Sourced} → count ≡ row_len kept → row ≡ take count kept → behind ≡ drop count kept → new ≡ old ++ placed f (n + gone) row → left_aligned base 0 (placed f (n + gone) kept) ≡ rest → old ++ rest ≡ whole → new ++ left_aligned base base (placed f (n + (gone + count)) behind) ≡ whole
row_put base n gone count f kept row behind old new rest count_is row_is behind_is new_is kept_is was =
    ap (λ m. new ++ left_aligned base base (placed f m behind)) (let same : n + (gone + count) ≡ n + gone + count = omega arith in same)
    ∙ ap (λ bs. new ++ left_aligned base base (placed f (n + gone + count) bs)) behind_is
    ∙ ap (λ v. v ++ left_aligned base base (placed f (n + gone + count) (drop count kept))) (new_is ∙ ap (λ r. old ++ placed f (n + gone) r) row_is)
    ∙ append_assoc old (placed f (n + gone) (take count kept)) (left_aligned base base (placed f (n + gone + count) (drop count kept)))
    ∙ ap (λ k. old ++ (placed f (n + gone) (take k kept) ++ left_aligned base base (placed f (n + gone + k) (drop k kept)))) count_is
    ∙ ap (λ v. old ++ v) (sym (row_stays base (n + gone) f kept) ∙ kept_is)
    ∙ was

-- nothing more is put
pub rows_end : (base n gone count : ℕ) (f : ℕ → ℕ) (kept : List ℕ) (old rest : List Sourced) {whole : List Sourced} → count ≡ row_len kept → count ≡ 0 → left_aligned base 0 (placed f (n + gone) kept) ≡ rest → old ++ rest ≡ whole → old ≡ whole
rows_end base n gone count f kept old rest count_is none kept_is was =
    sym (append-nil old) ∙ ap (λ v. old ++ v) (sym (nothing_stays base 0 (n + gone) f kept (row_empty kept (sym count_is ∙ none))) ∙ kept_is) ∙ was

-- ---- one character more

pub placed_next : (f : ℕ → ℕ) (n c at : ℕ) (cs ds : List ℕ) (old new : List Sourced) {whole : List Sourced} → ds ≡ c ∷ cs → at ≡ f n → new ≡ old ++ (c, at) ∷ [] → old ++ placed f n ds ≡ whole → new ++ placed f (n + 1) cs ≡ whole
unfolding placed
placed_next f n c at cs ds old new is at_is new_is was =
    ap (λ v. v ++ placed f (n + 1) cs) new_is
    ∙ append_assoc old ((c, at) ∷ []) (placed f (n + 1) cs)
    ∙ ap (λ a. old ++ (c, a) ∷ placed f (n + 1) cs) at_is
    ∙ ap (λ m. old ++ (c, f n) ∷ placed f m cs) (let same : n + 1 ≡ suc n = omega arith in same)
    ∙ ap (λ v. old ++ placed f n v) (sym is)
    ∙ was

pub placed_end : (f : ℕ → ℕ) (n : ℕ) (cs : List ℕ) (old : List Sourced) {whole : List Sourced} → cs ≡ [] → old ++ placed f n cs ≡ whole → old ≡ whole
unfolding placed
placed_end f n cs old is was = sym (append-nil old) ∙ ap (λ v. old ++ placed f n v) (sym is) ∙ was

-- ---- the characters of one run

pub placed_stretch : (f : ℕ → ℕ) (n at : ℕ) (cs : List ℕ) → ((k : ℕ) → k < length cs → f (n + k) ≡ at + k) → placed f n cs ≡ from at cs
unfolding placed
placed_stretch f n at [] h = refl
placed_stretch f n at (c ∷ cs) h =
    rw (ap f (let e : n ≡ n + 0 = omega arith in e) ∙ h 0 (omega arith) ∙ (let e : at + 0 ≡ at = omega arith in e), placed_stretch f (suc n) (suc at) cs (λ k lt. ap f (let e : suc n + k ≡ n + suc k = omega arith in e) ∙ h (suc k) (omega (arith, lt)) ∙ (let e : at + suc k ≡ suc at + k = omega arith in e))) refl

-- characters of one run stand in a row in the draft
pub run_places : (runs : List Run) (run : Run) (n origin : ℕ) (cs : List ℕ) → ((k : ℕ) → k < length cs → run_at first_run runs (n + k) ≡ run) → run.begins ≤ n → origin ≡ origin_by run n → placed (origin_at runs) n cs ≡ from origin cs
run_places runs run n origin cs h le is =
    placed_stretch (origin_at runs) n origin cs (λ k lt. ap (λ (r : Run). origin_by r (n + k)) (h k lt) ∙ (let e : run.origin + (n + k - run.begins) ≡ origin + k = omega (arith, le, is) in e))
