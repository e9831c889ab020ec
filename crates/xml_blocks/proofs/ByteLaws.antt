-- Laws of texts that are cut at a byte.
use Rattle.std.proofs.Common.{◌≡◌, ℕ, zero, suc, ◌+◌, ◌<◌, ◌≤◌, Bool, true, false, cond, ◌&&◌, List, [], ◌∷◌, ◌++◌, length, take, drop, get_or, refl, sym, ap, subst, ◌∙◌, ⊎_elim, arith, length-append, take-append-drop, get_or-drop, add-zero, length-drop}
use Rattle.std.specs.List.{list_all, prefix_len}
use Rattle.std.specs.Str.{chars, IsUtf8, IsAscii, IsCharBoundary, encode_utf8_all as encodes}
use Rattle.std.specs.Char.{encode_utf8 as encode}
use Rattle.std.proofs.Math.Seq.{drop-append_seam, take-append_seam}
use Rattle.xml_blocks.specs.Xml.{is_plain_char}
use Rattle.std.proofs.lemmas.Bool.Decides.{nat_tests}
use Rattle.std.proofs.lemmas.Bool.{both_ways, cases_lt}
use Rattle.std.proofs.lemmas.List.Folds.{list_all-append}
use Rattle.std.proofs.lemmas.Str.{chars-IsAscii, chars-append, char_from_byte, encode_ascii, encodes-chars, length-encode, len_utf8_bounds, IsCharBoundary-before_ascii, IsCharBoundary-end, IsUtf8-drop, IsUtf8-from_ascii, IsUtf8-take}

-- ---- a text whose front is ASCII

module _ (bs front rest : List ℕ) (n : ℕ) (ascii : IsAscii front) (front_is : front ≡ take n bs) (rest_is : rest ≡ drop n bs) (len : length front ≡ n) where
  -- its characters are the bytes of the front, and those of the rest
  cut_chars : chars bs ≡ front ++ chars rest
  cut_chars = ap chars (sym (take-append-drop n bs) ∙ (λ i. sym front_is i ++ sym rest_is i)) ∙ chars-append front rest (IsUtf8-from_ascii front ascii) ∙ ap (λ t. t ++ chars rest) (chars-IsAscii front ascii)

  -- so the front has as many characters as bytes
  pub ascii_front : chars front ≡ take n (chars bs)
  ascii_front = chars-IsAscii front ascii ∙ sym (take-append_seam front (chars rest)) ∙ (λ i. take (len i) (sym cut_chars i))

  -- and the rest is behind so many characters
  pub ascii_rest : chars rest ≡ drop n (chars bs)
  ascii_rest = sym (drop-append_seam front (chars rest)) ∙ (λ i. drop (len i) (sym cut_chars i))

-- ---- bytes that pass a test, which each byte passes that isn't ASCII

-- two tests that pass together pass each
and_both : (a b : Bool) → (a && b) ≡ true → (a ≡ true) × (b ≡ true)
and_both true b e = (refl, e)
and_both false b e = cc

-- the first byte that fails stands here, or else the end
pub record IsStop (p : ℕ → Bool) (bs : List ℕ) (n : ℕ) : Type 0 where
  pub in_range : n ≤ length bs
  pub before : (k : ℕ) → k < n → p (get_or bs k 0) ≡ true
  pub found : n < length bs → p (get_or bs n 0) ≡ false

module _ (p : ℕ → Bool) (high : (c : ℕ) → 128 ≤ c → p c ≡ true) where
  -- bytes that pass each pass together
  all_below : (bs : List ℕ) (n : ℕ) → ((k : ℕ) → k < n → p (get_or bs k 0) ≡ true) → list_all p (take n bs) ≡ true
  all_below [] zero h = refl
  all_below [] (suc n) h = refl
  all_below (b ∷ bs) zero h = refl
  all_below (b ∷ bs) (suc n) h = rw (h 0 (omega arith), all_below bs n (λ k lt. h (suc k) (omega (arith, lt)))) refl

  -- a character passes whose bytes do
  pass_encode : (c : ℕ) → list_all p (encode c) ≡ true → p c ≡ true
  pass_encode c h = ⊎_elim (λ low. (and_both (p c) true (sym (ap (list_all p) (encode_ascii c low)) ∙ h)).0) (λ ge. high c ge) (cases_lt c 128)

  -- so do characters whose bytes do
  prefix_passed : (cs ds : List ℕ) → list_all p (encodes cs) ≡ true → prefix_len p (cs ++ ds) ≡ length cs + prefix_len p ds
  prefix_passed [] ds h = omega arith
  prefix_passed (c ∷ cs) ds h =
      let parts = and_both (list_all p (encode c)) (list_all p (encodes cs)) (sym (list_all-append p (encode c) (encodes cs)) ∙ h) in
      rw (pass_encode c parts.0) (omega (arith, prefix_passed cs ds parts.1))

  module _ (bs ds : List ℕ) (n : ℕ) (u : IsUtf8 bs) (same : ds ≡ bs) (stop : IsStop p ds n) where
    -- its place, what comes before it, and that it fails, of the text itself
    le : n ≤ length bs
    le = (subst (λ t. IsStop p t n) same stop).in_range

    before : (k : ℕ) → k < n → p (get_or bs k 0) ≡ true
    before = (subst (λ t. IsStop p t n) same stop).before

    found : n < length bs → p (get_or bs n 0) ≡ false
    found = (subst (λ t. IsStop p t n) same stop).found

    -- that byte is a character
    low_at : n < length bs → get_or bs n 0 < 128
    low_at lt = ⊎_elim (λ low. low) (λ ge. absurd (both_ways _ (found lt) (high (get_or bs n 0) ge))) (cases_lt (get_or bs n 0) 128)

    -- the first byte that fails is a place between characters
    pub stop_boundary : IsCharBoundary bs n
    stop_boundary =
        ⊎_elim (λ lt. IsCharBoundary-before_ascii bs n lt (low_at lt)) (λ ge. let e : n ≡ length bs = omega (arith, le, ge) in subst (IsCharBoundary bs) (sym e) (IsCharBoundary-end bs)) (cases_lt n (length bs))

    -- behind them comes nothing, or a character that fails
    none_behind : (cs ds : List ℕ) → encodes cs ≡ ds → ds ≡ drop n bs → prefix_len p cs ≡ 0
    none_behind [] ds e is = refl
    none_behind (c ∷ cs) ds e is =
        let some : 0 < length ds = omega (arith, ap length e, length-append (encode c) (encodes cs), length-encode c, len_utf8_bounds c) in
        let lt : n < length bs = omega (arith, some, ap length is, length-drop n bs) in
        let first : get_or ds 0 0 ≡ get_or bs n 0 = ap (λ l. get_or l 0 0) is ∙ get_or-drop n bs 0 0 ∙ ap (λ k. get_or bs k 0) (add-zero n) in
        let same : c ≡ get_or bs n 0 = char_from_byte ds (encodes cs) c (sym e) (omega (arith, first, low_at lt)) some ∙ first in
        ap (λ b. cond b (1 + prefix_len p cs) 0) (ap p same ∙ found lt)

    -- and so many characters before it pass
    pub passed_len : (front : List ℕ) → front ≡ take n bs → length (chars front) ≡ prefix_len p (chars bs)
    passed_len front is =
        let v : IsUtf8 front = subst IsUtf8 (sym is) (IsUtf8-take bs n u stop_boundary) in
        let w : IsUtf8 (drop n bs) = IsUtf8-drop bs n u stop_boundary in
        let parts : chars bs ≡ chars front ++ chars (drop n bs) = ap chars (sym (take-append-drop n bs) ∙ ap (λ t. t ++ drop n bs) (sym is)) ∙ chars-append front (drop n bs) v in
        let all : list_all p (encodes (chars front)) ≡ true = ap (list_all p) (encodes-chars front v ∙ is) ∙ all_below bs n before in
        sym (ap (prefix_len p) parts ∙ prefix_passed (chars front) (chars (drop n bs)) all
        ∙ (let none : prefix_len p (chars (drop n bs)) ≡ 0 = none_behind (chars (drop n bs)) (drop n bs) (encodes-chars (drop n bs) w) refl in omega (arith, none)))

    -- so the text is cut behind these characters
    pub stop_front : (front : List ℕ) (more : ℕ) → front ≡ take n bs → more ≡ prefix_len p (chars bs) → chars front ≡ take more (chars bs)
    stop_front front more is count =
        let v : IsUtf8 front = subst IsUtf8 (sym is) (IsUtf8-take bs n u stop_boundary) in
        let parts : chars bs ≡ chars front ++ chars (drop n bs) = ap chars (sym (take-append-drop n bs) ∙ ap (λ t. t ++ drop n bs) (sym is)) ∙ chars-append front (drop n bs) v in
        sym (take-append_seam (chars front) (chars (drop n bs))) ∙ (λ i. take ((passed_len front is ∙ sym count) i) (sym parts i))

    pub stop_rest : (rest : List ℕ) (more : ℕ) → rest ≡ drop n bs → more ≡ prefix_len p (chars bs) → chars rest ≡ drop more (chars bs)
    stop_rest rest more is count =
        let front = take n bs in
        let v : IsUtf8 front = IsUtf8-take bs n u stop_boundary in
        let parts : chars bs ≡ chars front ++ chars (drop n bs) = ap chars (sym (take-append-drop n bs)) ∙ chars-append front (drop n bs) v in
        ap chars is ∙ sym (drop-append_seam (chars front) (chars (drop n bs))) ∙ (λ i. drop ((passed_len front refl ∙ sym count) i) (sym parts i))

-- a character that isn't ASCII begins no markup, and no reference
pub high_plain : (in_block : Bool) (c : ℕ) → 128 ≤ c → is_plain_char in_block c ≡ true
high_plain true c h = grind (arith, nat_tests)
high_plain false c h = grind (arith, nat_tests)
