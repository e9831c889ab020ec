-- Laws of a mark of ASCII that is searched in the bytes of a text.
use Rattle.std.proofs.Common.{◌≡◌, ℕ, zero, suc, ◌+◌, ◌<◌, ◌≤◌, Bool, true, false, ◌&&◌, eqb, List, [], ◌∷◌, ◌++◌, length, take, drop, get_or, refl, sym, ap, subst, ◌∙◌, ⊎_elim, arith, eq-eqb, length-append, length-drop, take-append-drop, add-zero}
use Rattle.std.specs.Prelude.{Some, None}
use Rattle.std.specs.List.{list_all}
use Rattle.std.specs.Option.{option_map}
use Rattle.std.specs.Str.{chars, IsUtf8, IsAscii, IsCharBoundary, encode_utf8_all as encodes}
use Rattle.std.proofs.Math.Seq.{drop-append_seam, take-append_seam}
use Rattle.std.proofs.lemmas.Bool.{cases_Bool}
use Rattle.std.proofs.lemmas.Bool.Decides.{nat_tests}
use Rattle.std.proofs.lemmas.List.{take-append-le}
use Rattle.std.proofs.lemmas.Str.{chars-IsAscii, chars-append, encodes-append, encodes-chars, encodes-IsAscii, length-le-encodes, IsCharBoundary-before_ascii, IsUtf8-from_ascii, IsUtf8-take}
use Rattle.memchr.specs.Find.{Nowhere, OccursAt}
use Rattle.memchr.proofs.lemmas.MatchLemmas.{OccursAt-from_part, OccursAt-split}
use Rattle.xml_blocks.specs.own.Reading.{is_low}
use Rattle.xml_blocks.specs.Xml.{begins_with_mark, until}

-- ---- marks in a list

-- two tests that pass together pass each
both : (a b : Bool) → (a && b) ≡ true → (a ≡ true) × (b ≡ true)
both true b e = (refl, e)
both false b e = cc

-- what the tests of numbers say
same_from : (a b : ℕ) → eqb a b ≡ true → a ≡ b
same_from a b e = grind (arith, nat_tests)

low_from : (b : ℕ) → is_low b ≡ true → b < 128
low_from b e = grind (arith, nat_tests)

-- each byte of the mark is a character
ascii_mark : (mark : List ℕ) → list_all is_low mark ≡ true → IsAscii mark
ascii_mark [] e i = omega arith
ascii_mark (m ∷ ms) e zero = low_from m (both (is_low m) (list_all is_low ms) e).0
ascii_mark (m ∷ ms) e (suc i) = ascii_mark ms (both (is_low m) (list_all is_low ms) e).1 i

-- a text begins with a mark that is put in front of it
begins_itself : (mark t : List ℕ) → begins_with_mark mark (mark ++ t) ≡ true
unfolding begins_with_mark
begins_itself [] t = refl
begins_itself (m ∷ ms) t = rw (eq-eqb m m refl) (begins_itself ms t)

-- and what begins with a mark is the mark and the rest
begins_with : (mark t : List ℕ) → begins_with_mark mark t ≡ true → t ≡ mark ++ drop (length mark) t
unfolding begins_with_mark
begins_with [] t e = refl
begins_with (m ∷ ms) [] e = cc
begins_with (m ∷ ms) (c ∷ t) e =
    let parts = both (eqb c m) (begins_with_mark ms t) e in
    (λ i. same_from c m parts.0 i ∷ begins_with ms t parts.1 i)

-- the first place at which a text goes on with the mark
until_at : (mark cs : List ℕ) (n : ℕ) → n < length cs → begins_with_mark mark (drop n cs) ≡ true → ((i : ℕ) → i < n → begins_with_mark mark (drop i cs) ≡ false) → until mark cs ≡ Some n
unfolding until
until_at mark [] n lt stands never = absurd (omega (arith, lt))
until_at mark (c ∷ t) zero lt stands never = rw stands refl
until_at mark (c ∷ t) (suc n) lt stands never =
    rw (never 0 (omega arith)) (ap (option_map suc) (until_at mark t n (omega (arith, lt)) stands (λ i l. never (suc i) (omega (arith, l)))))

-- there is none
until_never : (mark cs : List ℕ) → ((i : ℕ) → begins_with_mark mark (drop i cs) ≡ false) → until mark cs ≡ None
unfolding until
until_never mark [] never = refl
until_never mark (c ∷ t) never = rw (never 0) (ap (option_map suc) (until_never mark t (λ i. never (suc i))))

-- ---- marks in a text

module _ (bs ds mark : List ℕ) (u : IsUtf8 bs) (same : ds ≡ bs) (low : list_all is_low mark ≡ true) (some : 0 < length mark) where
  -- each byte of the mark is a character
  ascii : IsAscii mark
  ascii = ascii_mark mark low

  -- the byte at which a character begins
  abbrev byte_of : ℕ → ℕ
  byte_of i = length (encodes (take i (chars bs)))

  -- the bytes before a character, and from it on
  bytes_are : (i : ℕ) → bs ≡ encodes (take i (chars bs)) ++ encodes (drop i (chars bs))
  bytes_are i = sym (encodes-chars bs u) ∙ ap encodes (sym (take-append-drop i (chars bs))) ∙ encodes-append (take i (chars bs)) (drop i (chars bs))

  -- a mark at a character is one at its byte
  occurs : (i : ℕ) → begins_with_mark mark (drop i (chars bs)) ≡ true → OccursAt bs mark (byte_of i)
  occurs i stands =
      let xs = encodes (take i (chars bs)) in
      let more = drop (length mark) (drop i (chars bs)) in
      let rest : encodes (drop i (chars bs)) ≡ mark ++ encodes more =
      ap encodes (begins_with mark (drop i (chars bs)) stands) ∙ encodes-append mark more ∙ ap (λ t. t ++ encodes more) (encodes-IsAscii mark ascii) in
      let parts : bs ≡ xs ++ (mark ++ encodes more) = bytes_are i ∙ ap (λ t. xs ++ t) rest in
      let part : take (length mark) (drop (length xs) bs) ≡ mark =
      ap (λ t. take (length mark) (drop (length xs) t)) parts ∙ ap (take (length mark)) (drop-append_seam xs (mark ++ encodes more)) ∙ take-append_seam mark (encodes more) in
      OccursAt-from_part bs mark (length xs) (omega (arith, ap length parts, length-append xs (mark ++ encodes more), length-append mark (encodes more))) part

  -- where no mark stands at its byte, none stands at a character
  none_at : (i : ℕ) → (OccursAt bs mark (byte_of i) → ⊥) → begins_with_mark mark (drop i (chars bs)) ≡ false
  none_at i never = ⊎_elim (λ stands. absurd (never (occurs i stands))) (λ e. e) (cases_Bool (begins_with_mark mark (drop i (chars bs))))

  -- a character begins in the text
  byte_le : (i : ℕ) → byte_of i ≤ length bs
  byte_le i = omega (arith, ap length (bytes_are i), length-append (encodes (take i (chars bs))) (encodes (drop i (chars bs))))

  -- no byte at which the mark stands
  pub mark_none : Nowhere (OccursAt ds mark) 0 (length ds + 1) → None ≡ until mark (chars bs)
  mark_none never =
      let nowhere : Nowhere (OccursAt bs mark) 0 (length bs + 1) = subst (λ t. Nowhere (OccursAt t mark) 0 (length t + 1)) same never in
      sym (until_never mark (chars bs) (λ i. none_at i (nowhere (byte_of i) (omega arith) (omega (arith, byte_le i)))))

  module _ (k : ℕ) (at_ds : OccursAt ds mark k) where
    -- the mark stands in the text itself
    at : OccursAt bs mark k
    at = subst (λ t. OccursAt t mark k) same at_ds

    lt : k < length bs
    lt = omega (arith, at.fits, some)

    -- the byte at which the mark stands is a place between characters
    pub mark_boundary : IsCharBoundary bs k
    mark_boundary =
        let byte : get_or bs k 0 ≡ get_or mark 0 0 = ap (λ j. get_or bs j 0) (sym (add-zero k)) ∙ at.reads 0 some in
        IsCharBoundary-before_ascii bs k lt (omega (arith, byte, ascii 0))

    module _ (front : List ℕ) (is : front ≡ take k bs) (len : length front ≡ k) where
      -- what comes before it is a text
      v : IsUtf8 front
      v = subst IsUtf8 (sym is) (IsUtf8-take bs k u mark_boundary)

      -- the characters of both
      parts : chars bs ≡ chars front ++ chars (drop k bs)
      parts = ap chars (sym (take-append-drop k bs) ∙ ap (λ t. t ++ drop k bs) (sym is)) ∙ chars-append front (drop k bs) v

      -- the characters from the mark on
      behind : chars (drop k bs) ≡ mark ++ chars (drop (k + length mark) bs)
      behind =
          ap chars (OccursAt-split bs mark k at) ∙ chars-append mark (drop (k + length mark) bs) (IsUtf8-from_ascii mark ascii)
          ∙ ap (λ t. t ++ chars (drop (k + length mark) bs)) (chars-IsAscii mark ascii)

      -- fewer characters come before it than there are
      pub mark_small : length (chars front) < length (chars bs)
      mark_small = omega (arith, some, ap length parts, length-append (chars front) (chars (drop k bs)), ap length behind, length-append mark (chars (drop (k + length mark) bs)))

      -- a character before it has a byte before it
      before : (i : ℕ) → i < length (chars front) → byte_of i < k
      before i l =
          let cut : take i (chars bs) ≡ take i (chars front) = ap (take i) parts ∙ take-append-le i (chars front) (chars (drop k bs)) (omega (arith, l)) in
          omega (
            arith,
            l,
            len,
            ap length (ap encodes cut),
            length-drop i (chars front),
            length-le-encodes (drop i (chars front)),
            length-append (encodes (take i (chars front))) (encodes (drop i (chars front))),
            ap length (sym (encodes-append (take i (chars front)) (drop i (chars front))) ∙ ap encodes (take-append-drop i (chars front)) ∙ encodes-chars front v),
          )

      -- so many characters come before the first mark
      pub mark_found : Nowhere (OccursAt ds mark) 0 k → Some (length (chars front)) ≡ until mark (chars bs)
      mark_found never =
          let nowhere : Nowhere (OccursAt bs mark) 0 k = subst (λ t. Nowhere (OccursAt t mark) 0 k) same never in
          let here : drop (length (chars front)) (chars bs) ≡ mark ++ chars (drop (k + length mark) bs) =
          ap (drop (length (chars front))) parts ∙ drop-append_seam (chars front) (chars (drop k bs)) ∙ behind in
          sym (until_at mark (chars bs) (length (chars front)) mark_small (ap (begins_with_mark mark) here ∙ begins_itself mark (chars (drop (k + length mark) bs)))
          (λ i l. none_at i (nowhere (byte_of i) (omega arith) (before i l))))
