-- Filled texts, and the lines in which rules generate nothing there: they rise, and there is one list of them.
use Rattle.std.proofs.Common.{◌≡◌, ◌∙◌, ◌<◌, ◌≤◌, ◌^◌, ℕ, zero, suc, Bool, true, false, cond, List, [], ◌∷◌, ◌++◌, length, map, get_or, refl, sym, ap, subst, arith, inl, inr, eq-eqb, append-nil, length-append}
use Rattle.std.specs.Prelude.{Result, Ok, Err, IfErr, IfOk, MatchResult, OnOk, filter, nat_eq}
use Rattle.std.specs.Result.{is_ok}
use Rattle.std.specs.List.{AllByRecursion, list_any}
use Rattle.std.specs.List.Sorted.{IsBinarySearchResult, IsNonDecreasing}
use Rattle.std.specs.Ordering.{is_lt, nat_cmp}
use Rattle.std.specs.Str.{IsUtf8, chars, encode_utf8_all}
use Rattle.std.proofs.lemmas.Bool.{cases_lt, le-ltb, ne_eqb}
use Rattle.std.proofs.lemmas.List.Elements.{All-from_get_or}
use Rattle.std.proofs.lemmas.List.Folds.{list_any_at, list_any_none}
use Rattle.std.proofs.lemmas.List.Sorted.{searched}
use Rattle.std.proofs.lemmas.Str.{chars-append, chars-nil, encodes-chars}
use Rattle.ls_text.specs.Lines.{max_bytes}
use Rattle.ls_text.specs.declared.fault.TextFault.{TextFault}
use Rattle.ls_text.specs.declared.fault.TextFault.TheVariants.{TooLarge}
use Rattle.abnf_lint.specs.declared.finding.Finding.{Finding}
use Rattle.abnf_lint.specs.Order.{FindingsAscend, finding_before, key, key_cmp}
use Rattle.abnf_lint.specs.Rows.{AreRows}
use Rattle.abnf_lint.proofs.Ascends.{rows_unique}
use Rattle.abnf_lint.proofs.FindingsExist.{some_findings}
use Rattle.findings_text.specs.Gaps.{AreLinesKept, IsFilled, IsFilledTooLarge, gaps_behind, idle_lines, is_unproductive}

-- ---- the lines rise

-- each is at least the one before, and the first is at least this one
abbrev IsUp : ℕ → List ℕ → Type 0
IsUp from [] = Unit {0}
IsUp from (n ∷ ns) = (from ≤ n) × IsUp n ns

up_at : (from : ℕ) (ns : List ℕ) → IsUp from ns → (k d : ℕ) → k < length ns → from ≤ get_or ns k d
up_at from [] up k d less = absurd (omega (arith, less))
up_at from (n ∷ ns) up zero d less = up.0
up_at from (n ∷ ns) up (suc k) d less = omega (arith, up.0, up_at n ns up.1 k d (omega (arith, less)))

up_is : (from : ℕ) (ns : List ℕ) → IsUp from ns → IsNonDecreasing ns
up_is from [] up i j d le less = absurd (omega (arith, less))
up_is from (n ∷ ns) up zero zero d le less = omega arith
up_is from (n ∷ ns) up zero (suc j) d le less = up_at n ns up.1 j d (omega (arith, less))
up_is from (n ∷ ns) up (suc i) zero d le less = absurd (omega (arith, le))
up_is from (n ∷ ns) up (suc i) (suc j) d le less = up_is n ns up.1 i j d (omega (arith, le)) (omega (arith, less))

-- what stands before another finding stands in no line behind its
line_before : (f g : Finding) → finding_before f g ≡ true → f.place.line ≤ g.place.line
line_before f g before =
    elim (cases_lt g.place.line f.place.line) [
      | inl less ↦
          let back : is_lt (key_cmp (key f) (key g)) ≡ false = rw (le-ltb f.place.line g.place.line (omega arith), ne_eqb f.place.line g.place.line (λ e. omega (arith, e, less))) refl in
          absurd (cc (before, back))
      | inr le ↦ le
    ]

abbrev From : ℕ → List Finding → Type 0
From from found = AllByRecursion (λ g. from ≤ g.place.line) found

all_from : (f : Finding) (fs : List Finding) → AllByRecursion (λ g. finding_before f g ≡ true) fs → From f.place.line fs
all_from f [] all = tt
all_from f (g ∷ gs) all = (line_before f g all.0, all_from f gs all.1)

-- with a finding more in front, of a rule that generates nothing or not
up_one : (b : Bool) (from : ℕ) (f : Finding) (rest : List Finding) → from ≤ f.place.line → IsUp f.place.line (map (λ g. g.place.line) rest) → IsUp from (map (λ g. g.place.line) rest)
    → IsUp from (map (λ g. g.place.line) (cond b (f ∷ rest) rest))
up_one true from f rest less gaps_behind all = (less, gaps_behind)
up_one false from f rest less gaps_behind all = all

lines_up : (found : List Finding) → FindingsAscend found → (from : ℕ) → From from found → IsUp from (idle_lines found)
lines_up [] up from all = tt
lines_up (f ∷ fs) up from all =
    up_one (is_unproductive f) from f (filter is_unproductive fs) all.0 (lines_up fs up.1 f.place.line (all_from f fs up.0)) (lines_up fs up.1 from all.1)

all_zero : (found : List Finding) → From 0 found
all_zero [] = tt
all_zero (f ∷ fs) = (omega arith, all_zero fs)

pub lines_rise : (found : List Finding) → FindingsAscend found → IsNonDecreasing (idle_lines found)
lines_rise found up = up_is 0 (idle_lines found) (lines_up found up 0 (all_zero found))

-- ---- one of them, by halving

pub is_among : (lines : List ℕ) (line : ℕ) → IsNonDecreasing lines → (r : Result ℕ ℕ) → IsBinarySearchResult (λ y. nat_cmp y line) lines r → is_ok r ≡ list_any (nat_eq line) lines
is_among lines line up r is = by_result r (searched lines line r is (λ i j le less. up i j 0 le less))
  where
    by_result : (r : Result ℕ ℕ) → MatchResult r (λ i. (i < length lines) × (get_or lines i 0 ≡ line)) (λ i. (i ≤ length lines) × ((k : ℕ) → k < i → get_or lines k 0 < line) × ((k : ℕ) → i ≤ k → k < length lines → line < get_or lines k 0))
        → is_ok r ≡ list_any (nat_eq line) lines
    by_result (Ok i) at = sym (list_any_at (nat_eq line) lines i 0 at.0 (eq-eqb line (get_or lines i 0) (sym at.1)))
    by_result (Err i) none =
        sym (list_any_none (nat_eq line) lines (All-from_get_or (λ n. nat_eq line n ≡ false) lines 0
        (λ k less. ne_eqb line (get_or lines k 0) (λ e. elim (cases_lt k i) [ inl front ↦ omega (arith, e, none.1 k front) | inr past ↦ omega (arith, e, none.2 k past less) ]))))

-- ---- the filled text

-- a text with another behind it, by the bytes of both
pub put_behind : (text old added all : List ℕ) → IsUtf8 old → chars old ≡ text → all ≡ old ++ added → chars all ≡ text ++ chars added
put_behind text old added all utf8 is all_is = ap chars all_is ∙ (chars-append old added utf8 ∙ ap (λ t. t ++ chars added) is)

-- what is made of these bytes is the text that they spell, of as many bytes
module _ (all text : List ℕ) (utf8 : IsUtf8 all) (is : chars all ≡ text) (n : ℕ) (n_is : n ≡ length all) where
  size_is : length (encode_utf8_all text) ≡ n
  size_is = ap (λ (t : List ℕ). length (encode_utf8_all t)) (sym is) ∙ (ap length (encodes-chars all utf8) ∙ sym n_is)

  pub made_text : {E : Type 0} (r : Result (List ℕ) E) → IfOk r (λ s. (s ≡ chars all) × (n ≤ max_bytes)) → IfOk r (λ s. s ≡ text)
  made_text (Ok s) e = e.0 ∙ is
  made_text (Err x) e = e

  pub made_small : {E : Type 0} (r : Result (List ℕ) E) → IfOk r (λ s. (s ≡ chars all) × (n ≤ max_bytes)) → OnOk r (length (encode_utf8_all text) ≤ max_bytes)
  made_small (Ok s) e = omega (arith, e.1, size_is)
  made_small (Err x) e = e

  pub refused_large : (r : Result (List ℕ) TextFault) → (r ≡ Err TooLarge → max_bytes < n) → IfErr r (λ fault. fault ≡ TooLarge → max_bytes < length (encode_utf8_all text))
  refused_large (Ok s) large = tt
  refused_large (Err fault) large = λ e. let more = large (ap Err e) in omega (arith, more, size_is)

module _ (told text : List ℕ) (found : List Finding) (are : AreRows text found) (lines : List ℕ) (is : lines ≡ gaps_behind told found) where
  -- what is put behind a text makes the filled one of it
  filled_with : IsFilled told text (text ++ chars lines)
  filled_with = record { found = found; of_text = are; is = ap (λ (ls : List ℕ). text ++ chars ls) is }

  pub kept_with : {E : Type 0} (r : Result (List ℕ) E) → IfOk r (λ kept. (rows : List Finding) × AreRows (text ++ chars lines) rows × (kept ≡ idle_lines rows)) → IfOk r (λ kept. AreLinesKept told text kept)
  kept_with (Ok kept) e = record { filled = text ++ chars lines; is = filled_with; found = e.0; of_filled = e.1; are = e.2 }
  kept_with (Err x) e = e

  -- where nothing is put behind it, it is the filled one itself
  filled_as_is : lines ≡ [] → IsFilled told text text
  filled_as_is none = record { found = found; of_text = are; is = sym (ap (λ (ls : List ℕ). text ++ ls) chars-nil ∙ append-nil text) ∙ ap (λ (ls : List ℕ). text ++ chars ls) (sym none ∙ is) }

  pub kept_as_is : lines ≡ [] → (kept : List ℕ) → kept ≡ idle_lines found → AreLinesKept told text kept
  kept_as_is none kept kept_is = record { filled = text; is = filled_as_is none; found = found; of_filled = are; are = kept_is }

-- a text has one filled one, and no other
pub some_filled : (told text : List ℕ) → length text < 2 ^ 62 → (filled : List ℕ) × IsFilled told text filled
some_filled told text small =
    let found = some_findings text small in
    (text ++ chars (gaps_behind told found.0), record { found = found.0; of_text = found.1; is = refl })

pub one_filled : (told text a b : List ℕ) → IsFilled told text a → IsFilled told text b → a ≡ b
one_filled told text a b p q = p.is ∙ (ap (λ (fs : List Finding). text ++ chars (gaps_behind told fs)) (rows_unique text p.found q.found p.of_text q.of_text) ∙ sym q.is)

-- where the filled text has few bytes, it isn't too large
not_too_large : (told text filled : List ℕ) → IsFilled told text filled → length (encode_utf8_all filled) ≤ max_bytes → IsFilledTooLarge told text → ⊥
not_too_large told text filled is small large =
    let one = one_filled told text large.filled filled large.is is in
    omega (arith, small, large.large, ap (λ (t : List ℕ). length (encode_utf8_all t)) one)

module _ (told text : List ℕ) (found : List Finding) (are : AreRows text found) (lines : List ℕ) (is : lines ≡ gaps_behind told found) where
  pub small_with : {K E : Type 0} (r : Result K E) → OnOk r (length (encode_utf8_all (text ++ chars lines)) ≤ max_bytes) → OnOk r (IsFilledTooLarge told text → ⊥)
  small_with (Ok kept) small = not_too_large told text (text ++ chars lines) (filled_with told text found are lines is) small
  small_with (Err x) small = small

  pub small_as_is : lines ≡ [] → length (encode_utf8_all text) ≤ max_bytes → IsFilledTooLarge told text → ⊥
  small_as_is none small = not_too_large told text text (filled_as_is told text found are lines is none) small

-- ---- there is one list of lines

pub text_small : (told text filled : List ℕ) → IsFilled told text filled → length filled < 2 ^ 62 → length text < 2 ^ 62
text_small told text filled is small = omega (arith, small, ap length is.is, length-append text (chars (gaps_behind told is.found)))

pub some_kept : (told text filled : List ℕ) → IsFilled told text filled → length filled < 2 ^ 62 → (kept : List ℕ) × AreLinesKept told text kept
some_kept told text filled is small =
    let found = some_findings filled small in
    (idle_lines found.0, record { filled = filled; is = is; found = found.0; of_filled = found.1; are = refl })

pub one_kept : (told text a b : List ℕ) → AreLinesKept told text a → AreLinesKept told text b → a ≡ b
one_kept told text a b p q =
    let there : AreRows q.filled p.found = subst (λ (t : List ℕ). AreRows t p.found) (one_filled told text p.filled q.filled p.is q.is) p.of_filled in
    p.are ∙ (ap idle_lines (rows_unique q.filled p.found q.found there q.of_filled) ∙ sym q.are)
