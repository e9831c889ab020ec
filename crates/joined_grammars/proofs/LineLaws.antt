-- Lines of a text, one more at a time.
use Rattle.std.proofs.Common.{◌≡◌, ◌∙◌, ℕ, zero, suc, ◌+◌, ◌-◌, ◌<◌, ◌≤◌, List, [], ◌∷◌, ◌++◌, append_assoc, append-nil, ap, arith, drop, refl, sym, take, zero-add}
use Rattle.std.specs.Prelude.{flat_map, slice_get, slice_range}
use Rattle.std.specs.Option.{option_map_or}
use Rattle.std.specs.Str.{chars, IsUtf8}
use Rattle.std.proofs.lemmas.Str.{chars-append}
use Rattle.joined_grammars.specs.Joined.{with_break}

take_next : (f : List ℕ → List ℕ) (ls : List (List ℕ)) (n : ℕ) → flat_map f (take (suc n) ls) ≡ flat_map f (take n ls) ++ option_map_or f (slice_get ls n) []
take_next f [] zero = refl
take_next f [] (suc n) = refl
take_next f (l ∷ ls) zero = append-nil (f l)
take_next f (l ∷ ls) (suc n) = ap (λ t. f l ++ t) (take_next f ls n) ∙ sym (append_assoc (f l) (flat_map f (take n ls)) (option_map_or f (slice_get ls n) []))

get_dropped : (ls : List (List ℕ)) (k n : ℕ) → slice_get (drop k ls) n ≡ slice_get ls (k + n)
get_dropped ls zero n = ap (slice_get ls) (sym (zero-add n))
get_dropped [] (suc k) n = refl
get_dropped (l ∷ ls) (suc k) n = get_dropped ls k n ∙ (λ i. slice_get (l ∷ ls) (same i))
  where
    same : suc (k + n) ≡ suc k + n
    same = omega arith

-- the lines from the first one up to another, and that one
pub range_next : (ls : List (List ℕ)) (first at : ℕ) → first ≤ at
    → flat_map with_break (slice_range ls first (at + 1)) ≡ flat_map with_break (slice_range ls first at) ++ option_map_or with_break (slice_get ls at) []
range_next ls first at less =
    let more : (at + 1) - first ≡ suc (at - first) = omega arith in
    let back : first + (at - first) ≡ at = omega arith in
    (λ i. flat_map with_break (take (more i) (drop first ls)))
    ∙ (take_next with_break (drop first ls) (at - first)
    ∙ (λ i. flat_map with_break (slice_range ls first at) ++ option_map_or with_break ((get_dropped ls first (at - first) ∙ ap (slice_get ls) back) i) []))

-- where a loop over lines ends
pub range_end : (ls : List (List ℕ)) (first at end : ℕ) → end ≤ at → (first ≤ end → at ≤ end) → (end < first → at ≡ first) → slice_range ls first at ≡ slice_range ls first end
range_end ls first at end past within none =
    let same : at - first ≡ end - first = grind (arith, within, none) in
    (λ i. take (same i) (drop first ls))

-- a line and a line end behind a text
pub ended_bytes : (old line : List ℕ) (l : List ℕ) → IsUtf8 old → IsUtf8 line → IsUtf8 (old ++ line) → chars line ≡ l → chars ((old ++ line) ++ 10 ∷ []) ≡ chars old ++ with_break l
unfolding chars
ended_bytes old line l old_is line_is both_are is =
    chars-append (old ++ line) (10 ∷ []) both_are
    ∙ (ap (λ t. t ++ 10 ∷ []) (chars-append old line old_is)
    ∙ (append_assoc (chars old) (chars line) (10 ∷ [])
    ∙ ap (λ t. chars old ++ (t ++ 10 ∷ [])) is))
