-- Findings that move one by one.
use Rattle.std.proofs.Common.{◌≡◌, ℕ, ◌+◌, ◌-◌, ◌<◌, ◌≤◌, ◌⊎◌, inl, inr, List, ◌++◌, length, map, take, drop, get_or, sym, ap, subst, ◌∙◌, arith}
use Rattle.std.specs.Prelude.{slice_set}
use Rattle.std.proofs.lemmas.List.{append-nil, drop_all, get_or-append_right, get_or-drop, length-map, length-take-le, take-append-le, take_all}
use Rattle.std.proofs.lemmas.List.Edits.{map_over_more}
use Rattle.ls_text.specs.declared.position.Place.{Place}
use Rattle.abnf_lint.specs.declared.finding.Code.{Code}
use Rattle.abnf_lint.specs.declared.finding.Finding.{Finding}
use Rattle.abnf_digests.specs.Moved.{moved_place, moved_code, moved_finding, NoneFound}
use Rattle.incremental_findings.specs.declared.difference.Difference.{Difference}
use Rattle.incremental_findings.specs.own.Moves.{IsFoundOutside, AreFoundOutside}

-- a list that is written back over as many items
pub written : (n : ℕ) (xs ys : List Finding) → length xs ≡ n → take n (xs ++ ys) ≡ xs
written n xs ys e = take-append-le n xs ys (omega (arith, e)) ∙ take_all n xs (omega (arith, e))

-- a finding with this place and code
abbrev pub placed : Finding → Place → Code → Finding
placed f p code = record { place = p; code = code; name = f.name }

module _ (part : Difference) where
  abbrev move : Finding → Finding
  move = moved_finding part.front part.old part.new

  -- the findings up to a place have moved
  abbrev pub HaveMoved : List Finding → List Finding → ℕ → Type 0
  HaveMoved xs ys i = ys ≡ map move (take i xs) ++ drop i xs

  still_there : (xs ys : List Finding) (i : ℕ) (d : Finding) → i < length xs → HaveMoved xs ys i → get_or ys i d ≡ get_or xs i d
  still_there xs ys i d less h =
      let long : length (map move (take i xs)) ≡ i = omega (arith, length-map (take i xs) move, length-take-le i xs (omega arith)) in
      let none : i + (i - i) ≡ i = omega arith in
      ap (λ zs. get_or zs i d) h ∙ get_or-append_right (map move (take i xs)) (drop i xs) i i d long (omega arith) ∙ get_or-drop i xs (i - i) d
      ∙ ap (λ n. get_or xs n d) none

  pub next_outside : (rows xs ys : List Finding) (i : ℕ) (d : Finding) → xs ≡ rows → i < length xs → HaveMoved xs ys i → AreFoundOutside part rows
      → IsFoundOutside part (get_or ys i d)
  next_outside rows xs ys i d e less h all = subst (IsFoundOutside part) (sym (still_there xs ys i d less h)) (subst (AreFoundOutside part) (sym e) all i d less)

  pub one_moved : (xs ys : List Finding) (i : ℕ) (d : Finding) (p : Place) (code : Code) → i < length xs → d ≡ get_or ys i d
      → p ≡ moved_place part.front part.old part.new (get_or ys i d).place
      → code ≡ moved_code part.front part.old part.new (get_or ys i d).code → HaveMoved xs ys i
      → HaveMoved xs (slice_set ys i (placed (get_or ys i d) p code)) (i + 1)
  one_moved xs ys i d p code less is place_is code_is h =
      let x = get_or ys i d in
      ap (slice_set ys i) (ap (λ (q : Place). placed x q code) place_is ∙ ap (placed x (moved_place part.front part.old part.new x.place)) code_is) ∙ map_over_more move xs ys i x less h refl_at
    where
      refl_at : get_or ys i d ≡ get_or ys i (get_or ys i d)
      refl_at = sym (ap (λ (x : Finding). get_or ys i x) (sym is))

  pub all_moved : (rows xs ys : List Finding) (i : ℕ) → xs ≡ rows → length xs ≤ i → HaveMoved xs ys i → ys ≡ map move rows
  all_moved rows xs ys i e more h = h ∙ ap (λ zs. map move (take i xs) ++ zs) (drop_all i xs more) ∙ append-nil (map move (take i xs))
      ∙ ap (map move) (take_all i xs more ∙ e)

  none_by : (found : Finding) → IsFoundOutside part found → (found.place.line < part.front) ⊎ (part.old ≤ found.place.line)
  none_by found h = elim h.0 [ inl before ↦ inl before | inr behind ↦ inr behind.0 ]

  pub none_found : (rows : List Finding) → AreFoundOutside part rows → NoneFound part.front part.old rows
  none_found rows all found among = none_by found (subst (IsFoundOutside part) among.2 (all among.0 found among.1))
