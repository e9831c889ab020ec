-- Spots that were found are the places of names that are found.
use Rattle.std.proofs.Common.{◌≡◌, ℕ, ◌+◌, ◌<◌, ◌≤◌, Bool, true, false, List, [], ◌∷◌, length, drop, get_or, map, Option, Some, None, option_map, refl, sym, ap, ◌∙◌}
use Rattle.std.proofs.lemmas.List.{at_drop_more, at_drop_all}
use Rattle.std.specs.Str.{bytes_eq}
use Rattle.abnf_token.specs.declared.folded.Folded.{Folded}
use Rattle.abnf_parts.specs.Names.{folded_text}
use Rattle.std.specs.Borrow.{Bor}
use Rattle.ls_text.specs.Positions.{place_at}
use Rattle.std.specs.Prelude.{find, if◌then◌else◌}
use Rattle.std.specs.Option.{option_or}
use Rattle.ls_text.specs.declared.position.Place.{Place}
use Rattle.abnf_names.specs.declared.place.Spot.{Spot}
use Rattle.abnf_names.specs.Places.{Named, named_at, name_place, places_among, holds, ends_at, found_at, at_offset, place_and_text, spot_at}

find_map : (test : Named → Bool) (spots : List Spot) → option_map named_at (find (λ spot. test (named_at spot)) spots) ≡ find test (map named_at spots)
find_map test [] = refl
find_map test (spot ∷ spots) = by (test (named_at spot)) (find_map test spots)
  where
    by : (b : Bool) → option_map named_at (find (λ s. test (named_at s)) spots) ≡ find test (map named_at spots) →
        option_map named_at (if b then Some spot else find (λ s. test (named_at s)) spots) ≡ (if b then Some (named_at spot) else find test (map named_at spots))
    by true rest = refl
    by false rest = rest

or_map : (first second : Option Spot) → option_map named_at (option_or first second) ≡ option_or (option_map named_at first) (option_map named_at second)
or_map (Some spot) second = refl
or_map None second = refl

-- the spot that is found at a point is the name there
pub spot_is : (at : Place) (spots : List Spot) → option_map named_at (spot_at at spots) ≡ found_at at (map named_at spots)
spot_is at spots =
    or_map (find (λ spot. holds at (named_at spot)) spots) (find (λ spot. ends_at at (named_at spot)) spots)
    ∙ (λ i. option_or (find_map (holds at) spots i) (find_map (ends_at at) spots i))

abbrev seen : Bor Spot → Spot
seen spot = spot.now

-- what was found among the spots stands at the offset
pub told : (own : List ℕ) (places : List Named) (text : List ℕ) (spots given : List Spot) (at : Place) (offset : ℕ) (o p : Option (Bor Spot)) → text ≡ own → map named_at spots ≡ places → given ≡ spots →
    at ≡ place_at text offset → option_map seen o ≡ spot_at at given → o ≡ p → option_map place_and_text (option_map named_at (option_map seen p)) ≡ option_map place_and_text (at_offset own places offset)
told own places text spots given at offset o p text_is places_are given_is at_is found is =
    ap (λ x. option_map place_and_text (option_map named_at (option_map seen x))) (sym is)
    ∙ ap (option_map place_and_text) (ap (option_map named_at) found ∙ spot_is at given ∙ (λ i. found_at (at_is i) (map named_at (given_is i))) ∙ (λ i. at_offset (text_is i) (places_are i) offset))

-- ---- the places of a name among spots
among_by : (name : Folded) (spot : Spot) (spots : List Spot) (same : Bool) → bytes_eq (folded_text name) (folded_text spot.name) ≡ same →
    places_among name (spot ∷ spots) ≡ (if same then name_place (named_at spot) ∷ places_among name spots else places_among name spots)
among_by name spot spots true is = rw is refl
among_by name spot spots false is = rw is refl

module _ (name : Folded) (spots : List Spot) (at : ℕ) where
  pub among_end : length spots ≤ at → places_among name (drop at spots) ≡ []
  among_end le = at_drop_all (λ xs. places_among name xs) spots at le

  pub among_next : (d : Spot) → at < length spots → (same : Bool) → bytes_eq (folded_text name) (folded_text (get_or spots at d).name) ≡ same →
      places_among name (drop at spots) ≡ (if same then name_place (named_at (get_or spots at d)) ∷ places_among name (drop (at + 1) spots) else places_among name (drop (at + 1) spots))
  among_next d lt same is = at_drop_more (λ xs. places_among name xs) spots at d lt ∙ among_by name (get_or spots at d) (drop (at + 1) spots) same is
