-- What is found of names in a text. A text has one list of places, so there is one answer.
use Rattle.std.specs.Prelude.{◌≡◌, ℕ, List, Option, option_map}
use Rattle.ls_text.specs.declared.position.Place.{Place}
use Rattle.abnf_parts.specs.Names.{Name}
use Rattle.abnf_names.specs.Places.{Named, at_offset, place_and_text}
use Rattle.abnf_names.specs.Rules.{HasPlaces}
use Rattle.abnf_places.specs.declared.wanted.Wanted.{Wanted}
use Rattle.abnf_places.specs.Wanted.{wanted_places}

-- This is the name at an offset, which counts characters of the text, as it is written there, and its place, by the places of
-- the text's grammar; or there is none.
pub record IsNameAt (text : List ℕ) (offset : ℕ) (found : Option (Place × List ℕ)) : Type 0 where
  pub places : List Named
  pub of_text : HasPlaces text places
  pub is : found ≡ option_map place_and_text (at_offset text places offset)

-- These are the wanted places of a name in the text, by the places of its grammar, all and in its order.
pub record ArePlacesOf (text : List ℕ) (wanted : Wanted) (name : Name) (found : List Named) : Type 0 where
  pub places : List Named
  pub of_text : HasPlaces text places
  pub are : found ≡ wanted_places wanted name places
