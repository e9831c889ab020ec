-- The ranges of the places of a name.
use Rattle.std.proofs.Common.{◌≡◌, ℕ, List, [], map, filter, Option, None, Some, option_map, Result, Ok, Err, IfOk, refl, sym, ◌∙◌, ap, subst}
use Rattle.std.proofs.lemmas.Result.{IfOk-weaker}
use Rattle.abnf_token.specs.Folded.{lowercase}
use Rattle.abnf_token.specs.declared.folded.Folded.{Folded}
use Rattle.abnf_parts.specs.Names.{Name, folded_text}
use Rattle.ls_text.specs.Lines.{offset_of, units}
use Rattle.ls_text.specs.declared.position.Place.{Place}
use Rattle.ls_text.specs.declared.position.Position.{Position}
use Rattle.ls_text.specs.declared.position.Range.{Range}
use Rattle.ls_text.specs.declared.position.Encoding.{Encoding}
use Rattle.abnf_names.specs.Places.{Named, at_offset, place_and_name, place_and_text}
use Rattle.abnf_names.specs.Rules.{Grammar, HasPlaces, IsGrammar}
use Rattle.abnf_places.specs.declared.wanted.Wanted.{Wanted}
use Rattle.abnf_places.specs.Found.{ArePlacesOf, IsNameAt}
use Rattle.abnf_places.specs.Wanted.{is_wanted, wanted_places}
use Rattle.abnf_places.proofs.Unique.{one_places}
use Rattle.ls_answers.specs.Places.{ArePlaces, name_at, name_range, places_alike, ranges_of}

-- the name that is found there
pub found : (o : Option Named) (s : Place × List ℕ) → Some s ≡ option_map place_and_text o → (n : Named) × (o ≡ Some n) × (n.text ≡ s.1) × (n.place ≡ s.0)
found None s e = absurd (cc)
found (Some n) s e = (n, refl, cc, cc)

pub none : (o : Option Named) → None ≡ option_map place_and_text o → o ≡ None
none None e = refl
none (Some n) e = absurd (cc)

module _ (encoding : Encoding) where
  -- ---- the ranges of its places

  -- those of a name with its place, if there is one
  abbrev ranges_alike : Wanted → List ℕ → List Named → Option (Place × List ℕ) → List Range
  ranges_alike wanted text places None = []
  ranges_alike wanted text places (Some found) = ranges_of encoding wanted text (lowercase found.1) places

  alike : (wanted : Wanted) (g : Grammar) (o : Option Named) → ranges_alike wanted g.text g.places (option_map place_and_text o) ≡ map (name_range encoding g.text) (filter (λ named. is_wanted wanted named.defines) (places_alike g o))
  alike wanted g None = refl
  alike wanted g (Some n) = refl

  has_ranges : (wanted : Wanted) (g : Grammar) (at : Position) (text : List ℕ) (places : List Named) (offset : ℕ) (found : Option (Place × List ℕ)) (ranges : List Range) → IsGrammar g → text ≡ g.text → places ≡ g.places →
      offset ≡ offset_of (units encoding) g.text at.line at.character → found ≡ option_map place_and_text (at_offset g.text g.places offset) → ranges ≡ ranges_alike wanted text places found → ArePlaces encoding wanted g.text at ranges
  has_ranges wanted g at text places offset found ranges right of_text are is_offset is_found is = record {
    grammar = g;
    of_text = refl;
    right = right;
    ranges_are =
        is
        ∙ ((λ i. ranges_alike wanted (of_text i) (are i) (is_found i))
        ∙ (ap (λ o. ranges_alike wanted g.text g.places (option_map place_and_text (at_offset g.text g.places o))) is_offset
        ∙ alike wanted g (name_at encoding g at)));
  }

  pub ranges_there : {E : Type 0} (wanted : Wanted) (g : Grammar) (at : Position) (text : List ℕ) (places : List Named) (offset : ℕ) (found : Option (Place × List ℕ)) (given : Result (List Range) E) → IsGrammar g → text ≡ g.text →
      places ≡ g.places → offset ≡ offset_of (units encoding) g.text at.line at.character → found ≡ option_map place_and_text (at_offset g.text g.places offset) →
      IfOk given (λ ranges. ranges ≡ ranges_alike wanted text places found) → IfOk given (λ ranges. ArePlaces encoding wanted g.text at ranges)
  ranges_there wanted g at text places offset found (Ok ranges) right of_text are is_offset is_found is = has_ranges wanted g at text places offset found ranges right of_text are is_offset is_found is
  ranges_there wanted g at text places offset found (Err e) right of_text are is_offset is_found is = is

  -- ---- where the places of a text are known

  pub ranges_known : {E : Type 0} (wanted : Wanted) (at : Position) (text t : List ℕ) (places ps : List Named) (offset : ℕ) (found : Option (Place × List ℕ)) (given : Result (List Range) E) → HasPlaces t ps → text ≡ t →
      places ≡ ps → offset ≡ offset_of (units encoding) t at.line at.character → found ≡ option_map place_and_text (at_offset t ps offset) →
      IfOk given (λ ranges. ranges ≡ ranges_alike wanted text places found) → IfOk given (λ ranges. ArePlaces encoding wanted t at ranges)
  ranges_known wanted at text t places ps offset found given has of_text are is_offset is_found is =
      subst (λ x. IfOk given (λ ranges. ArePlaces encoding wanted x at ranges)) has.of_text
      (ranges_there wanted has.grammar at text places offset found given has.right (of_text ∙ sym has.of_text) (are ∙ sym has.are)
      (is_offset ∙ ap (λ x. offset_of (units encoding) x at.line at.character) (sym has.of_text))
      (is_found ∙ (λ i. option_map place_and_text (at_offset (sym has.of_text i) (sym has.are i) offset))) is)

  -- ---- where the name at the position is known

  pub ranges_named : {E : Type 0} (wanted : Wanted) (at : Position) (text : List ℕ) (offset : ℕ) (o : Option (Place × Folded)) (p : Place) (name : Folded) (given : Result (List Range) E) → IsNameAt text offset (option_map place_and_name o) →
      o ≡ Some (p, name) → offset ≡ offset_of (units encoding) text at.line at.character →
      IfOk given (λ ranges. (places : List Named) → HasPlaces text places → ranges ≡ ranges_of encoding wanted text (folded_text name) places) → IfOk given (λ ranges. ArePlaces encoding wanted text at ranges)
  ranges_named wanted at text offset o p name given there is is_offset are =
      ranges_known wanted at text text there.places there.places offset (Some (p, name.0.now)) given there.of_text refl refl is_offset (sym (ap (option_map place_and_name) is) ∙ there.is)
      (IfOk-weaker given _ _ (λ ranges told. told there.places there.of_text) are)

  pub ranges_none : (wanted : Wanted) (at : Position) (text : List ℕ) (offset : ℕ) (o : Option (Place × Folded)) (ranges : List Range) → IsNameAt text offset (option_map place_and_name o) → o ≡ None →
      offset ≡ offset_of (units encoding) text at.line at.character → ranges ≡ [] → ArePlaces encoding wanted text at ranges
  ranges_none wanted at text offset o ranges there is is_offset none =
      ranges_known {E = ℕ} wanted at text text there.places there.places offset None (Ok ranges) there.of_text refl refl is_offset (sym (ap (option_map place_and_name) is) ∙ there.is) none

  -- the ranges of the places that are found
  pub ranges_found : (wanted : Wanted) (text : List ℕ) (name : Name) (found : List Named) (ranges : List Range) → ArePlacesOf text wanted name found → ranges ≡ map (name_range encoding text) found →
      (places : List Named) → HasPlaces text places → ranges ≡ ranges_of encoding wanted text name places
  ranges_found wanted text name found ranges are is places has = is ∙ ap (map (name_range encoding text)) (are.are ∙ ap (wanted_places wanted name) (one_places text are.places places are.of_text has))
