-- What is answered to a rename.
use Rattle.std.proofs.Common.{◌≡◌, ◌||◌, ℕ, Bool, true, List, [], ◌∷◌, map, Option, Some, None, option_map, Result, Ok, Err, IfOk, refl, sym, ap, ◌∙◌}
use Rattle.std.specs.Prelude.{filter, not, if◌then◌else◌}
use Rattle.std.specs.List.{list_any}
use Rattle.std.specs.Str.{bytes_eq}
use Rattle.abnf_token.specs.Classes.{is_name}
use Rattle.abnf_token.specs.Folded.{lowercase}
use Rattle.ls_text.specs.Lines.{offset_of, units}
use Rattle.ls_text.specs.declared.position.Place.{Place}
use Rattle.ls_text.specs.declared.position.Position.{Position}
use Rattle.ls_text.specs.declared.position.Encoding.{Encoding}
use Rattle.abnf_parts.specs.Names.{Name, folded_text}
use Rattle.abnf_names.specs.Places.{Named, at_offset, named_at, place_and_text, places_of_name}
use Rattle.abnf_names.specs.Rules.{Grammar, IsGrammar}
use Rattle.abnf_names.specs.declared.place.Spot.{Spot}
use Rattle.abnf_places.specs.Wanted.{is_wanted}
use Rattle.ls_answers.specs.Places.{name_at, name_range, places_alike, ranges_of}
use Rattle.ls_answers.specs.Renames.{IsRename, fault_of_name, fault_there, rename_answer}
use Rattle.ls_answers.specs.own.Renamed.{answer_for_name}
use Rattle.ls_answers.specs.declared.answer.Answer.{Answer}
use Rattle.ls_answers.specs.declared.answer.Answer.TheVariants as answer
use Rattle.ls_answers.specs.declared.answer.RenameFault.{RenameFault}
use Rattle.ls_answers.specs.declared.answer.RenameFault.TheVariants.{NotAName, NothingToRename}
use Rattle.abnf_places.specs.declared.wanted.Wanted.TheVariants.{Both}
use Rattle.ls_answers.proofs.Definitions.{found, none}

module _ (encoding : Encoding) where
  all_wanted : (ns : List Named) → filter (λ (n : Named). is_wanted Both n.defines) ns ≡ ns
  all_wanted [] = refl
  all_wanted (n ∷ ns) = ap (λ l. n ∷ l) (all_wanted ns)

  -- all places are wanted
  pub all_ranges : (text : List ℕ) (name : Name) (places : List Named) → ranges_of encoding Both text name places ≡ map (name_range encoding text) (places_of_name name places)
  all_ranges text name places = ap (map (name_range encoding text)) (all_wanted (places_of_name name places))

  module _ (g : Grammar) (at : Position) (new : List ℕ) (right : IsGrammar g) (named : is_name new ≡ true) where
    abbrev answer_there : Option Named → Answer
    answer_there there = rename_answer encoding g at new (fault_there g there new)

    -- what is found at the position settles the answer
    by_place : (there : Option Named) (given : Answer) → name_at encoding g at ≡ there → given ≡ answer_there there → IsRename encoding g.text at new given
    by_place there given here is = record {
      grammar = g;
      of_text = refl;
      right = right;
      answer_is = is
          ∙ (ap answer_there (sym here)
          ∙ ap (λ b. rename_answer encoding g at new (if not b then Some NotAName else fault_there g (name_at encoding g at) new)) (sym named));
    }

    there_is : (text : List ℕ) (offset : ℕ) → text ≡ g.text → offset ≡ offset_of (units encoding) text at.line at.character → name_at encoding g at ≡ at_offset g.text g.places offset
    there_is text offset of_text is_offset = ap (at_offset g.text g.places) (sym (is_offset ∙ ap (λ t. offset_of (units encoding) t at.line at.character) of_text))

    -- no name stands there
    pub nothing_there : (text : List ℕ) (offset : ℕ) → text ≡ g.text → offset ≡ offset_of (units encoding) text at.line at.character → None ≡ option_map place_and_text (at_offset g.text g.places offset)
        → IsRename encoding g.text at new (answer.Refused NothingToRename)
    nothing_there text offset of_text is_offset is_none = by_place None (answer.Refused NothingToRename) (there_is text offset of_text is_offset ∙ none (at_offset g.text g.places offset) is_none) refl

    for_name : (n : Named) (fault : Option RenameFault) → name_at encoding g at ≡ Some n → answer_for_name encoding g (lowercase n.text) new fault ≡ rename_answer encoding g at new fault
    for_name n (Some fault) here = refl
    for_name n None here = ap (λ (o : Option Named). answer.Edits (map (name_range encoding g.text) (places_alike g o)) new) (sym here)

    -- a name stands there
    name_there : (text : List ℕ) (offset : ℕ) (s : Place × List ℕ) (given : Answer) → text ≡ g.text → offset ≡ offset_of (units encoding) text at.line at.character
        → Some s ≡ option_map place_and_text (at_offset g.text g.places offset) → given ≡ answer_for_name encoding g (lowercase s.1) new (fault_of_name g (lowercase s.1) new) → IsRename encoding g.text at new given
    name_there text offset s given of_text is_offset is_found is =
        let n = found (at_offset g.text g.places offset) s is_found in
        let here : name_at encoding g at ≡ Some n.0 = there_is text offset of_text is_offset ∙ n.1 in
        by_place (Some n.0) given here
        (is
        ∙ (ap (λ t. answer_for_name encoding g (lowercase t) new (fault_of_name g (lowercase t) new)) (sym n.2)
        ∙ for_name n.0 (fault_of_name g (lowercase n.0.text) new) here))

    pub name_answered : {E : Type 0} (text : List ℕ) (offset : ℕ) (s : Place × List ℕ) (given : Result Answer E) → text ≡ g.text → offset ≡ offset_of (units encoding) text at.line at.character
        → Some s ≡ option_map place_and_text (at_offset g.text g.places offset) → IfOk given (λ a. a ≡ answer_for_name encoding g (lowercase s.1) new (fault_of_name g (lowercase s.1) new))
        → IfOk given (λ a. IsRename encoding g.text at new a)
    name_answered text offset s (Ok a) of_text is_offset is_found is = name_there text offset s a of_text is_offset is_found is
    name_answered text offset s (Err e) of_text is_offset is_found is = is

-- ---- names in use

any_spot : (name : Name) (spots : List Spot) → list_any (λ spot. bytes_eq name (folded_text spot.name)) spots ≡ list_any (λ n. bytes_eq name (lowercase n.text)) (map named_at spots)
any_spot name [] = refl
any_spot name (spot ∷ spots) = ap (λ b. bytes_eq name (folded_text spot.name) || b) (any_spot name spots)

-- the spots say whether a name stands somewhere
pub has_place : (name : Name) (spots : List Spot) (places : List Named) (has : Bool) → map named_at spots ≡ places → has ≡ list_any (λ spot. bytes_eq name (folded_text spot.name)) spots
    → has ≡ list_any (λ n. bytes_eq name (lowercase n.text)) places
has_place name spots places has of_spots is = is ∙ (any_spot name spots ∙ ap (list_any (λ n. bytes_eq name (lowercase n.text))) of_spots)
