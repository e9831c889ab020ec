-- What is inserted of the name at the start of a range.
use Rattle.std.proofs.Common.{◌≡◌, ℕ, Bool, true, false, List, [], ◌∷◌, map, Option, Some, None, option_map, Result, Ok, Err, IfOk, refl, sym, ap, subst, ◌∙◌}
use Rattle.std.specs.Prelude.{◌&&◌, bytes_eq, find, min}
use Rattle.abnf_token.specs.Folded.{lowercase}
use Rattle.ls_text.specs.Edits.{position_offset}
use Rattle.ls_text.specs.Lines.{units}
use Rattle.ls_text.specs.Positions.{place_range}
use Rattle.ls_text.specs.declared.position.Place.{Place}
use Rattle.ls_text.specs.declared.position.Range.{Range}
use Rattle.ls_text.specs.declared.position.Encoding.{Encoding}
use Rattle.abnf_parts.specs.Names.{Name, folded_text, rule_number}
use Rattle.abnf_names.specs.Places.{Named, at_offset, named_at, place_and_text, places_of_name}
use Rattle.abnf_names.specs.Rules.{Grammar, IsGrammar}
use Rattle.abnf_names.specs.declared.place.Spot.{Spot}
use Rattle.ls_answers.specs.Insertions.{IsInsertion, IsInsertionBy, IsInsertionOfRule, IsInsertionThere, first_head, name_at_start}
use Rattle.ls_answers.specs.declared.answer.Insertion.{Insertion}
use Rattle.ls_answers.proofs.Definitions.{found, none}

abbrev is_head_of : Name → Spot → Bool
is_head_of name s = s.defines && bytes_eq name (folded_text s.name)

abbrev head_among : Name → List Spot → Option Named
head_among name spots = find (λ (n : Named). n.defines) (places_of_name name (map named_at spots))

head_by : (name : Name) (s : Spot) (spots : List Spot) (is_called defines : Bool) → bytes_eq name (folded_text s.name) ≡ is_called → s.defines ≡ defines
    → option_map named_at (find (is_head_of name) spots) ≡ head_among name spots → option_map named_at (find (is_head_of name) (s ∷ spots)) ≡ head_among name (s ∷ spots)
head_by name s spots true true e f rest = rw (e, f) refl
head_by name s spots true false e f rest = rw (e, f) rest
head_by name s spots false true e f rest = rw (e, f) rest
head_by name s spots false false e f rest = rw (e, f) rest

-- the first spot that is a head with a name is the first of the name's places that defines it
head_is : (name : Name) (spots : List Spot) → option_map named_at (find (is_head_of name) spots) ≡ head_among name spots
head_is name [] = refl
head_is name (s ∷ spots) = head_by name s spots (bytes_eq name (folded_text s.name)) s.defines refl refl (head_is name spots)

first_is : (g : Grammar) (name : Name) (spots : List Spot) (o : Option Spot) → map named_at spots ≡ g.places → o ≡ find (is_head_of name) spots → option_map named_at o ≡ first_head g name
first_is g name spots o same e = ap (option_map named_at) e ∙ (head_is name spots ∙ ap (λ ns. find (λ (n : Named). n.defines) (places_of_name name ns)) same)

module _ (encoding : Encoding) where
  of_none : (g : Grammar) (head : Option Named) (rule : Option ℕ) → None ≡ head → IsInsertionBy encoding g head rule None
  of_none g None rule e = refl
  of_none g (Some n) rule e = absurd (cc)

  pub by_none : (g : Grammar) (name : Name) (spots : List Spot) (rule : Option ℕ) → map named_at spots ≡ g.places → None ≡ find (is_head_of name) spots → IsInsertionBy encoding g (first_head g name) rule None
  by_none g name spots rule same e = of_none g (first_head g name) rule (first_is g name spots None same e)

  pub by_no_rule : (g : Grammar) (head : Option Named) (rule : Option ℕ) → None ≡ rule → IsInsertionBy encoding g head rule None
  by_no_rule g None rule e = refl
  by_no_rule g (Some n) rule e = subst (λ rule. IsInsertionBy encoding g (Some n) rule None) e refl

  of_head : (g : Grammar) (head : Option Named) (rule : Option ℕ) (r line : ℕ) (n : Named) (insertion : Option Insertion) → Some n ≡ head → Some r ≡ rule
      → line ≡ (place_range (units encoding) g.text n.place).start.line → IsInsertionOfRule g.rules line r insertion → IsInsertionBy encoding g head rule insertion
  of_head g head rule r line n insertion e f at is =
      subst (λ head. IsInsertionBy encoding g head rule insertion) e (subst (λ rule. IsInsertionBy encoding g (Some n) rule insertion) f (subst (λ line. IsInsertionOfRule g.rules line r insertion) at is))

  pub by_some : {E : Type 0} (g : Grammar) (name : Name) (spots : List Spot) (rule : Option ℕ) (r line : ℕ) (s : Spot) (given : Result (Option Insertion) E) → map named_at spots ≡ g.places
      → Some s ≡ find (is_head_of name) spots → Some r ≡ rule → line ≡ (place_range (units encoding) g.text s.place).start.line
      → IfOk given (λ insertion. IsInsertionOfRule g.rules line r insertion) → IfOk given (λ insertion. IsInsertionBy encoding g (first_head g name) rule insertion)
  by_some g name spots rule r line s (Ok insertion) same e h l is = of_head g (first_head g name) rule r line (named_at s) insertion (first_is g name spots (Some s) same e) h l is
  by_some g name spots rule r line s (Err x) same e h l is = is

  -- ---- the name that is found

  abbrev start_in : List ℕ → Range → ℕ
  start_in text range = min (position_offset (units encoding) text range.start) (position_offset (units encoding) text range.end)

  pub at_some : {E : Type 0} (g : Grammar) (range : Range) (text : List ℕ) (offset : ℕ) (s : Place × List ℕ) (given : Result (Option Insertion) E) → IsGrammar g → text ≡ g.text → offset ≡ start_in text range
      → Some s ≡ option_map place_and_text (at_offset g.text g.places offset)
      → IfOk given (λ insertion. IsInsertionBy encoding g (first_head g (lowercase s.1)) (rule_number g.names (lowercase s.1)) insertion) → IfOk given (λ insertion. IsInsertion encoding g.text range insertion)
  at_some g range text offset s (Ok insertion) right of_text is_offset_there is_found is =
      let is_offset = is_offset_there ∙ ap (λ t. start_in t range) of_text in
      let n = found (at_offset g.text g.places offset) s is_found in
      let here : name_at_start encoding g range ≡ Some n.0 = ap (λ o. at_offset g.text g.places o) (sym is_offset) ∙ n.1 in
      let there : IsInsertionThere encoding g (Some n.0) insertion = subst (λ t. IsInsertionBy encoding g (first_head g (lowercase t)) (rule_number g.names (lowercase t)) insertion) (sym n.2) is in
      record { grammar = g; of_text = refl; right = right; inserted = subst (λ o. IsInsertionThere encoding g o insertion) (sym here) there }
  at_some g range text offset s (Err x) right of_text is_offset_there is_found is = is

  pub at_none : (g : Grammar) (range : Range) (text : List ℕ) (offset : ℕ) → IsGrammar g → text ≡ g.text → offset ≡ start_in text range
      → None ≡ option_map place_and_text (at_offset g.text g.places offset) → IsInsertion encoding g.text range None
  at_none g range text offset right of_text is_offset_there is_none =
      let is_offset = is_offset_there ∙ ap (λ t. start_in t range) of_text in
      let here : name_at_start encoding g range ≡ None = ap (λ o. at_offset g.text g.places o) (sym is_offset) ∙ none (at_offset g.text g.places offset) is_none in
      record { grammar = g; of_text = refl; right = right; inserted = subst (λ o. IsInsertionThere encoding g o None) (sym here) refl }
