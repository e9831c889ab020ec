-- What is shown of the name at a position.
use Rattle.std.proofs.Common.{◌≡◌, ℕ, List, None, Some, option_map, refl, sym, ◌∙◌, ap, subst}
use Rattle.abnf_token.specs.Folded.{lowercase}
use Rattle.ls_text.specs.Lines.{offset_of, units}
use Rattle.ls_text.specs.Positions.{place_range}
use Rattle.ls_text.specs.declared.position.Place.{Place}
use Rattle.ls_text.specs.declared.position.Position.{Position}
use Rattle.ls_text.specs.declared.position.Range.{Range}
use Rattle.ls_text.specs.declared.position.Encoding.{Encoding}
use Rattle.abnf_names.specs.Places.{at_offset, place_and_text}
use Rattle.abnf_names.specs.Rules.{Grammar, IsGrammar}
use Rattle.ls_answers.specs.Hovers.{IsHover, IsHoverAt, IsHoverOfName}
use Rattle.ls_answers.specs.Places.{name_at}
use Rattle.ls_answers.specs.declared.answer.HoverText.{HoverText}
use Rattle.ls_answers.proofs.Definitions.{found, none}

module _ (encoding : Encoding) where
  -- with a name there
  pub hover_some : (g : Grammar) (at : Position) (text : List ℕ) (offset : ℕ) (s : Place × List ℕ) (range : Range) (hover : HoverText)
      → IsGrammar g → text ≡ g.text → offset ≡ offset_of (units encoding) text at.line at.character
      → Some s ≡ option_map place_and_text (at_offset g.text g.places offset) → range ≡ place_range (units encoding) text s.0
      → IsHoverOfName g range (lowercase s.1) hover → IsHover encoding g.text at (Some hover)
  hover_some g at text offset s range hover right of_text is_offset_there is_found is_range h =
      let is_offset = is_offset_there ∙ ap (λ t. offset_of (units encoding) t at.line at.character) of_text in
      let n = found (at_offset g.text g.places offset) s is_found in
      let here : name_at encoding g at ≡ Some n.0 = ap (λ o. at_offset g.text g.places o) (sym is_offset) ∙ n.1 in
      let there : range ≡ place_range (units encoding) g.text n.0.place = is_range ∙ (λ i. place_range (units encoding) (of_text i) (sym n.3 i)) in
      let shown : IsHoverOfName g (place_range (units encoding) g.text n.0.place) (lowercase n.0.text) hover =
      subst (λ r. IsHoverOfName g r (lowercase n.0.text) hover) there (subst (λ t. IsHoverOfName g range (lowercase t) hover) (sym n.2) h) in
      record { grammar = g; of_text = refl; right = right; shown = subst (λ o. IsHoverAt encoding g o (Some hover)) (sym here) shown }

  -- without one
  pub hover_none : (g : Grammar) (at : Position) (text : List ℕ) (offset : ℕ) → IsGrammar g → text ≡ g.text
      → offset ≡ offset_of (units encoding) text at.line at.character → None ≡ option_map place_and_text (at_offset g.text g.places offset) → IsHover encoding g.text at None
  hover_none g at text offset right of_text is_offset_there is_none =
      let is_offset = is_offset_there ∙ ap (λ t. offset_of (units encoding) t at.line at.character) of_text in
      let here : name_at encoding g at ≡ None = ap (λ o. at_offset g.text g.places o) (sym is_offset) ∙ none (at_offset g.text g.places offset) is_none in
      record { grammar = g; of_text = refl; right = right; shown = subst (λ o. IsHoverAt encoding g o None) (sym here) refl }
