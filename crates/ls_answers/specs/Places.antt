-- The places of the name at a position (LSP 3.17, "Goto Definition Request" and "Find References Request").
use Rattle.std.specs.Prelude.{◌≡◌, ℕ, List, [], map, filter, Bool, true, false, Option, Some, None}
use Rattle.abnf_token.specs.Folded.{lowercase}
use Rattle.ls_text.specs.Lines.{offset_of, units}
use Rattle.ls_text.specs.Positions.{place_range}
use Rattle.ls_text.specs.declared.position.Position.{Position}
use Rattle.ls_text.specs.declared.position.Range.{Range}
use Rattle.ls_text.specs.declared.position.Encoding.{Encoding}
use Rattle.abnf_parts.specs.Names.{Name}
use Rattle.abnf_names.specs.Places.{Named, at_offset, places_of_name}
use Rattle.abnf_names.specs.Rules.{Grammar, IsGrammar}
use Rattle.abnf_places.specs.declared.wanted.Wanted.{Wanted}
use Rattle.abnf_places.specs.declared.wanted.Wanted.TheVariants.{Definitions, Uses, Both}
use Rattle.abnf_places.specs.Wanted.{is_wanted}

-- the name whose place holds the position, else the one whose place ends there
abbrev pub name_at : Encoding → Grammar → Position → Option Named
name_at encoding g at = at_offset g.text g.places (offset_of (units encoding) g.text at.line at.character)

-- the places of the same name; names are compared without case (RFC 5234, section 2.1)
abbrev pub places_alike : Grammar → Option Named → List Named
places_alike g None = []
places_alike g (Some named) = places_of_name (lowercase named.text) g.places

-- the range of a name
abbrev pub name_range : Encoding → List ℕ → Named → Range
name_range encoding text named = place_range (units encoding) text named.place

-- These are the ranges of the wanted places of the name at the position, in the order of the text. There are none where no name stands
-- there.
pub record ArePlaces (encoding : Encoding) (wanted : Wanted) (text : List ℕ) (at : Position) (ranges : List Range) : Type 0 where
  pub grammar : Grammar
  pub of_text : grammar.text ≡ text
  pub right : IsGrammar grammar
  pub ranges_are : ranges ≡ map (name_range encoding text) (filter (λ named. is_wanted wanted named.defines) (places_alike grammar (name_at encoding grammar at)))

-- those that define it (LSP 3.17, "Goto Definition Request")
abbrev pub AreDefinitions : Encoding → List ℕ → Position → List Range → Type 0
AreDefinitions encoding text at ranges = ArePlaces encoding Definitions text at ranges

-- which places are asked for: all, where those that define the name are to be among them, or those that don't define it
abbrev pub wanted_with : Bool → Wanted
wanted_with true = Both
wanted_with false = Uses

-- all of its places, or, where the declarations aren't asked for, those that don't define it (LSP 3.17, "Find References Request")
abbrev pub AreReferences : Encoding → List ℕ → Position → Bool → List Range → Type 0
AreReferences encoding text at declarations ranges = ArePlaces encoding (wanted_with declarations) text at ranges

-- the ranges of those places of a name, among these, that are wanted
abbrev pub ranges_of : Encoding → Wanted → List ℕ → Name → List Named → List Range
ranges_of encoding wanted text name places = map (name_range encoding text) (filter (λ named. is_wanted wanted named.defines) (places_of_name name places))
