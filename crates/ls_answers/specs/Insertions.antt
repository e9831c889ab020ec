-- What could be inserted at a range (LSP 3.17, "Code Action Request"): the shortest example of the rule whose name stands there.
use Rattle.std.specs.Prelude.{◌≡◌, ℕ, ◌++◌, ◌∷◌, List, [], min, codes, find, Option, Some, None}
use Rattle.abnf_token.specs.Folded.{lowercase}
use Rattle.ls_text.specs.Edits.{position_offset}
use Rattle.ls_text.specs.Lines.{units}
use Rattle.ls_text.specs.declared.position.Range.{Range}
use Rattle.ls_text.specs.declared.position.Encoding.{Encoding}
use Rattle.abnf_parts.specs.Names.{Name, rule_number}
use Rattle.abnf_parts.specs.Part.{Part}
use Rattle.abnf_names.specs.Places.{Named, at_offset, places_of_name}
use Rattle.abnf_names.specs.Rules.{Grammar, IsGrammar}
use Rattle.abnf_cert.specs.Accepted.{IsAccepted}
use Rattle.abnf_least.specs.Rendered.{rendered_text}
use Rattle.abnf_least.specs.Shown.{IsShown}
use Rattle.abnf_least.specs.declared.shortest.Shortest.{Shortest}
use Rattle.abnf_least.specs.declared.shortest.Shortest.TheVariants.{Shown, Long, Huge, Nothing, NotKnown}
use Rattle.ls_answers.specs.Places.{name_range}
use Rattle.ls_answers.specs.declared.answer.Insertion.{Insertion}

-- the name at the start of a range, whichever of its ends comes first
abbrev pub name_at_start : Encoding → Grammar → Range → Option Named
name_at_start encoding g range = at_offset g.text g.places (min (position_offset (units encoding) g.text range.start) (position_offset (units encoding) g.text range.end))

-- an example as a comment on a line of its own: `; example E` (RFC 5234, section 3.9) and a line end
abbrev pub comment_of : List ℕ → List ℕ
comment_of example = codes "; example " ++ rendered_text example ++ 10 ∷ []

-- The comment comes at the start of this line, beside an accepted certificate, from which the example follows.
pub record IsComment (roots : List Part) (line : ℕ) (example : List ℕ) (insertion : Insertion) : Type 0 where
  pub position_is : insertion.position ≡ record { line = line; character = 0 }
  pub text_is : insertion.text ≡ comment_of example
  pub accepted : IsAccepted roots insertion.cert

-- what is inserted before this line by what is known of a rule's shortest strings
abbrev pub IsInsertedBefore : List Part → ℕ → Shortest → Option Insertion → Type 0
IsInsertedBefore roots line (Shown length example) (Some insertion) = IsComment roots line example insertion
IsInsertedBefore roots line (Shown length example) None = ⊥
IsInsertedBefore roots line (Long length) insertion = insertion ≡ None
IsInsertedBefore roots line Huge insertion = insertion ≡ None
IsInsertedBefore roots line Nothing insertion = insertion ≡ None
IsInsertedBefore roots line NotKnown insertion = insertion ≡ None

-- what is inserted before this line of a rule
abbrev pub IsInsertionOfRule : List Part → ℕ → ℕ → Option Insertion → Type 0
IsInsertionOfRule roots line r insertion = (shown : Shortest) × IsShown roots r shown × IsInsertedBefore roots line shown insertion

-- what is inserted of a name by the first place that defines it and by its rule
abbrev pub IsInsertionBy : Encoding → Grammar → Option Named → Option ℕ → Option Insertion → Type 0
IsInsertionBy encoding g (Some head) (Some r) insertion = IsInsertionOfRule g.rules (name_range encoding g.text head).start.line r insertion
IsInsertionBy encoding g None rule insertion = insertion ≡ None
IsInsertionBy encoding g (Some head) None insertion = insertion ≡ None

-- the first place that defines a name; of the blocks of a name the first always counts
abbrev pub first_head : Grammar → Name → Option Named
first_head g name = find (λ n. n.defines) (places_of_name name g.places)

-- what is inserted of the name that was found
abbrev pub IsInsertionThere : Encoding → Grammar → Option Named → Option Insertion → Type 0
IsInsertionThere encoding g None insertion = insertion ≡ None
IsInsertionThere encoding g (Some named) insertion = IsInsertionBy encoding g (first_head g (lowercase named.text)) (rule_number g.names (lowercase named.text)) insertion

-- This can be inserted at the range. It is something where a name stands at the end of the range that comes first, the text defines it, and
-- its rule has an example that is shown: then the comment with it, at the start of the line where the text first defines the name.
pub record IsInsertion (encoding : Encoding) (text : List ℕ) (range : Range) (insertion : Option Insertion) : Type 0 where
  pub grammar : Grammar
  pub of_text : grammar.text ≡ text
  pub right : IsGrammar grammar
  pub inserted : IsInsertionThere encoding grammar (name_at_start encoding grammar range) insertion
