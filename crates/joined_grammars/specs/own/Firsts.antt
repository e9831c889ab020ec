-- The first definitions of names, by a table of the names.
use Rattle.std.specs.Prelude.{◌≡◌, ℕ, List, [], ◌∷◌, ◌++◌, Option, Some, None, find, map, slice_index_or}
use Rattle.abnf_syntax.specs.declared.block.Block.{Block}
use Rattle.abnf_parts.specs.Names.{Name, rule_number, with_name}
use Rattle.joined_grammars.specs.Repeats.{Definition, is_of_name, definition}

-- what counts of the block at a place
abbrev pub definition_at : List Block → ℕ → Definition
definition_at blocks at = slice_index_or (map definition blocks) at (record { line = 0; name = None; words = [] })

-- the same of the blocks at these places
abbrev pub definitions : List Block → List ℕ → List Definition
definitions blocks places = map (definition_at blocks) places

-- Of these definitions those are the first of their names, which have these names.
pub record AreFirsts (before : List Definition) (names : List Name) (firsts : List Definition) : Type 0 where
  pub first : (name : Name) → find (is_of_name name) before ≡ find (is_of_name name) firsts
  pub named : map (λ name. Some name) names ≡ map (λ d. d.name) firsts

-- places with one more, unless this names the place of another one
abbrev pub with_first : Option ℕ → List ℕ → ℕ → List ℕ
with_first None places at = places ++ at ∷ []
with_first (Some k) places at = places

-- The tables have a name and the place of its definition too, unless they had the name.
pub record AreTablesWith (names : List Name) (firsts : List ℕ) (name : Name) (at : ℕ) (more : List Name) (places : List ℕ) : Type 0 where
  pub names_are : more ≡ with_name names name
  pub places_are : places ≡ with_first (rule_number names name) firsts at
