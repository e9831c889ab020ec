-- What the numbers of semantic tokens stand for, as JSON (LSP 3.17, "Semantic Tokens"). Members stand in the order of their keys.
use Rattle.std.specs.Prelude.{ℕ, List, [], ◌∷◌, map, codes}
use Rattle.serde_json.specs.Data.{Data, string, array, object, member, no_members}
use Rattle.serde_json.specs.View.{items_of}

-- texts, as JSON
abbrev pub texts_json : List (List ℕ) → Data
texts_json texts = array (items_of (map string texts))

-- what the bits of the fifth number of a token stand for, from the lowest on
abbrev pub modifiers_json : Data
modifiers_json = texts_json (codes "definition" ∷ codes "defaultLibrary" ∷ [])

-- what the fourth number of a token stands for, from 0 on
abbrev pub types_json : Data
types_json = texts_json (codes "type" ∷ codes "string" ∷ codes "number" ∷ codes "operator" ∷ codes "comment" ∷ codes "macro" ∷ [])

-- what the numbers stand for (LSP 3.17, "Semantic Tokens": SemanticTokensLegend)
abbrev pub legend_json : Data
legend_json =
    object (member (codes "tokenModifiers") modifiers_json
    (member (codes "tokenTypes") types_json no_members))
