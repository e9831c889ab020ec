-- The JSON of semantic tokens (LSP 3.17, "Semantic Tokens").
use Rattle.std.specs.Prelude.{ℕ, List, map, codes}
use Rattle.serde_json.specs.Data.{Data, number, array, object, unsigned, member, no_members}
use Rattle.serde_json.specs.View.{items_of}

-- one of these numbers
abbrev pub count_json : ℕ → Data
count_json n = number (unsigned n)

-- five numbers for each token (LSP 3.17, "Semantic Tokens": SemanticTokens)
abbrev pub tokens_json : List ℕ → Data
tokens_json numbers = object (member (codes "data") (array (items_of (map count_json numbers))) no_members)
