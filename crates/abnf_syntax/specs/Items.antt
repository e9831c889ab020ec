-- The items of a block.
use Rattle.std.specs.Prelude.{◌≡◌, ℕ, suc, ◌+◌, Bool, true, false, List, [], ◌∷◌, Option, Some, None, map, length, slice_index_or, if◌then◌else◌}
use Rattle.std.specs.List.{flat_map}
use Rattle.abnf_token.specs.declared.token.Token.{Token}
use Rattle.abnf_token.specs.Classes.{Text}
use Rattle.abnf_token.specs.Tokens.{TokensOf}
use Rattle.abnf_syntax.specs.declared.item.Item.{Item}
use Rattle.abnf_syntax.specs.Kinds.{is_item}

-- the tokens of lines, with None for each line end
abbrev pub with_line_end : List Token → List (Option Token)
with_line_end [] = None ∷ []
with_line_end (t ∷ ts) = Some t ∷ with_line_end ts

-- The items behind an item, each with whether it is apart: `apart` says that a blank, a comment or a line end stands before.
abbrev pub items_behind : Bool → List (Option Token) → List (Token × Bool)
items_behind apart [] = []
items_behind apart (None ∷ ts) = items_behind true ts
items_behind apart (Some t ∷ ts) = if is_item t.kind then (t, apart) ∷ items_behind false ts else items_behind true ts

-- the items of tokens and line ends: each with whether a blank, a comment or a line end stands before it; the first isn't
-- apart
abbrev pub items_of : List (Option Token) → List (Token × Bool)
items_of [] = []
items_of (None ∷ ts) = items_of ts
items_of (Some t ∷ ts) = if is_item t.kind then (t, false) ∷ items_behind false ts else items_of ts

-- the tokens of one line after another, from the line at this place on
abbrev pub AreTokens : List Text → ℕ → List (List Token) → Type 0
AreTokens ls at [] = Unit {0}
AreTokens ls at (ts ∷ tss) = TokensOf at 0 (slice_index_or ls at []) ts × AreTokens ls (suc at) tss

-- what an item says: its token, and whether it is apart
abbrev pub view : Item → Token × Bool
view item = (item.token, item.apart)

-- These are the items of the lines from the first up to the end: their tokens but for blanks and comments, each with whether
-- a blank, a comment or a line end stands before it.
pub record AreItems (ls : List Text) (first end : ℕ) (items : List Item) : Type 0 where
  pub tokens : List (List Token)
  pub all : first + length tokens ≡ end
  pub tokens_are : AreTokens ls first tokens
  pub items_are : map view items ≡ items_of (flat_map with_line_end tokens)
