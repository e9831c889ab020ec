-- How the items of a block are gathered. No public contract speaks of it.
use Rattle.std.specs.Prelude.{◌≡◌, ◌+◌, ℕ, Bool, true, false, List, [], ◌∷◌, ◌++◌, length, Option, Some, None, map, if◌then◌else◌}
use Rattle.std.specs.List.{flat_map}
use Rattle.abnf_token.specs.declared.token.Token.{Token}
use Rattle.abnf_token.specs.Classes.{Text}
use Rattle.abnf_token.specs.Tokens.{TokensOf}
use Rattle.abnf_syntax.specs.declared.block.Gathered.{Gathered}
use Rattle.abnf_syntax.specs.Kinds.{is_item}
use Rattle.abnf_syntax.specs.Items.{with_line_end, view, AreTokens}

-- the items so far, and whether the next one is apart
pub record Gathering : Type 0 where
  pub items : List (Token × Bool)
  pub apart : Bool

-- what the code has gathered, but for the addresses of texts
abbrev pub gathering_of : Gathered → Gathering
gathering_of g = record { items = map view g.items.items; apart = g.apart }

-- there are items
abbrev pub is_some : List (Token × Bool) → Bool
is_some [] = false
is_some (item ∷ items) = true

-- a blank, a comment or a line end comes: the next item is apart, unless it is the first
abbrev pub with_gap : Gathering → Gathering
with_gap s = record { items = s.items; apart = is_some s.items }

-- the state after one more token, or a line end
abbrev pub gathered_on : Gathering → Option Token → Gathering
gathered_on s None = with_gap s
gathered_on s (Some t) = if is_item t.kind then record { items = s.items ++ (t, s.apart) ∷ []; apart = false } else with_gap s

-- the state after some tokens and line ends
abbrev pub after_all : Gathering → List (Option Token) → Gathering
after_all s [] = s
after_all s (t ∷ ts) = after_all (gathered_on s t) ts

-- no items yet, and the first isn't apart
abbrev pub nothing_gathered : Gathering
nothing_gathered = record { items = []; apart = false }

-- the tokens of this line and its end have come
pub record AddsLine (at : ℕ) (line : Text) (old new : Gathering) : Type 0 where
  pub tokens : List Token
  pub tokens_are : TokensOf at 0 line tokens
  pub state : new ≡ after_all old (with_line_end tokens)

-- the tokens of these lines have come
pub record HasLines (ls : List Text) (first end : ℕ) (now : Gathering) : Type 0 where
  pub tokens : List (List Token)
  pub all : first + length tokens ≡ end
  pub tokens_are : AreTokens ls first tokens
  pub state : now ≡ after_all nothing_gathered (flat_map with_line_end tokens)
