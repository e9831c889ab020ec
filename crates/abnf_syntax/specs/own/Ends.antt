-- The first items and the last one of lines, by their marks. No public contract speaks of it.
use Rattle.std.specs.Prelude.{◌≡◌, ℕ, ◌+◌, ◌&&◌, Bool, true, false, List, [], ◌∷◌, length, Option, Some, None, slice_range, if◌then◌else◌}
use Rattle.std.specs.List.{flat_map}
use Rattle.abnf_token.specs.declared.mark.TokenMark.{TokenMark}
use Rattle.abnf_token.specs.declared.token.Kind.{Kind}
use Rattle.abnf_token.specs.declared.token.Token.{Token}
use Rattle.abnf_token.specs.Classes.{Text}
use Rattle.abnf_token.specs.Tokens.{view}
use Rattle.abnf_syntax.specs.declared.block.Head.{Head}
use Rattle.abnf_syntax.specs.declared.ends.FirstItems.{FirstItems}
use Rattle.abnf_syntax.specs.declared.ends.FirstItems.TheVariants.{Nothing, One, Two}
use Rattle.abnf_syntax.specs.Kinds.{is_item, is_name_kind, is_defined_as, is_adds}
use Rattle.abnf_syntax.specs.Items.{AreTokens}

-- what a token says, but for the address of its text
abbrev pub View : Type 0
View = Kind × Text × ℕ × ℕ

-- what a line's token with this mark says
abbrev pub view_at : ℕ → Text → TokenMark → View
view_at at line mark = (mark.kind, slice_range line mark.start mark.end, at, mark.start)

-- what those of a line's tokens with these marks say that are items
abbrev pub items_at : ℕ → Text → List TokenMark → List View
items_at at line [] = []
items_at at line (mark ∷ marks) = if is_item mark.kind then view_at at line mark ∷ items_at at line marks else items_at at line marks

-- what the items among tokens say
abbrev pub items_among : List Token → List View
items_among [] = []
items_among (t ∷ ts) = if is_item t.kind then view t ∷ items_among ts else items_among ts

-- This is what the items of these lines say.
pub record AreSeen (ls : List Text) (first end : ℕ) (seen : List View) : Type 0 where
  pub tokens : List (List Token)
  pub all : first + length tokens ≡ end
  pub tokens_are : AreTokens ls first tokens
  pub seen_are : seen ≡ flat_map items_among tokens

-- what the first items say, of which there are none, one or two
abbrev pub front_views : FirstItems → List View
front_views Nothing = []
front_views (One first) = view first ∷ []
front_views (Two first second) = view first ∷ view second ∷ []

-- two items are there, so more change nothing
abbrev pub is_full : FirstItems → Bool
is_full (Two first second) = true
is_full _ = false

-- the head of a block that begins with these two items
abbrev pub head_with : Token → Token → Option Head
head_with first second = if is_name_kind first.kind && is_defined_as second.kind then Some (record { name = first; adds = is_adds second.kind }) else None

-- what a head says, but for the address of its name
abbrev pub head_view : Head → View × Bool
head_view head = (view head.name, head.adds)

-- the head of items that say this
abbrev pub head_seen : List View → Option (View × Bool)
head_seen (first ∷ second ∷ seen) = if is_name_kind first.0 && is_defined_as second.0 then Some (first, is_adds second.0) else None
head_seen _ = None
