-- What lines say of blocks, however they are laid out: which item begins a block, and the kinds and texts of all items, but not what
-- stands in quotes or in prose, and names in small letters (RFC 5234 section 2.1).
use Rattle.std.specs.Prelude.{◌≡◌, ℕ, suc, ◌+◌, Bool, true, false, not, List, [], ◌∷◌, ◌++◌, length, if◌then◌else◌}
use Rattle.abnf_token.specs.declared.token.Kind.{Kind}
use Rattle.abnf_token.specs.declared.token.Kind.TheVariants.{Name, Quoted, Prose}
use Rattle.abnf_token.specs.declared.token.Token.{Token}
use Rattle.abnf_token.specs.Classes.{Text}
use Rattle.abnf_token.specs.Folded.{lowercase}
use Rattle.abnf_syntax.specs.Blocks.{begins_at}
use Rattle.abnf_syntax.specs.Items.{AreTokens}
use Rattle.abnf_syntax.specs.Kinds.{is_item}

-- what matters of a token's text: a name in small letters (RFC 5234 section 2.1), nothing of what stands in quotes or in
-- prose, and else all
abbrev pub bare_text : Kind → Text → Text
bare_text Name text = lowercase text
bare_text Quoted text = []
bare_text Prose text = []
bare_text _ text = text

-- An item without its place: whether it begins a block, its kind, what matters of its text, and whether something stands
-- between it and the item before.
pub record BareItem : Type 0 where
  pub begins : Bool
  pub kind : Kind
  pub text : Text
  pub apart : Bool

-- a token as an item without its place
abbrev pub bare_item : Bool → Bool → Token → BareItem
bare_item begins apart t = record { begins = begins; kind = t.kind; text = bare_text t.kind t.text.now; apart = apart }

-- the bare items of the tokens behind an item of a line
abbrev pub bare_items_behind : Bool → List Token → List BareItem
bare_items_behind apart [] = []
bare_items_behind apart (t ∷ ts) = if is_item t.kind then bare_item false apart t ∷ bare_items_behind false ts else bare_items_behind true ts

-- The bare items of a line, which begins a block or doesn't: the line end before it stands between its first item and the
-- item before.
abbrev pub line_bare_items : Bool → List Token → List BareItem
line_bare_items begins [] = []
line_bare_items begins (t ∷ ts) = if is_item t.kind then bare_item begins (not begins) t ∷ bare_items_behind false ts else line_bare_items begins ts

-- the bare items of one line after another, from this one on
abbrev pub bare_items_from : List Text → ℕ → List (List Token) → List BareItem
bare_items_from ls at [] = []
bare_items_from ls at (ts ∷ tss) = line_bare_items (begins_at ls at) ts ++ bare_items_from ls (suc at) tss

-- These are the bare items of the lines from the first up to the second, one after the other.
pub record AreBareItems (ls : List Text) (from to : ℕ) (items : List BareItem) : Type 0 where
  pub tokens : List (List Token)
  pub all : from + length tokens ≡ to
  pub tokens_are : AreTokens ls from tokens
  pub bare_items_are : items ≡ bare_items_from ls from tokens
