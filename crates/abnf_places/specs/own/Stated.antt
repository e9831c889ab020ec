-- Where a name is written, by tokens and by their marks. Only contracts of private functions speak of it.
use Rattle.std.specs.Prelude.{◌≡◌, ℕ, ◌<◌, ◌≤◌, Bool, false, ◌&&◌, List, [], ◌∷◌, slice_index_or, slice_range, if◌then◌else◌}
use Rattle.std.specs.List.{list_any}
use Rattle.std.specs.Str.{bytes_eq}
use Rattle.abnf_token.specs.Classes.{Text}
use Rattle.abnf_token.specs.Folded.{lowercase}
use Rattle.abnf_token.specs.Tokens.{TokensOf}
use Rattle.abnf_token.specs.declared.mark.TokenMark.{TokenMark}
use Rattle.abnf_token.specs.declared.token.Token.{Token}
use Rattle.abnf_syntax.specs.Kinds.{is_item, is_name_kind}
use Rattle.abnf_parts.specs.Names.{Name}

-- the token is this name, in any case of letters
abbrev pub is_token_called : Name → Token → Bool
is_token_called name token = is_name_kind token.kind && bytes_eq name (lowercase token.text.now)

-- a line's token with this mark is this name
abbrev pub is_called_at : Name → Text → TokenMark → Bool
is_called_at name line mark = is_name_kind mark.kind && bytes_eq name (lowercase (slice_range line mark.start mark.end))

-- the first item among these tokens is this name
abbrev pub begins_with_name : Name → List Token → Bool
begins_with_name name [] = false
begins_with_name name (token ∷ tokens) = if is_item token.kind then is_token_called name token else begins_with_name name tokens

-- the first item among a line's tokens with these marks is this name
abbrev pub is_first_at : Name → Text → List TokenMark → Bool
is_first_at name line [] = false
is_first_at name line (mark ∷ marks) = if is_item mark.kind then is_called_at name line mark else is_first_at name line marks

-- The first item of a line isn't this name.
abbrev pub IsNotFirst : List Text → Name → ℕ → Type 0
IsNotFirst ls name at = (tokens : List Token) → TokensOf at 0 (slice_index_or ls at []) tokens → begins_with_name name tokens ≡ false

-- No token of these lines is this name.
abbrev pub IsNowhere : List Text → Name → ℕ → ℕ → Type 0
IsNowhere ls name from to = (at : ℕ) → from ≤ at → at < to →
    (tokens : List Token) → TokensOf at 0 (slice_index_or ls at []) tokens → list_any (is_token_called name) tokens ≡ false
