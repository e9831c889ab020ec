-- A line as the list of its tokens' kinds and texts, and a rename of it (RFC 5234 section 4; LSP 3.17, "Rename Request").
use Rattle.std.specs.Prelude.{◌≡◌, ℕ, Bool, true, false, not, ◌&&◌, List, [], ◌∷◌, ◌++◌, map, if◌then◌else◌}
use Rattle.std.specs.Str.{bytes_eq}
use Rattle.abnf_token.specs.declared.token.Kind.{Kind}
use Rattle.abnf_token.specs.declared.token.Token.{Token}
use Rattle.abnf_token.specs.Classes.{Text}
use Rattle.abnf_token.specs.Folded.{lowercase}
use Rattle.abnf_token.specs.Tokens.{IsNext, TokensOf}
use Rattle.abnf_token.specs.declared.token.Kind.TheVariants.{Name, Number, Bad}

-- a token's kind and text
abbrev pub Piece : Type 0
Piece = Kind × Text

-- the kind and the text of a token
abbrev pub piece : Token → Piece
piece t = (t.kind, t.text.now)

-- the texts of the pieces, one after the other
abbrev pub joined : List Piece → Text
joined [] = []
joined (p ∷ ps) = p.1 ++ joined ps

-- The pieces are those of the line to which their texts join: each is the next one of what it and those behind it join to.
abbrev pub AreCut : List Piece → Type 0
AreCut [] = Unit {0}
AreCut (p ∷ ps) = IsNext p.0 p.1 (p.1 ++ joined ps) × AreCut ps

-- A name right behind a piece of this kind, Bad or Number, has no place, as it is the rest of something misspelled.
abbrev pub touches : Kind → Bool
touches Bad = true
touches Number = true
touches _ = false

-- the text is the name, which is in small letters: names are compared without case (RFC 5234 section 2.1)
abbrev pub is_called : Text → Text → Bool
is_called old text = bytes_eq old (lowercase text)

-- Whether a text of this kind stands at a place of the name: it is the name, and no bad piece or number stands right before
-- it, which is `touched`.
abbrev pub is_at_place : Text → Bool → Kind → Text → Bool
is_at_place old touched Name text = not touched && is_called old text
is_at_place old touched _ text = false

-- the text of a piece, or at a place of the name the new text
abbrev pub renamed_text : Text → Text → Bool → Kind → Text → Text
renamed_text old new touched kind text = if is_at_place old touched kind text then new else text

-- the pieces with the new text at each place of the name; `touched` says whether a bad piece or a number stands right before
-- them
abbrev pub renamed : Text → Text → Bool → List Piece → List Piece
renamed old new touched [] = []
renamed old new touched (p ∷ ps) = (p.0, renamed_text old new touched p.0 p.1) ∷ renamed old new (touches p.0) ps

-- The law of a line: where the new text is a name, the pieces of the line with the new text at each place of the name are the
-- pieces with the new text there, and no others.
abbrev pub KeepsCut : Text → Text → List Piece → Type 0
KeepsCut old new ps = AreCut ps → AreCut (renamed old new false ps)

-- Whatever tokens the renamed line has, their kinds and texts are the pieces of the line with the new text at each place of
-- the name.
abbrev pub KeepsTokens : Text → Text → Text → Type 0
KeepsTokens old new line =
    (at other : ℕ) (ts us : List Token) → TokensOf at 0 line ts → TokensOf other 0 (joined (renamed old new false (map piece ts))) us
    → map piece us ≡ renamed old new false (map piece ts)
