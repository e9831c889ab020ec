-- A rename of the lines of a text (LSP 3.17, "Rename Request").
use Rattle.std.specs.Prelude.{◌≡◌, ℕ, false, List, [], ◌∷◌, map}
use Rattle.abnf_token.specs.declared.token.Token.{Token}
use Rattle.abnf_token.specs.Classes.{Text}
use Rattle.abnf_token.specs.Renamed.{Piece, piece, AreCut, joined, renamed}
use Rattle.abnf_token.specs.Tokens.{TokensOf}

-- The other line is the line with the new text at each place of the name. The line's pieces are those of its tokens, of which
-- there is one list.
pub record IsRenamedLine (old new line other : Text) : Type 0 where
  pub pieces : List Piece
  pub cut : AreCut pieces
  pub line_is : line ≡ joined pieces
  pub other_is : other ≡ joined (renamed old new false pieces)

-- The other lines are the lines with the new text at each place of the name, line by line: none comes or goes.
abbrev pub AreRenamedLines : Text → Text → List Text → List Text → Type 0
AreRenamedLines old new [] [] = Unit {0}
AreRenamedLines old new (l ∷ ls) (m ∷ ms) = IsRenamedLine old new l m × AreRenamedLines old new ls ms
AreRenamedLines old new _ _ = ⊥

-- Whatever tokens the line and the other line have, those of the other line have the kinds and texts of those of the line,
-- but that each place of the name has the new text. A line has one list of tokens; it names the number of its line, which is
-- free here.
abbrev pub HasRenamedTokens : Text → Text → Text → Text → Type 0
HasRenamedTokens old new line other =
    (at there : ℕ) (ts us : List Token) → TokensOf at 0 line ts → TokensOf there 0 other us → map piece us ≡ renamed old new false (map piece ts)

-- Whatever tokens the lines and the other lines have, line by line those of the other have the kinds and texts of the line's,
-- but that each place of the name has the new text: no line comes or goes.
abbrev pub HaveRenamedTokens : Text → Text → List Text → List Text → Type 0
HaveRenamedTokens old new [] [] = Unit {0}
HaveRenamedTokens old new (l ∷ ls) (m ∷ ms) = HasRenamedTokens old new l m × HaveRenamedTokens old new ls ms
HaveRenamedTokens old new _ _ = ⊥
