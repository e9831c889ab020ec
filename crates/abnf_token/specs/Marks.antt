-- The marks of a line: the classes of its tokens, and where their texts stand.
use Rattle.std.specs.Prelude.{◌≡◌, ℕ, ◌+◌, ◌++◌, List, length, map}
use Rattle.std.specs.List.{Contains}
use Rattle.abnf_token.specs.declared.mark.TokenMark.{TokenMark}
use Rattle.abnf_token.specs.declared.token.Token.{Token}
use Rattle.abnf_token.specs.Classes.{Text}
use Rattle.abnf_token.specs.Tokens.{TokensOf}

-- the mark of a token
abbrev pub mark_of : Token → TokenMark
mark_of t = record { kind = t.kind; start = t.start; end = t.start + length t.text.now }

-- These are the marks of the tokens of a line, whatever the line's number: their classes, and where their texts stand in it,
-- in bytes.
abbrev pub AreMarks : Text → List TokenMark → Type 0
AreMarks text marks = (line : ℕ) → (tokens : List Token) × TokensOf line 0 text tokens × (map mark_of tokens ≡ marks)

-- The marks of the tokens of a line have come to the end of some marks.
abbrev pub AreMarksOnto : Text → List TokenMark → List TokenMark → Type 0
AreMarksOnto text old new = (marks : List TokenMark) × AreMarks text marks × (new ≡ old ++ marks)

-- The mark is one of the line's.
abbrev pub IsMarkOf : Text → TokenMark → Type 0
IsMarkOf text mark = (marks : List TokenMark) × AreMarks text marks × Contains marks mark
