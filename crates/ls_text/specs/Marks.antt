-- The marks of a line's tokens.
use Rattle.std.specs.Prelude.{ℕ, List, Option, Some, None}
use Rattle.std.specs.Str.{encode_utf8_all}
use Rattle.abnf_token.specs.declared.mark.TokenMark.{TokenMark}
use Rattle.abnf_token.specs.Marks.{AreMarks}

-- These are the marks of the tokens of a line, or there is no such line and so no marks.
abbrev pub AreMarksOf : Option (List ℕ) → Option (List TokenMark) → Type 0
AreMarksOf None None = Unit {0}
AreMarksOf (Some line) (Some marks) = AreMarks (encode_utf8_all line) marks
AreMarksOf _ _ = ⊥
