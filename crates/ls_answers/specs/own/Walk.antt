-- The walk over the tokens of a text beside the places of its names. Only contracts of private functions speak of it.
use Rattle.std.specs.Prelude.{◌≡◌, ℕ, suc, List, [], ◌∷◌, ◌++◌, length, slice_index_or, Option, Some, None, if◌then◌else◌}
use Rattle.ls_text.specs.declared.position.Encoding.{Encoding}
use Rattle.abnf_token.specs.Classes.{Text}
use Rattle.abnf_token.specs.Marks.{AreMarks}
use Rattle.abnf_token.specs.declared.mark.TokenMark.{TokenMark}
use Rattle.abnf_syntax.specs.Blocks.{line_texts}
use Rattle.abnf_names.specs.Places.{Named, begins_before}
use Rattle.abnf_names.specs.Rules.{Grammar}
use Rattle.ls_answers.specs.Outline.{as_list}
use Rattle.ls_answers.specs.SemanticTokens.{stands_at, told_of}
use Rattle.ls_answers.specs.declared.semantic_tokens.SemanticToken.{SemanticToken}

-- the places from the first on that doesn't begin before this byte of this line
abbrev pub from_point : ℕ → ℕ → List Named → List Named
from_point line start [] = []
from_point line start (n ∷ ns) = if begins_before line start n then from_point line start ns else n ∷ ns

-- the first of the places, if it stands there
abbrev pub first_at : ℕ → ℕ → List Named → Option Named
first_at line start [] = None
first_at line start (n ∷ ns) = if stands_at line start n then Some n else None

-- what is reported of the tokens of a line with these marks, where these places are left
abbrev pub told_in_line : Encoding → Grammar → ℕ → List TokenMark → List Named → List SemanticToken
told_in_line encoding g line [] places = []
told_in_line encoding g line (mark ∷ marks) places =
    as_list (told_of encoding g line mark (first_at line mark.start (from_point line mark.start places))) ++ told_in_line encoding g line marks (from_point line mark.start places)

-- the places that are left behind a line
abbrev pub left_behind : ℕ → List TokenMark → List Named → List Named
left_behind line [] places = places
left_behind line (mark ∷ marks) places = left_behind line marks (from_point line mark.start places)

-- what is reported of the tokens of lines from this one on, beside the places of names that are left there
abbrev pub told_in_lines : Encoding → Grammar → ℕ → List (List TokenMark) → List Named → List SemanticToken
told_in_lines encoding g line [] places = []
told_in_lines encoding g line (marks ∷ lines) places = told_in_line encoding g line marks places ++ told_in_lines encoding g (suc line) lines (left_behind line marks places)

-- the places that are left behind these lines
abbrev pub left_behind_all : ℕ → List (List TokenMark) → List Named → List Named
left_behind_all line [] places = places
left_behind_all line (marks ∷ lines) places = left_behind_all (suc line) lines (left_behind line marks places)

-- the marks of one line after another, from this one on
abbrev pub AreLineMarks : List Text → ℕ → List (List TokenMark) → Type 0
AreLineMarks ls at [] = Unit {0}
AreLineMarks ls at (marks ∷ lines) = AreMarks (slice_index_or ls at []) marks × AreLineMarks ls (suc at) lines

-- So many lines have been walked: what is reported of their tokens, and the places that are left.
pub record HasWalked (encoding : Encoding) (g : Grammar) (count : ℕ) (tokens : List SemanticToken) (left : List Named) : Type 0 where
  pub lines : List (List TokenMark)
  pub count_is : length lines ≡ count
  pub marks : AreLineMarks (line_texts g.text) 0 lines
  pub told : tokens ≡ told_in_lines encoding g 0 lines g.places
  pub left_is : left ≡ left_behind_all 0 lines g.places

-- This is reported of the tokens of all lines.
abbrev pub AreToldTokens : Encoding → Grammar → List SemanticToken → Type 0
AreToldTokens encoding g tokens = (left : List Named) × HasWalked encoding g (length (line_texts g.text)) tokens left
