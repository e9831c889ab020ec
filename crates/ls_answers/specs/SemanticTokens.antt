-- The classes of the tokens of a text (LSP 3.17, "Semantic Tokens").
use Rattle.std.specs.Prelude.{◌≡◌, ◌==◌, ℕ, ◌-◌, Bool, not, ◌&&◌, nat_eq, List, [], ◌∷◌, ◌++◌, find, flat_map, length, Option, Some, None, option_map, if◌then◌else◌}
use Rattle.std.specs.List.{filter_map}
use Rattle.std.specs.Option.{is_some, option_map_or}
use Rattle.abnf_token.specs.Folded.{lowercase}
use Rattle.abnf_token.specs.Marks.{mark_of}
use Rattle.abnf_token.specs.declared.mark.TokenMark.{TokenMark}
use Rattle.abnf_token.specs.declared.token.Kind.{Kind}
use Rattle.abnf_token.specs.declared.token.Kind.TheVariants.{Name, Defines, Adds, Slash, Repeat, ParenL, ParenR, BracketL, BracketR, Quoted, Number, Prose, Comment, Blank, Bad}
use Rattle.abnf_token.specs.declared.token.Token.{Token}
use Rattle.ls_text.specs.Lines.{units}
use Rattle.ls_text.specs.Positions.{place_range}
use Rattle.ls_text.specs.declared.position.Position.{Position}
use Rattle.ls_text.specs.declared.position.Encoding.{Encoding}
use Rattle.abnf_syntax.specs.Blocks.{line_texts}
use Rattle.abnf_syntax.specs.Items.{AreTokens}
use Rattle.abnf_parts.specs.Names as names
use Rattle.abnf_parts.specs.Names.{rule_number}
use Rattle.abnf_names.specs.Places.{Named, is_defined}
use Rattle.abnf_names.specs.Rules.{Grammar, IsGrammar}
use Rattle.ls_answers.specs.declared.semantic_tokens.SemanticToken.{SemanticToken}

-- the number of a token's type in the legend `type`, `string`, `number`, `operator`, `comment`, `macro`; a blank or a bad token has none,
-- and isn't reported
abbrev pub type_of : Kind → Option ℕ
type_of Name = Some 0
type_of Defines = Some 3
type_of Adds = Some 3
type_of Slash = Some 3
type_of Repeat = Some 3
type_of ParenL = Some 3
type_of ParenR = Some 3
type_of BracketL = Some 3
type_of BracketR = Some 3
type_of Quoted = Some 1
type_of Number = Some 2
type_of Prose = Some 5
type_of Comment = Some 4
type_of Blank = None
type_of Bad = None

-- A name stands for a core rule where it stands for a rule that the text doesn't define.
abbrev pub stands_for_core : Grammar → names.Name → Bool
stands_for_core g name = not (is_defined g.places name) && is_some (rule_number g.names name)

-- the sum of the modifiers of a name's place, in the legend `definition` (1) and `defaultLibrary` (2): it defines its name, or is a use
-- that stands for a core rule; else 0
abbrev pub place_modifiers : Grammar → Named → ℕ
place_modifiers g n = if n.defines then 1 else (if stands_for_core g (lowercase n.text) then 2 else 0)

-- The place of a name begins at this byte of this line.
abbrev pub stands_at : ℕ → ℕ → Named → Bool
stands_at line start n = nat_eq n.place.line line && nat_eq n.place.start start

-- the modifiers of a token by the place of a name that it is, if it is one; 0 of all other tokens
abbrev pub modifiers_of : Grammar → Kind → Option Named → ℕ
modifiers_of g Name found = option_map_or (place_modifiers g) found 0
modifiers_of g _ found = 0

-- what is reported of a token in this line with this mark: its range, type and modifiers; nothing where it has no type
abbrev pub told_of : Encoding → Grammar → ℕ → TokenMark → Option Named → Option SemanticToken
told_of encoding g line mark found = option_map (λ kind. record {
  range = place_range (units encoding) g.text (record { line = line; start = mark.start; end = mark.end });
  kind = kind;
  modifiers = modifiers_of g mark.kind found;
}) (type_of mark.kind)

-- what is reported of a token
abbrev pub told : Encoding → Grammar → Token → Option SemanticToken
told encoding g token = told_of encoding g token.line (mark_of token) (find (stands_at token.line token.start) g.places)

-- the five numbers of a token behind the start of the token before: how many lines below it, how far behind it in the same line or else
-- behind the line's start, its length, type and modifiers. Starts and lengths count the units of the encoding.
abbrev pub numbers_of : Position → SemanticToken → List ℕ
numbers_of before token =
    let start = token.range.start in
    (start.line - before.line) ∷
    (if start.line == before.line then start.character - before.character else start.character) ∷
    (token.range.end.character - start.character) ∷
    token.kind ∷
    token.modifiers ∷ []

-- the numbers of tokens behind a position
abbrev pub relative : Position → List SemanticToken → List ℕ
relative before [] = []
relative before (token ∷ tokens) = numbers_of before token ++ relative token.range.start tokens

-- the start of a text, from which the first token counts
abbrev pub origin : Position
origin = record { line = 0; character = 0 }

-- These are the tokens of the text that are reported: those of each line, in its order, but blanks and bad tokens.
pub record AreReported (encoding : Encoding) (text : List ℕ) (given : List SemanticToken) : Type 0 where
  pub grammar : Grammar
  pub of_text : grammar.text ≡ text
  pub right : IsGrammar grammar
  pub tokens : List (List Token)
  pub all : length tokens ≡ length (line_texts text)
  pub tokens_are : AreTokens (line_texts text) 0 tokens
  pub given_are : given ≡ flat_map (filter_map (told encoding grammar)) tokens

-- These are the numbers of the tokens of the text that are reported.
pub record AreSemanticTokens (encoding : Encoding) (text : List ℕ) (numbers : List ℕ) : Type 0 where
  pub tokens : List SemanticToken
  pub reported : AreReported encoding text tokens
  pub numbers_are : numbers ≡ relative origin tokens
