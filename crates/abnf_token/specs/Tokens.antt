-- The tokens of a line, by the classes of their texts: what the next token is, and the whole list.
use Rattle.std.specs.Prelude.{◌≡◌, ℕ, ◌+◌, ◌<◌, ◌≤◌, true, false, List, [], ◌∷◌, ◌++◌, length, take, map, drop, Option, Some, None}
use Rattle.std.specs.Iterator.{Drains}
use Rattle.abnf_token.specs.declared.token.Kind.{Kind}
use Rattle.abnf_token.specs.declared.token.Kind.TheVariants.{Bad}
use Rattle.abnf_token.specs.declared.token.Token.{Token}
use Rattle.abnf_token.specs.Rest.{Rest}
use Rattle.abnf_token.specs.Classes.{Text, is_in, is_character}

-- No front of the text with more than this many bytes is in a class.
abbrev pub NoLonger : ℕ → Text → Type 0
NoLonger n left = (kind : Kind) (m : ℕ) → n < m → m ≤ length left → is_in kind (take m left) ≡ false

-- A text of this kind fits: it is in the class and no longer front is in any; or it is Bad, one character where no front is
-- in a class.
abbrev pub Fits : Kind → Text → Text → Type 0
Fits Bad text left = (is_character text ≡ true) × NoLonger 0 left
Fits kind text left = (is_in kind text ≡ true) × NoLonger (length text) left

-- The text is a front of what is left, not empty, and fits.
pub record IsNext (kind : Kind) (text left : Text) : Type 0 where
  pub front : text ≡ take (length text) left
  pub within : length text ≤ length left
  pub some : 0 < length text
  pub fits : Fits kind text left

-- The next token of what is left of a line.
pub record IsToken (t : Token) (at_line at_byte : ℕ) (left : Text) : Type 0 where
  pub next : IsNext t.kind t.text.now left
  pub line : t.line ≡ at_line
  pub start : t.start ≡ at_byte

-- what is left after so many bytes more
abbrev pub rest_after : ℕ → Rest → Rest
rest_after n rest = record { text = drop n rest.text; line = rest.line; start = rest.start + n }

-- The tokens of what is left of a line from the byte start on: each is the next one where those before it end, and none is
-- missing. So their texts join to what is left, each the longest in a class, or one bad character.
abbrev pub TokensOf : ℕ → ℕ → Text → List Token → Type 0
TokensOf line start left [] = left ≡ []
TokensOf line start left (t ∷ ts) = IsToken t line start left × TokensOf line (start + length t.text.now) (drop (length t.text.now) left) ts

-- What a call of `next` gives: the next token of what is left, which then follows it; or none at the line's end.
abbrev pub GivesToken : Rest → Option Token → Rest → Type 0
GivesToken old None new = (old.text ≡ []) × (new ≡ old)
GivesToken old (Some t) new = IsToken t old.line old.start old.text × (new ≡ rest_after (length t.text.now) old)

-- what is left, as a list of bytes
abbrev pub bytes_left : Rest → Text
bytes_left rest = rest.text

-- Calls of `next` up to `None` give the tokens of what is left.
abbrev pub GivesTokensOf : Rest → Type 0
GivesTokensOf rest = (ts : List Token) → Drains GivesToken rest ts → TokensOf rest.line rest.start rest.text ts

-- But for Bad, no text is in two classes.
abbrev pub AreApart : Type 0
AreApart = (j kind : Kind) (text : Text) → is_in j text ≡ true → is_in kind text ≡ true → j ≡ kind

-- what a token says, but for the address of its text
abbrev pub view : Token → Kind × Text × ℕ × ℕ
view t = (t.kind, t.text.now, t.line, t.start)

-- There is one list of tokens of what is left, but for the addresses of their texts, whatever the line's number and wherever
-- it stands.
abbrev pub HasOneAnswer : Text → Type 0
HasOneAnswer left = (line start : ℕ) (ts us : List Token) → TokensOf line start left ts → TokensOf line start left us → map view ts ≡ map view us

-- Each token's text is the slice of the line from the token's start.
abbrev pub AreSlices : Text → List Token → Type 0
AreSlices whole [] = Unit {0}
AreSlices whole (t ∷ ts) = (t.text.now ≡ take (length t.text.now) (drop t.start whole)) × AreSlices whole ts

-- Whatever tokens the line has, the text of each is the slice of the line from the token's start.
abbrev pub HasSlices : Text → Type 0
HasSlices whole = (line : ℕ) (ts : List Token) → TokensOf line 0 whole ts → AreSlices whole ts

-- the texts of the tokens, one after the other
abbrev pub joined_tokens : List Token → Text
joined_tokens [] = []
joined_tokens (t ∷ ts) = t.text.now ++ joined_tokens ts

-- Whatever tokens the line has, their texts join to the line.
abbrev pub HasJoin : Text → Type 0
HasJoin whole = (line : ℕ) (ts : List Token) → TokensOf line 0 whole ts → joined_tokens ts ≡ whole
