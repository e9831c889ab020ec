-- A text cut into lines, as a snapshot holds it. No public contract cites this.
use Rattle.std.specs.Prelude.{zero, suc, ◌+◌, ◌<◌, ◌≤◌, length, slice_index, ◌≡◌, ℕ, Bool, true, false, not, ◌⊎◌, List, [], ◌∷◌, ◌++◌, ◌==◌, if◌then◌else◌}
use Rattle.std.specs.List.{list_any}
use Rattle.std.specs.Str.{chars, IsUtf8, encode_utf8_all}
use Rattle.ls_text.specs.Lines.{is_break, starts_with_lf, max_bytes}
use Rattle.ls_text.specs.declared.line_end.LineEnd.{LineEnd}
use Rattle.ls_text.specs.declared.line_end.LineEnd.TheVariants.{Eof, Lf, Cr, CrLf}

-- the characters of a line end; the end of the text has none
abbrev pub end_text : LineEnd → List ℕ
end_text Eof = []
end_text Lf = 10 ∷ []
end_text Cr = 13 ∷ []
end_text CrLf = 13 ∷ 10 ∷ []

-- a line of a text: its characters without its line end, and that line end
pub record Row : Type 0 where
  pub text : List ℕ
  pub end : LineEnd

-- the line of this text and this line end
abbrev pub row : List ℕ → LineEnd → Row
row text end = record { text = text; end = end }

-- the characters of a line without its line end
abbrev pub line_text : Row → List ℕ
line_text l = l.text

-- the text: each line, with its line end
abbrev pub text_of : List Row → List ℕ
text_of [] = []
text_of (l ∷ ls) = line_text l ++ (end_text l.end ++ text_of ls)

-- no character is LF or CR
abbrev pub IsPlain : List ℕ → Type 0
IsPlain t = list_any is_break t ≡ false

-- whether this can be the line end before the rest t of the text
abbrev pub is_end_before : LineEnd → List ℕ → Bool
is_end_before Eof t = false
is_end_before Lf t = true
is_end_before Cr t = not (starts_with_lf t)
is_end_before CrLf t = true

-- these are the lines of a text: each plain, and each but the last with a line end
abbrev pub AreLines : List Row → Type 0
AreLines [] = ⊥
AreLines (l ∷ []) = IsPlain (line_text l) × (l.end ≡ Eof)
AreLines (l ∷ m ∷ ls) = IsPlain (line_text l) × (is_end_before l.end (text_of (m ∷ ls)) ≡ true) × AreLines (m ∷ ls)

-- the line end at the front of these bytes, which begin with LF or CR, or are no more
abbrev pub first_end : List ℕ → LineEnd
first_end [] = Eof
first_end (b ∷ bs) = if b == 10 then Lf else (if starts_with_lf bs then CrLf else Cr)

-- the bytes of a text are a plain first line, its line end and a rest, which is empty after the last line
pub record IsCutFrom (line : List ℕ) (end : LineEnd) (rest : List ℕ) (text : List ℕ) : Type 0 where
  pub joins : text ≡ line ++ (end_text end ++ rest)
  pub plain : IsPlain line
  pub line_utf8 : IsUtf8 line
  pub rest_utf8 : IsUtf8 rest
  pub ends : (end ≡ Eof × rest ≡ []) ⊎ (is_end_before end rest ≡ true)

-- a line with these bytes and this end has come to the end of the lines
pub record IsPushedLine (ls : List Row) (text : List ℕ) (end : LineEnd) (ms : List Row) : Type 0 where
  pub line : Row
  pub text_is : line_text line ≡ chars text
  pub end_is : line.end ≡ end
  pub joins : ms ≡ ls ++ line ∷ []

-- how many characters come before line m
abbrev pub start_of : List Row → ℕ → ℕ
start_of [] m = 0
start_of (l ∷ ls) zero = 0
start_of (l ∷ ls) (suc m) = length (line_text l) + (length (end_text l.end) + start_of ls m)

-- these are the starts of the lines, and the length of their text
pub record IsIndex (starts : List ℕ) (len : ℕ) (ls : List Row) : Type 0 where
  pub count : length starts ≡ length ls
  pub starts_are : (m : ℕ) → m < length ls → slice_index starts m ≡ start_of ls m
  pub len_is : len ≡ length (text_of ls)

-- what a snapshot keeps: the lines of a text of at most 4,194,304 bytes of UTF-8
pub record IsKeptText (ls : List Row) : Type 0 where
  pub lines : AreLines ls
  pub small : length (encode_utf8_all (text_of ls)) ≤ max_bytes

-- these are the lines of the text t
abbrev pub IsCut : List ℕ → List Row → Type 0
IsCut t ls = AreLines ls × (text_of ls ≡ t)

-- these whole lines come before the text t
abbrev pub AreLinesBefore : List Row → List ℕ → Type 0
AreLinesBefore [] t = Unit {0}
AreLinesBefore (l ∷ ls) t = IsPlain (line_text l) × (is_end_before l.end (text_of ls ++ t) ≡ true) × AreLinesBefore ls t

-- the bytes of a text are these whole lines, and a rest
pub record IsCutSoFar (text : List ℕ) (ls : List Row) (rest : List ℕ) : Type 0 where
  pub joins : text_of ls ++ chars rest ≡ chars text
  pub before : AreLinesBefore ls (chars rest)
  pub utf8 : IsUtf8 rest

-- the whole lines of a text have come to the end of the lines, up to a rest
pub record IsCutOnto (old : List Row) (text rest : List ℕ) (now : List Row) : Type 0 where
  pub cut : List Row
  pub joins : now ≡ old ++ cut
  pub so_far : IsCutSoFar text cut rest

-- the characters of line m without its line end, none where there is no such line
abbrev pub text_at : List Row → ℕ → List ℕ
text_at [] m = []
text_at (l ∷ ls) zero = line_text l
text_at (l ∷ ls) (suc m) = text_at ls m

-- the line end of line m, that of the text's end where there is no such line
abbrev pub end_at : List Row → ℕ → LineEnd
end_at [] m = Eof
end_at (l ∷ ls) zero = l.end
end_at (l ∷ ls) (suc m) = end_at ls m
