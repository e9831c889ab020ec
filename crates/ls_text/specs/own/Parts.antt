-- Lines whose texts and marks stand in one text and one list of marks. No public contract cites this.
use Rattle.std.specs.Prelude.{◌≡◌, ℕ, ◌+◌, ◌-◌, ◌<◌, ◌≤◌, ◌^◌, List, [], ◌∷◌, length, slice_index_or}
use Rattle.std.specs.List.{slice_range}
use Rattle.std.specs.Str.{chars, IsCharBoundary}
use Rattle.abnf_token.specs.declared.mark.TokenMark.{TokenMark}
use Rattle.abnf_token.specs.Marks.{AreMarks}
use Rattle.ls_text.specs.Cut.{Row, row}
use Rattle.ls_text.specs.declared.part.Held.{Held}
use Rattle.ls_text.specs.declared.part.Shift.{Shift}

-- the bytes of a line that is held
abbrev pub held_text : List ℕ → Held → List ℕ
held_text bytes h = slice_range bytes h.text_start h.text_end

-- the line that is held: its characters and its line end
abbrev pub held_row : List ℕ → Held → Row
held_row bytes h = row (chars (held_text bytes h)) h.end

-- a line stands in a text, between two characters, and its marks in a list of marks
pub record IsHeldLine (bytes : List ℕ) (marks : List TokenMark) (h : Held) : Type 0 where
  pub order : h.text_start ≤ h.text_end
  pub from : IsCharBoundary bytes h.text_start
  pub to : IsCharBoundary bytes h.text_end
  pub marks_order : h.marks_start ≤ h.marks_end
  pub marks_within : h.marks_end ≤ length marks
  pub marks_are : AreMarks (held_text bytes h) (slice_range marks h.marks_start h.marks_end)
  pub count_is : h.char_count ≡ length (chars (held_text bytes h))

-- each of these lines stands in this text, and its marks in this list of marks
abbrev pub AreHeld : List ℕ → List TokenMark → List Held → Type 0
AreHeld bytes marks [] = Unit {0}
AreHeld bytes marks (h ∷ hs) = IsHeldLine bytes marks h × AreHeld bytes marks hs

-- the lines stand one behind another, their texts from t up to u, and their marks from m up to n
abbrev pub AreInOrder : ℕ → ℕ → List Held → ℕ → ℕ → Type 0
AreInOrder t m [] u n = (t ≤ u) × (m ≤ n)
AreInOrder t m (h ∷ hs) u n = (t ≤ h.text_start) × (m ≤ h.marks_start) × AreInOrder h.text_end h.marks_end hs u n

-- the lines of a part, whose texts and marks these are
abbrev pub IsPart : List ℕ → List TokenMark → List Held → Type 0
IsPart bytes marks hs = AreHeld bytes marks hs × AreInOrder 0 0 hs (length bytes) (length marks)

-- the line, where its text and its marks are copied
abbrev pub moved : Shift → Held → Held
moved s h = record {
  text_start = s.text_to + (h.text_start - s.text_from);
  text_end = s.text_to + (h.text_end - s.text_from);
  marks_start = s.marks_to + (h.marks_start - s.marks_from);
  marks_end = s.marks_to + (h.marks_end - s.marks_from);
  char_count = h.char_count;
  end = h.end;
}

-- no place of the line comes before those that are copied, and each has a number of 32 bits where it is copied
pub record IsMovable (s : Shift) (h : Held) : Type 0 where
  pub text_from : s.text_from ≤ h.text_start
  pub text_order : h.text_start ≤ h.text_end
  pub text_fits : s.text_to + (h.text_end - s.text_from) < 2 ^ 32
  pub marks_from : s.marks_from ≤ h.marks_start
  pub marks_order : h.marks_start ≤ h.marks_end
  pub marks_fits : s.marks_to + (h.marks_end - s.marks_from) < 2 ^ 32

-- the line's text stands behind a place
pub record IsBehind (place : ℕ) (h : Held) : Type 0 where
  pub from : place ≤ h.text_start
  pub order : h.text_start ≤ h.text_end

-- the line stands as far behind one place as another line does behind another, and ends alike
pub record IsAlike (place there : ℕ) (h k : Held) : Type 0 where
  pub text_start : h.text_start - place ≡ k.text_start - there
  pub text_end : h.text_end - place ≡ k.text_end - there
  pub end : h.end ≡ k.end

-- so many of these lines stand as far behind one place as those at their places among others behind another, and end alike
abbrev pub AreAlike : ℕ → ℕ → List Held → List Held → ℕ → Type 0
AreAlike place there hs ks n = (i : ℕ) → i < n → (h k : Held) → h ≡ slice_index_or hs i h → k ≡ slice_index_or ks i k → IsAlike place there h k
