-- How far a line of a text has been counted. Only contracts of private functions cite this.
use Rattle.std.specs.Prelude.{◌≡◌, ◌≤◌, ℕ, List, ◌++◌, Some, length, sum_by}
use Rattle.std.specs.List.{slice_get}
use Rattle.std.specs.Str.{chars, encode_utf8_all, IsUtf8}
use Rattle.ls_text.specs.Lines.{lines, max_bytes}
use Rattle.ls_text.specs.declared.ruler.Counted.{Counted}

-- What has been counted stands at the front of the line, with so many bytes, and so many units of this width; the rest stands
-- behind it.
pub record IsCountedIn (width : ℕ → ℕ) (line : List ℕ) (counted : Counted) : Type 0 where
  pub front : List ℕ
  pub parts : line ≡ front ++ chars counted.rest.now
  pub bytes : counted.bytes ≡ length (encode_utf8_all front)
  pub units : counted.units ≡ sum_by width front
  pub utf8 : IsUtf8 counted.rest.now
  pub small : length (encode_utf8_all line) ≤ max_bytes

-- So far this line of the text has been counted, by its number.
pub record IsCountedAt (width : ℕ → ℕ) (text : List ℕ) (at : ℕ) (counted : Counted) : Type 0 where
  pub line : List ℕ
  pub here : slice_get (lines text) at ≡ Some line
  pub so_far : IsCountedIn width line counted
