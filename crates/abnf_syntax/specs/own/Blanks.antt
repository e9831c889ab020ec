-- The bytes at the front of a line, and the lines at the front of a text.
use Rattle.std.specs.Prelude.{◌≡◌, ℕ, ◌<◌, ◌≤◌, true, false, List, [], length, slice_index, slice_index_or}
use Rattle.abnf_token.specs.Classes.{Text, is_blank_byte}
use Rattle.abnf_syntax.specs.declared.sheet.Top.{Top}
use Rattle.abnf_syntax.specs.Blocks.{HasNoContent, indent, is_content}

-- the bytes before this one are SP and HTAB
abbrev pub AreBlanks : Text → ℕ → Type 0
AreBlanks line n = (k : ℕ) → k < n → is_blank_byte (slice_index line k) ≡ true

-- this byte of the line is the first that is neither SP nor HTAB
abbrev pub IsFirstOther : Text → ℕ → Type 0
IsFirstOther line n = (n < length line) × (is_blank_byte (slice_index line n) ≡ false) × AreBlanks line n

-- This is the first line with content of those from the one place up to the other, and its indent.
pub record IsFirstContent (ls : List Text) (from to : ℕ) (top : Top) : Type 0 where
  pub reached : from ≤ top.line
  pub within : top.line < to
  pub before : HasNoContent ls from top.line
  pub content : is_content (slice_index_or ls top.line []) ≡ true
  pub is : top.indent ≡ indent (slice_index_or ls top.line [])
