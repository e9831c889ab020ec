-- Texts that are too large.
use Rattle.std.specs.Prelude.{◌≡◌, ◌<◌, ℕ, List, length}
use Rattle.std.specs.Str.{IsUtf8, chars}
use Rattle.ls_text.specs.Lines.{max_bytes}
use Rattle.text_files.specs.declared.file.FileFault.{FileFault}
use Rattle.text_files.specs.declared.file.FileFault.TheVariants.{CannotRead, Memory, NotText}
use Rattle.origins.specs.Origins.{Sourced, characters}

-- this text has more bytes than a text may have, 4,194,304
pub record IsTextTooLarge (text : List ℕ) : Type 0 where
  pub bytes : List ℕ
  pub utf8 : IsUtf8 bytes
  pub are : chars bytes ≡ text
  pub large : max_bytes < length bytes

-- Why a text isn't made: it is too large, or memory was refused.
abbrev pub IsTextRefused : List ℕ → FileFault → Type 0
IsTextRefused text NotText = IsTextTooLarge text
IsTextRefused text Memory = Unit {0}
IsTextRefused text CannotRead = ⊥

-- Why nothing is printed of a file with this grammar.
abbrev pub RefusesPrint : List Sourced → FileFault → Type 0
RefusesPrint grammar fault = IsTextRefused (characters grammar) fault
