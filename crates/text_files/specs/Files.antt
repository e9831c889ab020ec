-- The files that are texts.
use Rattle.std.specs.Prelude.{◌≤◌, ℕ, List, length}
use Rattle.std.specs.Str.{IsUtf8}
use Rattle.ls_text.specs.Lines.{max_bytes}
use Rattle.ls_text.specs.declared.fault.TextFault.{TextFault}
use Rattle.ls_text.specs.declared.fault.TextFault.TheVariants as text
use Rattle.text_files.specs.declared.file.FileFault.{FileFault}
use Rattle.text_files.specs.declared.file.FileFault.TheVariants.{Memory, NotText}

-- the bytes of a grammar's file: a text in UTF-8, and at most 4,194,304 of them
pub record IsTextFile (bytes : List ℕ) : Type 0 where
  pub utf8 : IsUtf8 bytes
  pub small : length bytes ≤ max_bytes

-- what the fault of a text is for its file
abbrev pub fault_of_text : TextFault → FileFault
fault_of_text text.TooLarge = NotText
fault_of_text text.Memory = Memory
