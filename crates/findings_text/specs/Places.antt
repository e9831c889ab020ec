-- How a place of a file is printed.
use Rattle.std.specs.Prelude.{ℕ, ◌+◌, List, ◌++◌, codes}
use Rattle.std.specs.Fmt.{decimal}
use Rattle.ls_text.specs.declared.position.Position.{Position}

-- what is counted from 0, printed from 1 behind a colon
abbrev pub counted_text : ℕ → List ℕ
counted_text n = codes ":" ++ decimal (n + 1)

-- the line and the column of a position, printed from 1, each behind a colon
abbrev pub place_text : Position → List ℕ
place_text at = counted_text at.line ++ counted_text at.character ++ codes ": "
