-- How an example is shown.
use Rattle.std.specs.Prelude.{ℕ, true, ◌&&◌, List, [], ◌∷◌, ◌++◌, flat_map, if◌then◌else◌, ◌==◌, nat_lt}
use Rattle.std.specs.Fmt.{digits}

-- visible characters and blanks, %x20 to %x7E, stand for themselves, a backslash twice; any other number H stands as `\x{H}`,
-- in upper-case hexadecimal
abbrev pub rendered : ℕ → List ℕ
rendered c =
    if c == 92 then 92 ∷ 92 ∷ []
    else if nat_lt 31 c && nat_lt c 127 then c ∷ []
    else 92 ∷ 120 ∷ 123 ∷ [] ++ digits 16 true c ++ 125 ∷ []

-- the text of an example: each of its characters, as it is shown
abbrev pub rendered_text : List ℕ → List ℕ
rendered_text characters = flat_map rendered characters
