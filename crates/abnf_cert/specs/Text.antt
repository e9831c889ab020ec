-- The text of a certificate.
use Rattle.std.specs.Prelude.{ℕ, suc, List, [], ◌∷◌, ◌++◌}
use Rattle.std.specs.Fmt.{decimal}
use Rattle.abnf_cert.specs.declared.entry.Entry.{Entry}
use Rattle.abnf_cert.specs.declared.entry.Entry.TheVariants.{Nothing, Least}

-- the line of entry n: its number, and a dash or its length, height and choice, all in decimal, with one blank between, and
-- LF
abbrev pub entry_line : ℕ → Entry → List ℕ
entry_line n Nothing = decimal n ++ 32 ∷ 45 ∷ 10 ∷ []
entry_line n (Least l h c) =
    decimal n ++ 32 ∷ [] ++ (decimal l ++ 32 ∷ [] ++ (decimal h ++ 32 ∷ [] ++ (decimal c ++ 10 ∷ [])))

-- the lines of entries, the first of which is entry n
abbrev pub lines_from : ℕ → List Entry → List ℕ
lines_from n [] = []
lines_from n (e ∷ es) = entry_line n e ++ lines_from (suc n) es

-- the text of a certificate: a line for each entry, from number 0 on, each ended by LF
abbrev pub cert_text : List Entry → List ℕ
cert_text es = lines_from 0 es
