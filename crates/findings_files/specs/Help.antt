-- What `--help` prints.
use Rattle.std.specs.Prelude.{ℕ, List, [], ◌∷◌, ◌++◌, codes, fold}
use Rattle.findings_files.specs.declared.ending.Ending.TheVariants.{Usage}
use Rattle.findings_files.specs.Endings.{line_of}

-- the lines below that of usage: what the program prints, and what each option does
abbrev pub options : List (List ℕ)
options =
    codes "Prints what is found in the ABNF grammars of files: of drafts and published RFCs too."
    ∷ codes "The file - is standard input."
    ∷ []
    ∷ codes "  --strict         warnings count as errors do for the exit status"
    ∷ codes "  --rules          prints the rules and their shortest strings instead"
    ∷ codes "  --grammar        prints the grammars themselves instead"
    ∷ codes "  --with FILE      the names that FILE defines are known; it may stand more than once"
    ∷ codes "  --format FORMAT  what each FILE is written in: abnf, markdown, xml or text"
    ∷ codes "  --               what follows are files, whatever their names are"
    ∷ codes "  --help           prints this"
    ∷ codes "  --version        prints the version"
    ∷ []

-- a text with one more line
abbrev pub with_help_line : List ℕ → List ℕ → List ℕ
with_help_line text line = text ++ (line ++ 10 ∷ [])

-- these lines, each with its end
abbrev pub with_lines : List (List ℕ) → List ℕ
with_lines lines = fold with_help_line [] lines

-- the line of usage, and a line for each option
abbrev pub help : List ℕ
help = with_lines (line_of Usage ∷ options)
