-- How the program ends: its status, its line on standard error, and which ending it is by how the files went.
use Rattle.std.specs.Prelude.{ℕ, Bool, true, false, ◌==◌, List, [], ◌∷◌, ◌++◌, codes, if◌then◌else◌}
use Rattle.std.specs.List.{list_any}
use Rattle.text_files.specs.declared.file.FileFault.{FileFault}
use Rattle.text_files.specs.declared.file.FileFault.TheVariants as file
use Rattle.findings_text.specs.declared.outcome.Outcome.{Outcome}
use Rattle.findings_text.specs.declared.outcome.Outcome.TheVariants as o
use Rattle.findings_files.specs.declared.ending.Ending.{Ending}
use Rattle.findings_files.specs.declared.ending.Ending.TheVariants as e

-- the exit status of the process
abbrev pub status_of : Ending → ℕ
status_of e.Good = 0
status_of e.Found = 1
status_of e.NotRead = 2
status_of e.WriteFailed = 2
status_of e.Usage = 5
status_of e.OutOfMemory = 6

-- the line on standard error, empty for none
abbrev pub line_of : Ending → List ℕ
line_of e.Good = []
line_of e.Found = []
line_of e.NotRead = []
line_of e.WriteFailed = codes "write failed"
line_of e.Usage = codes "usage: abnf_findings [--strict | --rules | --grammar] [--with FILE].. [--format abnf | markdown | xml | text] FILE.."
line_of e.OutOfMemory = codes "out of memory"

-- the line on standard error for a file with this name that can't be used
abbrev pub line_of_fault : FileFault → List ℕ → List ℕ
line_of_fault file.CannotRead name = codes "cannot read " ++ name
line_of_fault file.NotText name = codes "not a text: " ++ name
line_of_fault file.Memory name = codes "out of memory"

-- an argument is an option and no file: a hyphen and more
abbrev pub is_option : List ℕ → Bool
is_option [] = false
is_option (b ∷ []) = false
is_option (b ∷ c ∷ bs) = b == 45

-- ---- by how the files went

-- the file can't be read or isn't a text
abbrev pub is_not_read : Outcome → Bool
is_not_read o.Clean = false
is_not_read o.Warnings = false
is_not_read o.Errors = false
is_not_read o.NotRead = true

-- a file isn't to pass: it has an error, or a warning where it is strict
abbrev pub is_faulty : Bool → Outcome → Bool
is_faulty strict o.Clean = false
is_faulty strict o.Warnings = strict
is_faulty strict o.Errors = true
is_faulty strict o.NotRead = false

-- The ending of a run over files that went so: a file that isn't read counts first, then one that isn't to pass, which is one
-- with an error, and where it is strict one with warnings too.
abbrev pub ending_of : Bool → List Outcome → Ending
ending_of strict outcomes = if list_any is_not_read outcomes then e.NotRead else (if list_any (is_faulty strict) outcomes then e.Found else e.Good)
