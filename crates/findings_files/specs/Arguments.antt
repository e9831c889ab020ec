-- What the arguments of `abnf_findings` ask for.
use Rattle.std.specs.Prelude.{ℕ, Bool, true, false, ◌&&◌, List, [], ◌∷◌, ◌++◌, Option, Some, None, Result, Ok, Err, codes, fold, if◌then◌else◌}
use Rattle.std.specs.Str.{bytes_eq}
use Rattle.findings_files.specs.declared.ending.Ending.{Ending}
use Rattle.findings_files.specs.declared.ending.Ending.TheVariants.{Usage}
use Rattle.findings_files.specs.declared.format.Format.{Format}
use Rattle.findings_files.specs.Endings.{is_option}
use Rattle.findings_files.specs.Formats.{format_named}
use Rattle.findings_files.specs.declared.arguments.Arguments.{Arguments}
use Rattle.findings_files.specs.declared.arguments.Asked.{Asked}
use Rattle.findings_files.specs.declared.arguments.Asked.TheVariants as a
use Rattle.findings_files.specs.declared.arguments.Request.{Request}
use Rattle.findings_files.specs.declared.arguments.Request.TheVariants as r
use Rattle.findings_files.specs.declared.word.Word.{Word}
use Rattle.findings_files.specs.declared.word.Word.TheVariants as w
use Rattle.findings_files.specs.declared.step.Expected.{Expected}
use Rattle.findings_files.specs.declared.step.Expected.TheVariants as stage
use Rattle.findings_files.specs.declared.step.Step.{Step}
use Rattle.findings_files.specs.declared.step.Step.TheVariants.{Goes, Ends, Wrong}

-- the option that has this name
abbrev pub option_named : List ℕ → Option Word
option_named word =
    if bytes_eq word (codes "--strict") then Some w.Strict
    else (if bytes_eq word (codes "--rules") then Some w.Rules
    else (if bytes_eq word (codes "--grammar") then Some w.Grammar
    else (if bytes_eq word (codes "--format") then Some w.Format
    else (if bytes_eq word (codes "--with") then Some w.With
    else (if bytes_eq word (codes "--help") then Some w.Help
    else (if bytes_eq word (codes "--version") then Some w.Version
    else (if bytes_eq word (codes "--") then Some w.End else None)))))))

-- what an argument is that has no option's name: an unknown option where it begins with a hyphen and has more, else a file
abbrev pub else_file : Bool → Option Word → Word
else_file hyphen (Some option) = option
else_file true None = w.Unknown
else_file false None = w.File

-- which option an argument is by itself; another one that begins with a hyphen, but for the hyphen alone, is an unknown
-- option, and the rest are files
abbrev pub argument_word : List ℕ → Word
argument_word word = else_file (is_option word) (option_named word)

-- what is asked for where no argument says anything: the findings of no files
abbrev pub no_arguments : Arguments
no_arguments = record { asked = a.Findings; format = None; with = []; files = [] }

-- what was said so far, with one more file
abbrev pub file : Expected → Arguments → List ℕ → Step
file next arguments word = Goes next (record arguments { files = arguments.files ++ word ∷ [] })

-- an option that says what is asked of the files: one of these stands at most
abbrev pub asks_for : Asked → Asked → Arguments → Step
asks_for asked a.Findings arguments = Goes stage.Options (record arguments { asked = asked })
asks_for asked _ arguments = Wrong

-- `--format`, which stands once at most
abbrev pub awaits_format : Option Format → Arguments → Step
awaits_format None arguments = Goes stage.Format arguments
awaits_format (Some format) arguments = Wrong

-- an argument that stands where an option may stand
abbrev pub first_step : Word → Arguments → List ℕ → Step
first_step w.Strict arguments word = asks_for a.StrictFindings arguments.asked arguments
first_step w.Rules arguments word = asks_for a.Rules arguments.asked arguments
first_step w.Grammar arguments word = asks_for a.Grammar arguments.asked arguments
first_step w.Format arguments word = awaits_format arguments.format arguments
first_step w.With arguments word = Goes stage.With arguments
first_step w.Help arguments word = Ends r.Help
first_step w.Version arguments word = Ends r.Version
first_step w.End arguments word = Goes stage.Rest arguments
first_step w.Unknown arguments word = Wrong
first_step w.File arguments word = file stage.Files arguments word

-- the name behind `--format`
abbrev pub format_step : Option Format → Arguments → Step
format_step (Some format) arguments = Goes stage.Options (record arguments { format = Some format })
format_step None arguments = Wrong

-- the file behind `--with`
abbrev pub with_step : Word → Arguments → List ℕ → Step
with_step w.File arguments word = Goes stage.Options (record arguments { with = arguments.with ++ word ∷ [] })
with_step _ arguments word = Wrong

-- an argument behind a file: no option stands there
abbrev pub file_step : Word → Arguments → List ℕ → Step
file_step w.File arguments word = file stage.Files arguments word
file_step _ arguments word = Wrong

-- what an argument adds to what was said before it, by what may stand there: an option or a file, what stands behind
-- `--format` or `--with`, a file behind files, or anything behind `--`
abbrev pub next_step : Expected → Arguments → List ℕ → Step
next_step stage.Options arguments word = first_step (argument_word word) arguments word
next_step stage.Format arguments word = format_step (format_named word) arguments
next_step stage.With arguments word = with_step (argument_word word) arguments word
next_step stage.Files arguments word = file_step (argument_word word) arguments word
next_step stage.Rest arguments word = file stage.Rest arguments word

-- a grammar is printed as it stands in its file, and so with no others
abbrev pub fits_files : Asked → List (List ℕ) → Bool
fits_files a.Grammar (other ∷ others) = false
fits_files _ others = true

-- one file at least is named
abbrev pub names_file : List (List ℕ) → Bool
names_file [] = false
names_file (file ∷ files) = true

-- What is asked for where no argument is left: there must be a file, and what stands behind `--format` or `--with`; and a
-- grammar is printed with no others.
abbrev pub request_at_end : Expected → Arguments → Result Request Ending
request_at_end stage.Format arguments = Err Usage
request_at_end stage.With arguments = Err Usage
request_at_end _ arguments = if names_file arguments.files && fits_files arguments.asked arguments.with then Ok (r.Print arguments) else Err Usage

-- one argument more; behind what ends the reading, or is wrong, nothing counts
abbrev pub further : Step → List ℕ → Step
further (Goes stage arguments) word = next_step stage arguments word
further (Ends request) word = Ends request
further Wrong word = Wrong

-- what is asked for where the reading is so far: what is wrong is Usage
abbrev pub request_of_step : Step → Result Request Ending
request_of_step (Goes stage arguments) = request_at_end stage arguments
request_of_step (Ends request) = Ok request
request_of_step Wrong = Err Usage

-- where the reading is behind these arguments
abbrev pub read : List (List ℕ) → Step
read words = fold further (Goes stage.Options no_arguments) words

-- What the arguments ask for: help, the version, what is asked of files, or Usage. That comes where an argument is wrong,
-- nothing stands behind `--format` or `--with`, no file is named, or a grammar is to be printed with others.
abbrev pub request_of : List (List ℕ) → Result Request Ending
request_of words = request_of_step (read words)
