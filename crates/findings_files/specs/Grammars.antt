-- What is printed of the grammar of a file: its text.
use Rattle.std.specs.Prelude.{◌≡◌, ◌<◌, ◌^◌, ℕ, All, List, [], ◌∷◌, Result, Ok, Err, length}
use Rattle.std.specs.Str.{encode_utf8_all}
use Rattle.origins.specs.Origins.{Sourced, characters}
use Rattle.published_blocks.specs.Runs.{published_runs}
use Rattle.xml_blocks.specs.declared.fault.XmlFault.{XmlFault}
use Rattle.findings_text.specs.declared.outcome.Outcome.TheVariants.{Clean}
use Rattle.findings_text.specs.declared.print.Printed.{Printed}
use Rattle.findings_files.specs.declared.format.Format.{Format}
use Rattle.findings_files.specs.declared.format.Format.TheVariants.{Abnf, Text}
use Rattle.findings_files.specs.Contents.{IsGrammarIn}
use Rattle.findings_files.specs.Drafts.{IsPrintedWithout, outcome_without}
use Rattle.findings_files.specs.Formats.{IsPrintedFault}

-- This text is printed, and the file goes clean.
abbrev pub IsPrintedText : List ℕ → Printed → Type 0
IsPrintedText text printed = (printed.lines ≡ encode_utf8_all text) × (printed.outcome ≡ Clean)

-- This is printed of the grammar that was gathered from a file of this format, or of its fault: its characters, or, where nothing was
-- gathered, that it has none.
abbrev pub IsPrintedGrammarBy : Format → List ℕ → List ℕ → Result (List Sourced) XmlFault → Printed → Type 0
IsPrintedGrammarBy format file text (Ok []) printed = IsPrintedWithout format (outcome_without format) file text [] printed
IsPrintedGrammarBy format file text (Ok (c ∷ cs)) printed = IsPrintedText (characters (c ∷ cs)) printed
IsPrintedGrammarBy format file text (Err fault) printed = IsPrintedFault file text fault printed

-- This is printed of the grammar that is read of a file of this format, or of the fault of a draft in XML.
abbrev pub IsPrintedRead : Format → List ℕ → List ℕ → Printed → Type 0
IsPrintedRead format file text printed =
    (read : Result (List Sourced) XmlFault) × IsGrammarIn format text read × IsPrintedGrammarBy format file text read printed

-- This is printed of the grammar in a file of this format. A file that is a grammar is printed as it is. There is one such print-out
-- (`printed_grammars_exist`), and only one (`printed_grammars_are_unique`).
abbrev pub IsPrintedGrammarAs : Format → List ℕ → List ℕ → Printed → Type 0
IsPrintedGrammarAs Abnf file text printed = IsPrintedText text printed
IsPrintedGrammarAs format file text printed = IsPrintedRead format file text printed

-- each run of lines of a published text has fewer than 2^62 characters, as it has in each text of a file
abbrev pub HasSmallRuns : Format → List ℕ → Type 0
HasSmallRuns Text text = All (λ run. length run.block < 2 ^ 62) (published_runs text)
HasSmallRuns _ text = Unit {0}
