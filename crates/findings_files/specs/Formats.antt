-- What the files are written in that are read, and what is said of a draft in XML that is at fault.
use Rattle.std.specs.Prelude.{◌≡◌, ℕ, List, [], ◌∷◌, ◌++◌, Option, Some, None, codes, if◌then◌else◌}
use Rattle.std.specs.Str.{bytes_eq}
use Rattle.ls_text.specs.Lines.{units}
use Rattle.ls_text.specs.Positions.{position_of}
use Rattle.ls_text.specs.declared.position.Encoding.TheVariants.{Utf32}
use Rattle.xml_blocks.specs.declared.fault.XmlFault.{XmlFault}
use Rattle.xml_blocks.specs.Faults.{fault_offset, fault_words}
use Rattle.text_files.specs.Names.{has_ending, is_markdown}
use Rattle.findings_text.specs.declared.outcome.Outcome.TheVariants.{Errors}
use Rattle.findings_text.specs.declared.print.Printed.{Printed}
use Rattle.findings_text.specs.Places.{place_text}
use Rattle.findings_files.specs.declared.format.Format.{Format}
use Rattle.findings_files.specs.declared.format.Format.TheVariants.{Abnf, Markdown, Text, Xml}

-- what a file is written in, by the ending of its name: a draft in Markdown (`is_markdown`), one in RFCXML (`.xml`), a published text
-- (`.txt`), or else a grammar
abbrev pub format_by_name : List ℕ → Format
format_by_name name =
    if is_markdown name then Markdown
    else (if has_ending (codes ".xml") name then Xml else (if has_ending (codes ".txt") name then Text else Abnf))

-- the format that is named `abnf`, `markdown`, `xml` or `text`
abbrev pub format_named : List ℕ → Option Format
format_named name =
    if bytes_eq name (codes "abnf") then Some Abnf
    else (if bytes_eq name (codes "markdown") then Some Markdown
    else (if bytes_eq name (codes "xml") then Some Xml else (if bytes_eq name (codes "text") then Some Text else None)))

-- the line of a draft in XML that is at fault
abbrev pub xml_fault_line : List ℕ → List ℕ → XmlFault → List ℕ
xml_fault_line file text fault =
    file ++ place_text (position_of (units Utf32) text (fault_offset fault)) ++ codes "error: " ++ fault_words fault ++ (codes " [xml]" ++ 10 ∷ [])

-- This is printed of a draft in XML that is at fault: the line of the fault, which is an error.
abbrev pub IsPrintedFault : List ℕ → List ℕ → XmlFault → Printed → Type 0
IsPrintedFault file text fault printed = (printed.lines ≡ xml_fault_line file text fault) × (printed.outcome ≡ Errors)
