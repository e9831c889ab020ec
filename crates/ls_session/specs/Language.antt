-- What a document is written in, by the name of its language and by its uri (LSP 3.17, "TextDocumentItem").
use Rattle.std.specs.Prelude.{ℕ, List, Option, Some, None, bytes_eq, codes, if◌then◌else◌}
use Rattle.text_files.specs.Names.{has_ending, is_markdown}
use Rattle.ls_text.specs.declared.position.Encoding.{Encoding}
use Rattle.ls_text.specs.declared.position.Encoding.TheVariants as encoding
use Rattle.ls_text.specs.declared.position.Units.{Units}
use Rattle.ls_text.specs.declared.position.Units.TheVariants.{Utf8, Utf16, Utf32}
use Rattle.ls_session.specs.declared.language.Format.{Format}
use Rattle.ls_session.specs.declared.language.Format.TheVariants.{Abnf, Markdown, Xml}

-- What a language's name says, if it is one of these three; names are compared byte for byte (LSP 3.17,
-- "TextDocumentItem": `languageId`).
abbrev pub format_of_language : List ℕ → Option Format
format_of_language language =
    if bytes_eq language (codes "abnf") then Some Abnf
    else if bytes_eq language (codes "markdown") then Some Markdown
    else if bytes_eq language (codes "xml") then Some Xml
    else None

-- what the ending of a uri says: a draft in Markdown (`is_markdown`), one in RFCXML (`.xml`), or else a grammar
abbrev pub by_ending : List ℕ → Format
by_ending uri = if is_markdown uri then Markdown else (if has_ending (codes ".xml") uri then Xml else Abnf)

-- how a document of this format is read, where positions count these units
abbrev pub encoding_for : Format → Units → Encoding
encoding_for Abnf Utf8 = encoding.Utf8
encoding_for Abnf Utf16 = encoding.Utf16
encoding_for Abnf Utf32 = encoding.Utf32
encoding_for Markdown units = encoding.Markdown units
encoding_for Xml units = encoding.Xml units
