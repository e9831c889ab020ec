-- What a draft is written in, and what is read of it: its grammar, which is what of it is ABNF with the offset of each character in the
-- draft, and its fault.
use Rattle.std.specs.Prelude.{ℕ, Bool, not, ◌&&◌, bytes_eq, if◌then◌else◌, List, Option, None, Some, is_some}
use Rattle.ls_text.specs.declared.position.Encoding.{Encoding}
use Rattle.ls_text.specs.declared.position.Encoding.TheVariants as encoding
use Rattle.origins.specs.Origins.{Sourced, characters, gathered_grammar}
use Rattle.markdown_blocks.specs.Fences.{markdown_blocks}
use Rattle.xml_blocks.specs.Xml.{first_xml_fault, front_blocks}
use Rattle.xml_blocks.specs.declared.fault.XmlFault.{XmlFault}
use Rattle.draft_grammars.specs.declared.format.Format.{Format}
use Rattle.draft_grammars.specs.declared.format.Format.TheVariants.{Markdown, Xml}

-- what a draft is written in; none for a text that is a grammar itself
abbrev pub format_of : Encoding → Option Format
format_of encoding.Utf8 = None
format_of encoding.Utf16 = None
format_of encoding.Utf32 = None
format_of (encoding.Markdown counts) = Some Markdown
format_of (encoding.Xml counts) = Some Xml

-- what is read of a draft: its grammar, and its fault, if it has one
pub record Contents : Type 0 where
  pub grammar : List Sourced
  pub fault : Option XmlFault

-- The grammar is that of all blocks of ABNF. Those in XML are read up to the first fault.
abbrev pub contents_in : Format → List ℕ → Contents
contents_in Markdown draft = record { grammar = gathered_grammar (markdown_blocks draft); fault = None }
contents_in Xml draft = record { grammar = gathered_grammar (front_blocks draft); fault = first_xml_fault draft }

-- the grammar of a draft
abbrev pub grammar_in : Format → List ℕ → List Sourced
grammar_in format draft = (contents_in format draft).grammar

-- the fault of a draft
abbrev pub fault_in : Format → List ℕ → Option XmlFault
fault_in format draft = (contents_in format draft).fault

-- The grammar has this text, and there is a fault or none, as is said.
abbrev pub has_contents : Bool → Contents → List ℕ → Bool
has_contents at_fault contents text =
    (if at_fault then is_some contents.fault else not (is_some contents.fault)) && bytes_eq (characters contents.grammar) text
