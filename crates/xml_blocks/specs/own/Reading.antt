-- How the pieces of a draft are read, one after another. No public contract cites this.
use Rattle.std.specs.Prelude.{◌≡◌, ℕ, Bool, nat_lt, ◌⊎◌, Option, Some, None, List, ◌++◌, if◌then◌else◌}
use Rattle.std.specs.Option.{option_map}
use Rattle.std.specs.List.{prefix_len}
use Rattle.origins.specs.Origins.{Sourced, gathered_grammar}
use Rattle.xml_blocks.specs.declared.fault.XmlFault.{XmlFault}
use Rattle.xml_blocks.specs.declared.gather.Open.{Open}
use Rattle.xml_blocks.specs.declared.piece.Kind.TheVariants.{Text}
use Rattle.xml_blocks.specs.declared.piece.Piece.{Piece}
use Rattle.xml_blocks.specs.declared.tag.Element.{Element}
use Rattle.xml_blocks.specs.Xml.{Front, Opened, has_abnf_type, is_plain_char}

-- what is read so far: the open block, if there is one, and what was gathered of it
abbrev pub reading_element : Option Open → List Sourced → Option Opened
reading_element current content = option_map (λ o. (o, content)) current

-- what is gathered behind some characters by what is read, and the fault
abbrev pub front_behind : List Sourced → Front → List Sourced × Option XmlFault
front_behind grammar front = (grammar ++ gathered_grammar front.blocks, front.fault)

-- a decimal or a hexadecimal number
abbrev pub IsBase : ℕ → Type 0
IsBase base = (base ≡ 10) ⊎ (base ≡ 16)

-- a byte that is a character
abbrev pub is_low : ℕ → Bool
is_low b = nat_lt b 128

-- an element of a tag without its `<`, if the attribute `type` is `abnf`
abbrev pub element_if_abnf : List ℕ → Element → Option Element
element_if_abnf t element = if has_abnf_type None t then Some element else None

-- a piece, if it is text, has all characters behind its first one that begin no markup, and in a block no reference
abbrev pub IsPieceOf : Bool → Piece → List ℕ → Type 0
IsPieceOf in_block piece t = (c : ℕ) → piece.kind ≡ Text c → piece.more ≡ prefix_len (is_plain_char in_block) t
