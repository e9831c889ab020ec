-- The faults of a draft in RFCXML.
use Rattle.std.specs.Prelude.{ℕ, List, codes}
use Rattle.xml_blocks.specs.declared.fault.XmlFault.{XmlFault}
use Rattle.xml_blocks.specs.declared.fault.XmlFault.TheVariants.{BlockWithoutEnd, CommentWithoutEnd, SectionWithoutEnd, TagWithoutEnd, BadReference, Memory}

-- where a fault of a draft in XML stands, in characters
abbrev pub fault_offset : XmlFault → ℕ
fault_offset (BlockWithoutEnd at) = at
fault_offset (CommentWithoutEnd at) = at
fault_offset (SectionWithoutEnd at) = at
fault_offset (TagWithoutEnd at) = at
fault_offset (BadReference at) = at
fault_offset Memory = 0

-- a fault of a draft in XML, in a few words
abbrev pub fault_words : XmlFault → List ℕ
fault_words (BlockWithoutEnd at) = codes "block without an end tag"
fault_words (CommentWithoutEnd at) = codes "comment without an end"
fault_words (SectionWithoutEnd at) = codes "CDATA section without an end"
fault_words (TagWithoutEnd at) = codes "tag without an end"
fault_words (BadReference at) = codes "no reference to a character"
fault_words Memory = codes "out of memory"
