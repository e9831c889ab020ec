-- The blocks of ABNF in a draft in RFCXML, as XML 1.0 (fifth edition) and RFC 7991 have them. Only comments, CDATA sections, tags and
-- references are looked at.
use Rattle.std.specs.Prelude.{◌≡◌, ℕ, zero, suc, ◌+◌, ◌*◌, ◌-◌, Bool, true, false, not, ◌&&◌, ◌||◌, ◌==◌, nat_le, nat_lt, ◌⊎◌, Option, Some, None, Result, Ok, Err, List, [], ◌∷◌, ◌++◌, length, take, drop, slice_index, if◌then◌else◌}
use Rattle.std.specs.Option.{option_map, is_some}
use Rattle.std.specs.List.{prefix_len}
use Rattle.std.specs.Char.{digit_value, is_digit, is_ascii_alphabetic, to_ascii_lowercase}
use Rattle.origins.specs.Origins.{Sourced, SourcedBlock, from, gathered_grammar}
use Rattle.xml_blocks.specs.declared.fault.XmlFault.{XmlFault}
use Rattle.xml_blocks.specs.declared.fault.XmlFault.TheVariants.{BlockWithoutEnd, CommentWithoutEnd, SectionWithoutEnd, TagWithoutEnd, BadReference, Memory}
use Rattle.xml_blocks.specs.declared.piece.Kind.{Kind}
use Rattle.xml_blocks.specs.declared.piece.Kind.TheVariants.{Text, Comment, Section, Tag, Reference}
use Rattle.xml_blocks.specs.declared.piece.Piece.{Piece}
use Rattle.xml_blocks.specs.declared.tag.Element.{Element}
use Rattle.xml_blocks.specs.declared.tag.Element.TheVariants.{Sourcecode, Artwork}
use Rattle.xml_blocks.specs.declared.gather.Open.{Open}

-- ---- texts

-- the text begins with this mark
unfoldable pub begins_with_mark : List ℕ → List ℕ → Bool
begins_with_mark [] t = true
begins_with_mark (m ∷ ms) [] = false
begins_with_mark (m ∷ ms) (c ∷ t) = c == m && begins_with_mark ms t

-- how many characters come before a mark, if it comes
unfoldable pub until : List ℕ → List ℕ → Option ℕ
until mark [] = None
until mark (c ∷ t) = if begins_with_mark mark (c ∷ t) then Some 0 else option_map suc (until mark t)

-- white space, as XML section 2.3 has it: SP, HTAB, LF or CR
abbrev pub is_space : ℕ → Bool
is_space c = c == 32 || c == 9 || c == 10 || c == 13

-- a text without the white space at its front
abbrev pub without_space : List ℕ → List ℕ
without_space t = drop (prefix_len is_space t) t

-- `"` or `'`
abbrev pub is_quote : ℕ → Bool
is_quote c = c == 34 || c == 39

-- ---- tags, XML section 3.1

-- the quote that is open behind a character
abbrev pub open_quote : Option ℕ → ℕ → Option ℕ
open_quote None c = if is_quote c then Some c else None
open_quote (Some q) c = if c == q then None else Some q

-- a `>` outside of quotes
abbrev pub closes_tag : Option ℕ → ℕ → Bool
closes_tag quote c = c == 62 && not (is_some quote)

-- How many characters a text has up to the first `>` outside of quotes, and with it. Of the text at hand a quote may be open.
unfoldable pub quoted_len : Option ℕ → List ℕ → Option ℕ
quoted_len quote [] = None
quoted_len quote (c ∷ t) = if closes_tag quote c then Some 1 else option_map suc (quoted_len (open_quote quote c) t)

-- how many characters a tag has behind its `<`: quotes count behind a letter alone
abbrev pub tag_len : List ℕ → Option ℕ
tag_len t = if is_ascii_alphabetic (slice_index t 0) then quoted_len None t else option_map suc (until (62 ∷ []) t)

-- `abnf` in any case of letters
abbrev pub begins_abnf_word : List ℕ → Bool
begins_abnf_word t =
    to_ascii_lowercase (slice_index t 0) == 97 && to_ascii_lowercase (slice_index t 1) == 98 && to_ascii_lowercase (slice_index t 2) == 110 && to_ascii_lowercase (slice_index t 3) == 102

-- a value in quotes that is `abnf`
abbrev pub is_abnf_value : List ℕ → Bool
is_abnf_value t = is_quote (slice_index t 0) && begins_abnf_word (drop 1 t) && slice_index t 5 == slice_index t 0

-- `type`, `=` and such a value, with white space around the `=`: the attribute `type` of RFC 7991 sections 2.48 and 2.5
abbrev pub is_abnf_type : List ℕ → Bool
is_abnf_type t =
    let behind = without_space (drop 4 t) in
    begins_with_mark (116 ∷ 121 ∷ 112 ∷ 101 ∷ []) t && slice_index behind 0 == 61 && is_abnf_value (without_space (drop 1 behind))

-- such an attribute begins behind white space outside of quotes
abbrev pub begins_type : Option ℕ → ℕ → List ℕ → Bool
begins_type quote c t = not (is_some quote) && is_space c && is_abnf_type t

-- whether a text has such an attribute; a quote may be open
unfoldable pub has_abnf_type : Option ℕ → List ℕ → Bool
has_abnf_type quote [] = false
has_abnf_type quote (c ∷ t) = begins_type quote c t || has_abnf_type (open_quote quote c) t

-- the tag of an empty element, which ends in `/>`
abbrev pub is_empty_element : List ℕ → Bool
is_empty_element t = slice_index t (length t - 2) == 47

-- the name of an element: `sourcecode` or `artwork` (RFC 7991 sections 2.48 and 2.5)
abbrev pub element_name : Element → List ℕ
element_name Sourcecode = 115 ∷ 111 ∷ 117 ∷ 114 ∷ 99 ∷ 101 ∷ 99 ∷ 111 ∷ 100 ∷ 101 ∷ []
element_name Artwork = 97 ∷ 114 ∷ 116 ∷ 119 ∷ 111 ∷ 114 ∷ 107 ∷ []

-- how many characters the name of an element has
abbrev pub name_len : Element → ℕ
name_len Sourcecode = 10
name_len Artwork = 7

-- a start tag without its `<` has the name of this element, behind which comes white space: without it there is no attribute
abbrev pub is_tag_of : Element → List ℕ → Bool
is_tag_of element t = begins_with_mark (element_name element) t && is_space (slice_index t (name_len element))

-- the element `sourcecode` or `artwork` of a tag without its `<`, if its `type` is `abnf`, be it empty or not
abbrev pub block_element : List ℕ → Option Element
block_element t =
    if has_abnf_type None t then (if is_tag_of Sourcecode t then Some Sourcecode else (if is_tag_of Artwork t then Some Artwork else None))
    else None

-- the element that a tag without its `<` begins, if it is a block of ABNF and isn't empty
abbrev pub opening_element : List ℕ → Option Element
opening_element t = if is_empty_element t then None else block_element t

-- the tag without its `<` is the end tag of this element
abbrev pub is_end_tag : Element → List ℕ → Bool
is_end_tag element t =
    slice_index t 0 == 47 && begins_with_mark (element_name element) (drop 1 t) && slice_index (without_space (drop (name_len element) (drop 1 t))) 0 == 62

-- ---- references, XML sections 4.1 and 4.6

-- no surrogate
abbrev pub is_scalar : ℕ → Bool
is_scalar c = nat_lt c 0xD800 || nat_lt 0xDFFF c

-- a number with a digit more, if it is at most 0x10FFFF
abbrev pub value_with_digit : ℕ → ℕ → ℕ → Option ℕ
value_with_digit value base c = if is_digit c base && nat_le (value * base + digit_value c) 0x10FFFF then Some (value * base + digit_value c) else None

-- the character with a number, which so many characters name
abbrev pub named_value : ℕ → ℕ → Option (ℕ × ℕ)
named_value value count = if is_scalar value then Some (value, count) else None

-- the value behind another, if there is one
abbrev pub with_value : Option ℕ → (ℕ → Option (ℕ × ℕ)) → Option (ℕ × ℕ)
with_value None f = None
with_value (Some n) f = f n

-- The character whose number has these digits up to a `;`, and how many characters there are with the `;`. Of the number so much has
-- come.
unfoldable pub number : ℕ → ℕ → List ℕ → Option (ℕ × ℕ)
number base value [] = None
number base value (c ∷ t) =
    if c == 59 then named_value value 1 else with_value (value_with_digit value base c) (λ more. option_map (λ r. (r.0, suc r.1)) (number base more t))

-- the character whose number has these digits, at least one, up to a `;`, behind so many characters, and how many characters
-- all are
abbrev pub numbered_value : ℕ → ℕ → List ℕ → Option (ℕ × ℕ)
numbered_value base front t = if is_digit (slice_index (drop front t) 0) base then option_map (λ r. (r.0, r.1 + front)) (number base 0 (drop front t)) else None

-- `&#x` or `&#` with a number, here without the `&`
abbrev pub by_number : List ℕ → Option (ℕ × ℕ)
by_number t = if begins_with_mark (35 ∷ 120 ∷ []) t then numbered_value 16 2 t else (if begins_with_mark (35 ∷ []) t then numbered_value 10 1 t else None)

-- The same of a name that drafts have for a space (U+00A0) or a hyphen (U+2011) at which no line ends, for no space (U+200B), and for
-- a place at which no line ends (U+2060): `nbsp;`, `nbhy;`, `zwsp;` and `wj;`. No token of ABNF has such a character, but comments and
-- prose may.
abbrev pub by_name : List ℕ → Option (ℕ × ℕ)
by_name t =
    if begins_with_mark (110 ∷ 98 ∷ 115 ∷ 112 ∷ 59 ∷ []) t then Some (0xA0, 5)
    else (if begins_with_mark (110 ∷ 98 ∷ 104 ∷ 121 ∷ 59 ∷ []) t then Some (0x2011, 5)
    else (if begins_with_mark (122 ∷ 119 ∷ 115 ∷ 112 ∷ 59 ∷ []) t then Some (0x200B, 5)
    else (if begins_with_mark (119 ∷ 106 ∷ 59 ∷ []) t then Some (0x2060, 3) else by_number t)))

-- The reference that stands here without its `&`: its character, and how many characters it has. By name there are `&lt;`, `&gt;`,
-- `&amp;`, `&quot;` and `&apos;` (XML section 4.6), and those of drafts.
abbrev pub reference : List ℕ → Option (ℕ × ℕ)
reference t =
    if begins_with_mark (108 ∷ 116 ∷ 59 ∷ []) t then Some (60, 3)
    else (if begins_with_mark (103 ∷ 116 ∷ 59 ∷ []) t then Some (62, 3)
    else (if begins_with_mark (97 ∷ 109 ∷ 112 ∷ 59 ∷ []) t then Some (38, 4)
    else (if begins_with_mark (113 ∷ 117 ∷ 111 ∷ 116 ∷ 59 ∷ []) t then Some (34, 5)
    else (if begins_with_mark (97 ∷ 112 ∷ 111 ∷ 115 ∷ 59 ∷ []) t then Some (39, 5) else by_name t))))

-- ---- pieces of a draft: each has a first character and so many more

-- a piece with so many characters more, and these, or else a fault
abbrev pub piece_of : Kind → XmlFault → Option ℕ → ℕ → Result Piece XmlFault
piece_of kind fault None front = Err fault
piece_of kind fault (Some n) front = Ok (record { kind = kind; more = n + front })

-- What `<` begins, of which this stands behind it: a comment `<!--` up to `-->` (XML section 2.5), a section `<![CDATA[` up to `]]>`
-- (section 2.7), or else a tag.
abbrev pub markup : ℕ → List ℕ → Result Piece XmlFault
markup at t =
    if begins_with_mark (33 ∷ 45 ∷ 45 ∷ []) t then piece_of Comment (CommentWithoutEnd at) (until (45 ∷ 45 ∷ 62 ∷ []) (drop 3 t)) 6
    else (if begins_with_mark (33 ∷ 91 ∷ 67 ∷ 68 ∷ 65 ∷ 84 ∷ 65 ∷ 91 ∷ []) t then piece_of Section (SectionWithoutEnd at) (until (93 ∷ 93 ∷ 62 ∷ []) (drop 8 t)) 11
    else piece_of Tag (TagWithoutEnd at) (tag_len t) 0)

-- what `&` begins: a reference, or a fault where it is none
abbrev pub referred_piece : ℕ → Option (ℕ × ℕ) → Result Piece XmlFault
referred_piece at None = Err (BadReference at)
referred_piece at (Some r) = Ok (record { kind = Reference r.0; more = r.1 })

-- a character that begins no markup, and in a block no reference
abbrev pub is_plain_char : Bool → ℕ → Bool
is_plain_char in_block c = not (c == 60) && not (in_block && c == 38)

-- what stands at an offset, by its first character and what stands behind it: a comment, a section, a tag, in a block a
-- reference, or characters
abbrev pub piece_at : Bool → ℕ → ℕ → List ℕ → Result Piece XmlFault
piece_at in_block at c t =
    if c == 60 then markup at t
    else (if in_block && c == 38 then referred_piece at (reference t) else Ok (record { kind = Text c; more = prefix_len (is_plain_char in_block) t }))

-- what a section has between `<![CDATA[` and `]]>`, by what it has behind its `<`
abbrev pub section_text : List ℕ → List ℕ
section_text t = take (length t - 11) (drop 8 t)

-- the characters of a block that a piece stands for, by what it has behind its first character
abbrev pub piece_content : Kind → ℕ → List ℕ → List Sourced
piece_content (Text c) at t = (c, at) ∷ from (at + 1) t
piece_content Comment at t = []
piece_content Section at t = from (at + 9) (section_text t)
piece_content Tag at t = []
piece_content (Reference c) at t = (c, at) ∷ []

-- ---- blocks, RFC 7991 sections 2.48 and 2.5

-- a block that is open, and its content so far
abbrev pub Opened : Type 0
Opened = Open × List Sourced

-- whether a piece is the end tag of an element
abbrev pub closes_element : Element → Kind → List ℕ → Bool
closes_element element Tag t = is_end_tag element t
closes_element element (Text c) t = false
closes_element element Comment t = false
closes_element element Section t = false
closes_element element (Reference c) t = false

-- the block that a piece at an offset begins
abbrev pub opened_by : Kind → ℕ → List ℕ → Option Open
opened_by Tag at t = option_map (λ e. record { element = e; begin = at }) (opening_element t)
opened_by (Text c) at t = None
opened_by Comment at t = None
opened_by Section at t = None
opened_by (Reference c) at t = None

-- the block that is open behind a piece, and the block that ended with it
abbrev pub behind_piece : Option Opened → Kind → ℕ → List ℕ → Option Opened × List SourcedBlock
behind_piece None kind at t = (option_map (λ o. (o, [])) (opened_by kind at t), [])
behind_piece (Some opened) kind at t =
    if closes_element (opened.0).element kind t then (None, record { content = opened.1; end = at } ∷ [])
    else (Some (opened.0, opened.1 ++ piece_content kind at t), [])

-- what can be read of a draft: the blocks in front of its first fault, and that fault, if it has one
pub record Front : Type 0 where
  pub blocks : List SourcedBlock
  pub fault : Option XmlFault

-- blocks before what is read behind them
abbrev pub put_before : List SourcedBlock → Front → Front
put_before bs rest = record { blocks = bs ++ rest.blocks; fault = rest.fault }

-- At the end of the draft no block is open. One that is has no end tag: it is at fault, and doesn't count.
abbrev pub at_end : Option Opened → Front
at_end None = record { blocks = []; fault = None }
at_end (Some opened) = record { blocks = []; fault = Some (BlockWithoutEnd (opened.0).begin) }

-- the block that is open, if there is one, with its content so far: it ends at this offset
abbrev pub ended_at : Option Opened → ℕ → List SourcedBlock
ended_at None at = []
ended_at (Some opened) at = record { content = opened.1; end = at } ∷ []

-- what is read from a piece on; a fault in its place ends the block that is open, and the reading
abbrev pub from_piece_on : Option Opened → ℕ → Result Piece XmlFault → (Piece → Front) → Front
from_piece_on state at (Ok piece) f = f piece
from_piece_on state at (Err fault) f = record { blocks = ended_at state at; fault = Some fault }

-- What can be read of a text that begins at an offset. A block may be open, and so many characters are of a piece that was read
-- already.
unfoldable pub element_front : Option Opened → ℕ → ℕ → List ℕ → Front
element_front state read at [] = at_end state
element_front state (suc read) at (c ∷ t) = element_front state read (suc at) t
element_front state zero at (c ∷ t) =
    from_piece_on state at (piece_at (is_some state) at c t) (λ piece.
    let next = behind_piece state piece.kind at (take piece.more t) in
    put_before next.1 (element_front next.0 piece.more (suc at) t))

-- the blocks of ABNF in a draft in RFCXML, in front of its first fault
abbrev pub front_blocks : List ℕ → List SourcedBlock
front_blocks draft = (element_front None 0 0 draft).blocks

-- the first fault of such a draft, if it has one
abbrev pub first_xml_fault : List ℕ → Option XmlFault
first_xml_fault draft = (element_front None 0 0 draft).fault

-- blocks, unless there is a fault
abbrev pub unless_fault : Option XmlFault → List SourcedBlock → Result (List SourcedBlock) XmlFault
unless_fault None bs = Ok bs
unless_fault (Some fault) bs = Err fault

-- the blocks of ABNF in a draft in RFCXML, or its first fault
abbrev pub xml_blocks : List ℕ → Result (List SourcedBlock) XmlFault
xml_blocks draft = unless_fault (first_xml_fault draft) (front_blocks draft)

-- the grammar of the blocks behind some characters, or the fault
abbrev pub grammar_behind : List Sourced → Result (List SourcedBlock) XmlFault → Result (List Sourced) XmlFault
grammar_behind front (Ok bs) = Ok (front ++ gathered_grammar bs)
grammar_behind front (Err fault) = Err fault

-- what is gathered from a draft: the grammar of its blocks or its first fault, unless memory was refused
abbrev pub IsGathered : List ℕ → Result (List Sourced) XmlFault → Type 0
IsGathered draft gathered = (gathered ≡ Err Memory) ⊎ (gathered ≡ grammar_behind [] (xml_blocks draft))
