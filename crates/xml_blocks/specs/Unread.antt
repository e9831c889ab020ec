-- What may have to be said of a draft in RFCXML: which of its blocks of ABNF can't be read as they stand, since their text is in another file or
-- they have none, and which elements have no type, so that they may be ABNF too.
use Rattle.std.specs.Prelude.{ℕ, zero, suc, Bool, true, false, not, ◌&&◌, ◌||◌, ◌==◌, Option, Some, None, Result, Ok, Err, List, [], ◌∷◌, ◌++◌, length, take, drop, slice_index, if◌then◌else◌}
use Rattle.std.specs.Option.{is_some, option_map}
use Rattle.std.specs.List.{list_all}
use Rattle.origins.specs.Origins.{Sourced, aligned}
use Rattle.origins.specs.declared.unread.Aside.{Aside}
use Rattle.origins.specs.declared.unread.Unread.{Unread}
use Rattle.origins.specs.declared.unread.Lack.TheVariants.{Elsewhere, Empty, Untyped}
use Rattle.xml_blocks.specs.declared.fault.XmlFault.{XmlFault}
use Rattle.xml_blocks.specs.declared.gather.Open.{Open}
use Rattle.xml_blocks.specs.declared.piece.Kind.{Kind}
use Rattle.xml_blocks.specs.declared.piece.Kind.TheVariants.{Text, Comment, Section, Tag, Reference}
use Rattle.xml_blocks.specs.declared.piece.Piece.{Piece}
use Rattle.xml_blocks.specs.declared.tag.Element.{Element}
use Rattle.xml_blocks.specs.declared.tag.Element.TheVariants.{Sourcecode, Artwork}
use Rattle.xml_blocks.specs.declared.unread.Begun.{Begun}
use Rattle.xml_blocks.specs.declared.unread.Held.{Held}
use Rattle.xml_blocks.specs.declared.unread.Held.TheVariants.{Marked, Unmarked}
use Rattle.xml_blocks.specs.Xml.{block_element, begins_with_mark, element_name, closes_element, is_empty_element, is_space, name_len, open_quote, piece_at, piece_content, reference, section_text, without_space}

-- ---- attributes and elements

-- `src`: the attribute of RFC 7991 sections 2.48.4 and 2.5.8
abbrev pub src : List ℕ
src = 115 ∷ 114 ∷ 99 ∷ []

-- `type`: the attribute of RFC 7991 sections 2.48 and 2.5
abbrev pub type_word : List ℕ
type_word = 116 ∷ 121 ∷ 112 ∷ 101 ∷ []

-- an attribute of this name stands here: the name and `=`, with white space before the `=`
abbrev pub is_attribute : List ℕ → List ℕ → Bool
is_attribute name t = begins_with_mark name t && slice_index (without_space (drop (length name) t)) 0 == 61

-- it begins behind white space outside of quotes
abbrev pub begins_attribute : List ℕ → Option ℕ → ℕ → List ℕ → Bool
begins_attribute name quote c t = not (is_some quote) && is_space c && is_attribute name t

-- whether a text has it; a quote may be open
unfoldable pub has_attribute : List ℕ → Option ℕ → List ℕ → Bool
has_attribute name quote [] = false
has_attribute name quote (c ∷ t) = begins_attribute name quote c t || has_attribute name (open_quote quote c) t

-- a start tag without its `<` has the name of this element, behind which comes white space, or the tag ends
abbrev pub is_start : Element → List ℕ → Bool
is_start element t =
    let c = slice_index t (name_len element) in
    begins_with_mark (element_name element) t && (is_space c || c == 62)

-- the element `sourcecode` or `artwork` of a start tag without its `<`, whatever attributes it has
abbrev pub started_element : List ℕ → Option Element
started_element t = if is_start Sourcecode t then Some Sourcecode else (if is_start Artwork t then Some Artwork else None)

-- this element, unless it has one of these attributes or is empty: nothing says what its content is (RFC 7991 sections 2.48 and 2.5)
abbrev pub untyped_element : List ℕ → Option Element
untyped_element t = if has_attribute type_word None t || has_attribute src None t || is_empty_element t then None else started_element t

-- ---- blocks of ABNF

-- a piece is an element `xi:include`, for which a file stands (XInclude 1.0, section 3.1)
abbrev pub is_include : Kind → List ℕ → Bool
is_include Tag t = begins_with_mark (120 ∷ 105 ∷ 58 ∷ 105 ∷ 110 ∷ 99 ∷ 108 ∷ 117 ∷ 100 ∷ 101 ∷ []) t && is_space (slice_index t 10)
is_include (Text c) t = false
is_include Comment t = false
is_include Section t = false
is_include (Reference c) t = false

-- what stands in a block by a piece is white space, if anything; of tags nothing is read
abbrev pub is_bare : Kind → List ℕ → Bool
is_bare (Text c) t = is_space c && list_all is_space t
is_bare Comment t = true
is_bare Section t = list_all is_space (section_text t)
is_bare Tag t = true
is_bare (Reference c) t = is_space c

-- what can't be read at an offset, if this says so
abbrev pub if_elsewhere : Bool → ℕ → Option Unread
if_elsewhere says at = if says then Some (record { at = at; lack = Elsewhere }) else None

-- an empty block, in the same way
abbrev pub if_empty : Bool → ℕ → Option Unread
if_empty says at = if says then Some (record { at = at; lack = Empty }) else None

-- the block that is open behind a tag that stands for a block, unless the element is empty
abbrev pub begun_by : Element → ℕ → List ℕ → Option Held
begun_by element at t = if is_empty_element t then None else Some (Marked (record { element = element; begin = at; is_bare = not (has_attribute src None t) }))

-- what can't be read of the block of a tag: it has its text in another file, or no text
abbrev pub lacks_of : ℕ → List ℕ → Option Unread
lacks_of at t = if has_attribute src None t then Some (record { at = at; lack = Elsewhere }) else if_empty (is_empty_element t) at

-- an element without a type that begins at an offset
abbrev pub held_from : ℕ → Element → Held
held_from at element = Unmarked (record { element = element; begin = at })

-- the element that is open behind a tag, be it a block or without a type, and what can't be read of it
abbrev pub begins_by : Option Element → ℕ → List ℕ → Option Held × Option Unread
begins_by None at t = (option_map (held_from at) (untyped_element t), None)
begins_by (Some element) at t = (begun_by element at t, lacks_of at t)

-- the same behind a piece where no element is open
abbrev pub outside : Kind → ℕ → List ℕ → Option Held × Option Unread
outside Tag at t = begins_by (block_element t) at t
outside (Text c) at t = (None, None)
outside Comment at t = (None, None)
outside Section at t = (None, None)
outside (Reference c) at t = (None, None)

-- the same block behind a piece, in which nothing stands if nothing did, and if this says so
abbrev pub still_bare : Begun → Bool → Begun
still_bare begun says = record { element = begun.element; begin = begun.begin; is_bare = begun.is_bare && says }

-- the block that is open behind a piece of one, and what can't be read, or can't by this piece
abbrev pub inside : Begun → Kind → ℕ → List ℕ → Option Held × Option Unread
inside begun kind at t =
    if closes_element begun.element kind t then (None, if_empty begun.is_bare begun.begin)
    else (Some (Marked (still_bare begun (not (is_include kind t) && is_bare kind t))), if_elsewhere (is_include kind t) at)

-- ---- elements without a type

-- a piece begins an element `sourcecode` or `artwork`: no such element stands in another one
abbrev pub starts_element : Kind → List ℕ → Bool
starts_element Tag t = is_some (started_element t)
starts_element (Text c) t = false
starts_element Comment t = false
starts_element Section t = false
starts_element (Reference c) t = false

-- the element that is open at a character: one without a type is no longer, where a reference stands that can't be read
abbrev pub still_held : Option Held → ℕ → List ℕ → Option Held
still_held None c t = None
still_held (Some (Marked begun)) c t = Some (Marked begun)
still_held (Some (Unmarked opened)) c t = if c == 38 && not (is_some (reference t)) then None else Some (Unmarked opened)

-- an element without a type whose end tag begins at an offset, where its start tag begins, with its content as a grammar has it
abbrev pub untyped : Open → List Sourced → ℕ → Aside
untyped opened content end = record { unread = record { at = opened.begin; lack = Untyped }; text = aligned (record { content = content; end = end }) }

-- what can't be read, without a text
abbrev pub without_text : Option Unread → Option Aside
without_text None = None
without_text (Some unread) = Some (record { unread = unread; text = [] })

-- ---- what is read behind a piece

-- the element that is open, its content so far if it has no type, and what may have to be said
abbrev pub Behind : Type 0
Behind = Option Held × List Sourced × Option Aside

-- no content of an element without a type
abbrev pub no_content : Option Held × Option Unread → Behind
no_content next = (next.0, [], without_text next.1)

-- what is open behind a piece, and what may have to be said of what ends with it
abbrev pub open_behind : Option Held → List Sourced → Kind → ℕ → List ℕ → Behind
open_behind None content kind at t = no_content (outside kind at t)
open_behind (Some (Marked begun)) content kind at t = no_content (inside begun kind at t)
open_behind (Some (Unmarked opened)) content kind at t =
    if closes_element opened.element kind t then (None, [], Some (untyped opened content at))
    else (if starts_element kind t then no_content (outside kind at t) else (Some (Unmarked opened), content ++ piece_content kind at t, None))

-- as a list
abbrev pub listed : Option Aside → List Aside
listed None = []
listed (Some aside) = aside ∷ []

-- what may have to be said from a piece on, and nothing from a fault on
abbrev pub from_piece : Result Piece XmlFault → (Piece → List Aside) → List Aside
from_piece (Err fault) f = []
from_piece (Ok piece) f = f piece

-- What may have to be said of a text that begins at an offset, up to its first fault. An element may be open, with its content so far if it
-- has no type, and so many characters are of a piece that was read already.
unfoldable pub asides_from : Option Held → List Sourced → ℕ → ℕ → List ℕ → List Aside
asides_from state content read at [] = []
asides_from state content (suc read) at (c ∷ t) = asides_from state content read (suc at) t
asides_from state content zero at (c ∷ t) =
    let held = still_held state c t in
    from_piece (piece_at (is_some held) at c t) (λ piece.
    let next = open_behind held content piece.kind at (take piece.more t) in
    listed next.2 ++ asides_from next.0 next.1 piece.more (suc at) t)

-- What may have to be said of a draft in RFCXML, up to its first fault, in its order. Elements that are blocks of ABNF can't be read where
-- they have the attribute `src` or an `xi:include` in them, nor where nothing else stands in them than white space, comments and tags. Of an
-- element without a type, its text decides.
abbrev pub unread_elements : List ℕ → List Aside
unread_elements draft = asides_from None [] 0 0 draft
