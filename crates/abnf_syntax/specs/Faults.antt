-- The faults of a block. A front's length, its last item and its open brackets, with the items that
-- follow, decide which rows of the table hold.
use Rattle.std.specs.Prelude.{◌≡◌, ◌+◌, ◌<◌, Bool, true, false, not, ◌&&◌, nat_le, List, [], ◌∷◌, ◌++◌, length, Option, Some, None, if◌then◌else◌}
use Rattle.abnf_token.specs.declared.token.Kind.{Kind}
use Rattle.abnf_token.specs.declared.token.Token.{Token}
use Rattle.abnf_syntax.specs.declared.item.Item.{Item}
use Rattle.ls_text.specs.declared.position.Place.{Place}
use Rattle.abnf_syntax.specs.declared.fault.SyntaxFault.{SyntaxFault}
use Rattle.abnf_syntax.specs.declared.fault.SyntaxFault.TheVariants as f
use Rattle.abnf_syntax.specs.Kinds.{is_name_kind, is_defined_as, is_bad, is_repeat_kind, opens, closes, closes_it, begins_element, begins_repetition, needs_element, ends_element}
use Rattle.abnf_syntax.specs.Grammar.{kind_of, fits, max_nesting}

-- the place of a token: its line, and the bytes of its text there
abbrev pub place_of : Token → Place
place_of t = record { line = t.line; start = t.start; end = t.start + length t.text.now }

-- the empty place after a token
abbrev pub place_after : Token → Place
place_after t = let end = t.start + length t.text.now in record { line = t.line; start = end; end = end }

-- the tokens without the first one
abbrev pub without_first : List Token → List Token
without_first [] = []
without_first (t ∷ ts) = ts

-- the open brackets after one more item, the innermost first: a closing one takes away the last one left
abbrev pub open_after : List Token → Item → List Token
open_after brackets item = if opens (kind_of item) then item.token ∷ brackets else (if closes (kind_of item) then without_first brackets else brackets)

-- the open brackets after some more items
abbrev pub open_from : List Token → List Item → List Token
open_from brackets [] = brackets
open_from brackets (item ∷ items) = open_from (open_after brackets item) items

-- the last of an item and those behind it
abbrev pub last_of : Item → List Item → Item
last_of last [] = last
last_of last (item ∷ items) = last_of item items

-- An element follows at once, as it must behind a repeat.
abbrev pub is_followed : List Item → Bool
is_followed [] = false
is_followed (next ∷ rest) = begins_element (kind_of next) && not next.apart

-- the innermost open bracket, if one is open
abbrev pub first_of : List Token → Option Token
first_of [] = None
first_of (t ∷ ts) = Some t

-- no bracket is the innermost open one
abbrev pub is_outside : Option Token → Bool
is_outside None = true
is_outside (Some t) = false

-- no bracket is open
abbrev pub is_empty : List Token → Bool
is_empty brackets = is_outside (first_of brackets)

-- the closing bracket isn't that of this open one, if one is open
abbrev pub is_other_than : Option Token → Kind → Bool
is_other_than None kind = false
is_other_than (Some t) kind = not (closes_it t.kind kind)

-- the closing bracket isn't that of the innermost open one
abbrev pub is_other : List Token → Kind → Bool
is_other brackets kind = is_other_than (first_of brackets) kind

-- the first token, or the second where there is none
abbrev pub or_this : Option Token → Token → Token
or_this None this = this
or_this (Some t) this = t

-- the innermost open bracket, or this token where none is open
abbrev pub innermost : List Token → Token → Token
innermost brackets none = or_this (first_of brackets) none

-- A row of the table: whether it holds, and the fault with its place.
abbrev pub FaultRow : Type 0
FaultRow = Bool × SyntaxFault

-- the fault of the first row that holds, if one does
abbrev pub least : List FaultRow → Option SyntaxFault
least [] = None
least (row ∷ rows) = if row.0 then Some row.1 else least rows

-- The rows for the end, or the next item, behind a last item and open brackets: whether each holds, with its fault.
-- Of the end: an element must come; or a bracket is still open.
-- Of an item: it is bad; an element must come and it begins none; it is `=` or `=/` behind an element; it closes a bracket
-- outside all brackets; it is a repeat that no element follows at once; it begins a repetition right behind another; it
-- closes another bracket than the innermost one, behind an element; its number is too large; it opens a bracket inside 64.
abbrev pub rows_of : Item → List Token → List Item → List FaultRow
rows_of last brackets [] =
    (needs_element (kind_of last), f.ElementExpected (place_after last.token))
    ∷ (not (is_empty brackets) && ends_element (kind_of last), f.Unclosed (place_of (innermost brackets last.token)))
    ∷ []
rows_of last brackets (item ∷ rest) =
    let kind = kind_of item in
    let here = place_of item.token in
    (is_bad kind, f.BadToken here)
    ∷ (not (begins_repetition kind) && needs_element (kind_of last), f.ElementExpected here)
    ∷ (is_defined_as kind && ends_element (kind_of last), f.ElementExpected here)
    ∷ (closes kind && is_empty brackets, f.ElementExpected here)
    ∷ (is_repeat_kind kind && not (is_followed rest), f.ElementExpected here)
    ∷ (begins_repetition kind && (ends_element (kind_of last) && not item.apart), f.BlankExpected here)
    ∷ (closes kind && (is_other brackets kind && ends_element (kind_of last)), f.Unclosed (place_of (innermost brackets item.token)))
    ∷ (not (fits item), f.NumberTooLarge here)
    ∷ (opens kind && nat_le max_nesting (length brackets), f.TooDeep here)
    ∷ []

-- The fault that the item behind a front shows. The rows of the first two items are the first two of the
-- table; where these do not hold of them, no other does.
abbrev pub shown : List Item → List Item → Option SyntaxFault
shown [] [] = None
shown [] (item ∷ rest) = if is_name_kind (kind_of item) then None else Some (f.NoName (place_of item.token))
shown (head ∷ []) [] = Some (f.NoDefinedAs (place_after head.token))
shown (head ∷ []) (item ∷ rest) = if is_defined_as (kind_of item) then None else Some (f.NoDefinedAs (place_of item.token))
shown (head ∷ defined ∷ body) rest = least (rows_of (last_of defined body) (open_from [] body) rest)

-- The first item that shows a fault, or the end, shows this one: the least row that holds there, at its place. The rows look
-- at the items before, the open brackets and the next two items.
pub record Faults (items : List Item) (fault : SyntaxFault) : Type 0 where
  pub front : List Item
  pub rest : List Item
  pub split : items ≡ front ++ rest
  pub shows : shown front rest ≡ Some fault
  pub first : (before after : List Item) → items ≡ before ++ after → length before < length front → shown before after ≡ None
