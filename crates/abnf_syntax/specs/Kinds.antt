-- What a kind of item may do.
use Rattle.std.specs.Prelude.{Bool, true, false, ◌||◌}
use Rattle.abnf_token.specs.declared.token.Kind.{Kind}
use Rattle.abnf_token.specs.declared.token.Kind.TheVariants.{Name, Defines, Adds, Slash, Repeat, ParenL, ParenR, BracketL, BracketR, Quoted, Number, Prose, Comment, Blank, Bad}

-- a name (rulename)
abbrev pub is_name_kind : Kind → Bool
is_name_kind Name = true
is_name_kind _ = false

-- `=` or `=/` (defined-as)
abbrev pub is_defined_as : Kind → Bool
is_defined_as Defines = true
is_defined_as Adds = true
is_defined_as _ = false

-- a character that begins no token
abbrev pub is_bad : Kind → Bool
is_bad Bad = true
is_bad _ = false

-- a repeat
abbrev pub is_repeat_kind : Kind → Bool
is_repeat_kind Repeat = true
is_repeat_kind _ = false

-- `(` or `[`
abbrev pub opens : Kind → Bool
opens ParenL = true
opens BracketL = true
opens _ = false

-- `)` or `]`
abbrev pub closes : Kind → Bool
closes ParenR = true
closes BracketR = true
closes _ = false

-- the second bracket closes the first
abbrev pub closes_it : Kind → Kind → Bool
closes_it ParenL ParenR = true
closes_it BracketL BracketR = true
closes_it _ _ = false

-- an element can begin with an item of this kind
abbrev pub begins_element : Kind → Bool
begins_element Name = true
begins_element Quoted = true
begins_element Number = true
begins_element Prose = true
begins_element ParenL = true
begins_element BracketL = true
begins_element _ = false

-- a repetition can begin with an item of this kind: a repeat, or what begins an element
abbrev pub begins_repetition : Kind → Bool
begins_repetition k = is_repeat_kind k || begins_element k

-- After an item of this kind an element must come.
abbrev pub needs_element : Kind → Bool
needs_element Defines = true
needs_element Adds = true
needs_element Slash = true
needs_element ParenL = true
needs_element BracketL = true
needs_element _ = false

-- An element ends at an item of this kind.
abbrev pub ends_element : Kind → Bool
ends_element Name = true
ends_element Quoted = true
ends_element Number = true
ends_element Prose = true
ends_element ParenR = true
ends_element BracketR = true
ends_element _ = false

-- a token of this kind is an item: no blank and no comment
abbrev pub is_item : Kind → Bool
is_item Comment = false
is_item Blank = false
is_item _ = true

-- `=/`, which adds alternatives (RFC 5234 section 3.3)
abbrev pub is_adds : Kind → Bool
is_adds Adds = true
is_adds _ = false
