-- The core rules of RFC 5234, Appendix B.1.
use Rattle.std.specs.Prelude.{ℕ, zero, suc, List, [], ◌∷◌, flat_map, filter_map, find, length, Option, Some, None, Bool, false, codes}
use Rattle.std.specs.List.{list_any}
use Rattle.abnf_token.specs.Folded.{lowercase}
use Rattle.abnf_parts.specs.Part.{Part, quoted, series, span, seq, alt, rep, ref, subparts}
use Rattle.std.specs.Str.{bytes_eq}
use Rattle.abnf_parts.specs.Names.{Name}
use Rattle.abnf_parts.specs.Tree.{parts}

-- a core rule: its name and its tree, where it is known which rules names stand for
pub record CoreRule : Type 0 where
  pub name : List ℕ
  pub tree : (List ℕ → Option ℕ) → Part

abbrev any_of : List Part → Part
any_of ps = alt (parts ps)

abbrev in_order : List Part → Part
in_order ps = seq (parts ps)

abbrev one : ℕ → Part
one character = series (character ∷ [])

abbrev text : List ℕ → Part
text letters = quoted letters false

abbrev rule : (List ℕ → Option ℕ) → List ℕ → Part
rule number name = ref name (number (lowercase name))

-- ALPHA: a letter, %x41-5A / %x61-7A (RFC 5234, appendix B.1)
abbrev pub alpha : CoreRule
alpha = record { name = codes "ALPHA"; tree = λ number. any_of (span 0x41 0x5A ∷ span 0x61 0x7A ∷ []) }

-- BIT: `0` or `1` (RFC 5234, appendix B.1)
abbrev pub bit : CoreRule
bit = record { name = codes "BIT"; tree = λ number. any_of (text (codes "0") ∷ text (codes "1") ∷ []) }

-- CHAR: a character of ASCII but NUL, %x01-7F (RFC 5234, appendix B.1)
abbrev pub char : CoreRule
char = record { name = codes "CHAR"; tree = λ number. any_of (span 0x01 0x7F ∷ []) }

-- CR: %x0D (RFC 5234, appendix B.1)
abbrev pub cr : CoreRule
cr = record { name = codes "CR"; tree = λ number. any_of (one 0x0D ∷ []) }

-- CRLF: CR and LF (RFC 5234, appendix B.1)
abbrev pub crlf : CoreRule
crlf = record { name = codes "CRLF"; tree = λ number. any_of (in_order (rule number (codes "CR") ∷ rule number (codes "LF") ∷ []) ∷ []) }

-- CTL: a control character, %x00-1F / %x7F (RFC 5234, appendix B.1)
abbrev pub ctl : CoreRule
ctl = record { name = codes "CTL"; tree = λ number. any_of (span 0x00 0x1F ∷ one 0x7F ∷ []) }

-- DIGIT: %x30-39 (RFC 5234, appendix B.1)
abbrev pub digit : CoreRule
digit = record { name = codes "DIGIT"; tree = λ number. any_of (span 0x30 0x39 ∷ []) }

-- DQUOTE: `"`, %x22 (RFC 5234, appendix B.1)
abbrev pub dquote : CoreRule
dquote = record { name = codes "DQUOTE"; tree = λ number. any_of (one 0x22 ∷ []) }

-- HEXDIG: a DIGIT, or a letter from `A` to `F` in either case (RFC 5234, appendix B.1)
abbrev pub hexdig : CoreRule
hexdig = record { name = codes "HEXDIG"; tree = λ number. any_of (rule number (codes "DIGIT") ∷ text (codes "A") ∷ text (codes "B") ∷ text (codes "C") ∷ text (codes "D") ∷ text (codes "E") ∷ text (codes "F") ∷ []) }

-- HTAB: %x09 (RFC 5234, appendix B.1)
abbrev pub htab : CoreRule
htab = record { name = codes "HTAB"; tree = λ number. any_of (one 0x09 ∷ []) }

-- LF: %x0A (RFC 5234, appendix B.1)
abbrev pub lf : CoreRule
lf = record { name = codes "LF"; tree = λ number. any_of (one 0x0A ∷ []) }

-- LWSP: any number of WSP, each alone or behind CRLF (RFC 5234, appendix B.1)
abbrev pub lwsp : CoreRule
lwsp = record { name = codes "LWSP"; tree = λ number. any_of (rep 0 None (any_of (rule number (codes "WSP") ∷ in_order (rule number (codes "CRLF") ∷ rule number (codes "WSP") ∷ []) ∷ [])) ∷ []) }

-- OCTET: %x00-FF (RFC 5234, appendix B.1)
abbrev pub octet : CoreRule
octet = record { name = codes "OCTET"; tree = λ number. any_of (span 0x00 0xFF ∷ []) }

-- SP: %x20 (RFC 5234, appendix B.1)
abbrev pub sp : CoreRule
sp = record { name = codes "SP"; tree = λ number. any_of (one 0x20 ∷ []) }

-- VCHAR: a printing character, %x21-7E (RFC 5234, appendix B.1)
abbrev pub vchar : CoreRule
vchar = record { name = codes "VCHAR"; tree = λ number. any_of (span 0x21 0x7E ∷ []) }

-- WSP: SP or HTAB (RFC 5234, appendix B.1)
abbrev pub wsp : CoreRule
wsp = record { name = codes "WSP"; tree = λ number. any_of (rule number (codes "SP") ∷ rule number (codes "HTAB") ∷ []) }

-- the core rules with their trees, in the order of RFC 5234, appendix B.1
abbrev pub core_rules : List CoreRule
core_rules = alpha ∷ bit ∷ char ∷ cr ∷ crlf ∷ ctl ∷ digit ∷ dquote ∷ hexdig ∷ htab ∷ lf ∷ lwsp ∷ octet ∷ sp ∷ vchar ∷ wsp ∷ []

-- the name of a core rule, with its letters made small
abbrev pub core_name : CoreRule → List ℕ
core_name core = lowercase core.name

-- a core rule has this name
abbrev pub is_core_name : Name → Bool
is_core_name name = list_any (λ core. bytes_eq (core_name core) name) core_rules

-- the name that a part is, with its letters made small, if it is one
abbrev pub name_used : Part → Option (List ℕ)
name_used (ref name rule) = Some (lowercase name)
name_used _ = None

-- the names that a core rule uses, if there is one
abbrev pub names_used : Option CoreRule → List (List ℕ)
names_used None = []
names_used (Some core) = filter_map name_used (subparts (core.tree (λ name. None)))

-- a name, those that its core rule uses, those that these use, and so on for so many steps
abbrev pub core_needs : ℕ → List ℕ → List (List ℕ)
core_needs zero name = name ∷ []
core_needs (suc steps) name = name ∷ flat_map (core_needs steps) (names_used (find (λ core. bytes_eq (core_name core) name) core_rules))

-- A core rule is needed where one of these names stands for it, and where a needed one uses it.
abbrev pub is_needed : List Name → CoreRule → Bool
is_needed names core = list_any (λ name. list_any (bytes_eq (core_name core)) (core_needs (length core_rules) name)) names
