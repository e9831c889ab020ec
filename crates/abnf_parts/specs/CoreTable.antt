-- The core rules as the code has them.
use Rattle.std.specs.Prelude.{◌≡◌, ℕ, suc, ◌+◌, List, [], ◌∷◌, ◌++◌, length, map, position, Option, None, option_map, codes, Bool, false}
use Rattle.std.specs.List.{list_any}
use Rattle.std.specs.Borrow.{Bor}
use Rattle.abnf_token.specs.Folded.{lowercase}
use Rattle.abnf_parts.specs.declared.core_rule.Core.{Core}
use Rattle.abnf_parts.specs.declared.core_rule.Core.TheVariants.{Alpha, Bit, Char, Cr, Crlf, Ctl, Digit, Dquote, Hexdig, Htab, Lf, Lwsp, Octet, Sp, Vchar, Wsp}
use Rattle.abnf_parts.specs.declared.core_rule.Leaf.{Leaf}
use Rattle.abnf_parts.specs.declared.core_rule.Leaf.TheVariants.{Range, One, Text, Rule}
use Rattle.abnf_parts.specs.Part.{Part, quoted, series, span, seq, alt, rep, ref, end, next}
use Rattle.abnf_parts.specs.Tree.{parts, join}
use Rattle.abnf_parts.specs.declared.node.Node.{Node}
use Rattle.abnf_parts.specs.declared.node.Node.TheVariants.{Alt, Rep}
use Rattle.std.specs.Str.{bytes_eq}
use Rattle.abnf_parts.specs.Names.{Name}
use Rattle.abnf_parts.specs.Core.{CoreRule, alpha, bit, char, cr, crlf, ctl, digit, dquote, hexdig, htab, lf, lwsp, octet, sp, vchar, wsp}

-- the core rule of each variant of the code's `Core`
abbrev pub core_of : Core → CoreRule
core_of Alpha = alpha
core_of Bit = bit
core_of Char = char
core_of Cr = cr
core_of Crlf = crlf
core_of Ctl = ctl
core_of Digit = digit
core_of Dquote = dquote
core_of Hexdig = hexdig
core_of Htab = htab
core_of Lf = lf
core_of Lwsp = lwsp
core_of Octet = octet
core_of Sp = sp
core_of Vchar = vchar
core_of Wsp = wsp

-- the part of what stands in a core rule: a range, a character, a text or the name of a core rule
abbrev pub leaf_part : (Name → Option ℕ) → Leaf → Part
leaf_part number (Range low high) = span low high
leaf_part number (One character) = series (character ∷ [])
leaf_part number (Text text) = quoted text.now false
leaf_part number (Rule name) = ref name.now (number (lowercase name.now))

-- the part of a row of these, one behind the other
abbrev pub row_part : (Name → Option ℕ) → Bor (List Leaf) → Part
row_part number row = join seq (map (leaf_part number) row.now)

-- a choice among rows
abbrev pub choice : (Name → Option ℕ) → List (Bor (List Leaf)) → Part
choice number rows = alt (parts (map (row_part number) rows))

-- the tree of a core rule by its rows, which LWSP alone repeats
abbrev pub tree_by : Core → Part → Part
tree_by Lwsp inner = alt (next (rep 0 None inner) end)
tree_by core inner = inner

-- the rule that a name stands for inside the core rules, which have these names, and numbers from the first on
abbrev pub number_in : ℕ → List Name → Name → Option ℕ
number_in first names name = option_map (λ r. first + r) (position (bytes_eq name) names)

-- a choice of one repetition was pushed, whose body comes next
abbrev pub AddsRepeated : List Node → List Node → Type 0
AddsRepeated old new = new ≡ old ++ Alt (suc (length old) ∷ []) ∷ Rep 0 None (suc (suc (length old))) ∷ []

-- the names of the core rules that need this one: itself, those that use it, those that use these, and so on
abbrev pub users_of : Core → List Name
users_of Alpha = codes "alpha" ∷ []
users_of Bit = codes "bit" ∷ []
users_of Char = codes "char" ∷ []
users_of Cr = codes "cr" ∷ codes "crlf" ∷ codes "lwsp" ∷ []
users_of Crlf = codes "crlf" ∷ codes "lwsp" ∷ []
users_of Ctl = codes "ctl" ∷ []
users_of Digit = codes "digit" ∷ codes "hexdig" ∷ []
users_of Dquote = codes "dquote" ∷ []
users_of Hexdig = codes "hexdig" ∷ []
users_of Htab = codes "htab" ∷ codes "wsp" ∷ codes "lwsp" ∷ []
users_of Lf = codes "lf" ∷ codes "crlf" ∷ codes "lwsp" ∷ []
users_of Lwsp = codes "lwsp" ∷ []
users_of Octet = codes "octet" ∷ []
users_of Sp = codes "sp" ∷ codes "wsp" ∷ codes "lwsp" ∷ []
users_of Vchar = codes "vchar" ∷ []
users_of Wsp = codes "wsp" ∷ codes "lwsp" ∷ []

-- one of these names stands in the text and is defined nowhere
abbrev pub is_core_wanted : List Name → List Name → Bool
is_core_wanted unknown users = list_any (λ user. list_any (bytes_eq user) unknown) users
