-- What is said behind messages: a known name that is near, and what may be meant by a fault of syntax.
use Rattle.std.specs.Prelude.{◌≡◌, ℕ, Bool, true, false, ◌&&◌, ◌==◌, nat_eq, nat_le, ◌*◌, List, [], ◌∷◌, ◌++◌, Option, Some, None, codes, count_by, drop, length, map, option_map, slice_get, slice_index, if◌then◌else◌}
use Rattle.std.specs.List.{starts_with}
use Rattle.std.specs.Option.{option_map_or}
use Rattle.std.specs.Str.{encode_utf8_all}
use Rattle.ls_text.specs.Lines.{lines}
use Rattle.ls_text.specs.declared.position.Place.{Place}
use Rattle.abnf_syntax.specs.declared.fault.SyntaxFault.TheVariants.{BadToken, ElementExpected, NoName}
use Rattle.near_names.specs.Near.{nearest}
use Rattle.abnf_parts.specs.Core.{core_rules}
use Rattle.abnf_names.specs.Places.{Named}
use Rattle.abnf_names.specs.Rules.{Grammar, IsGrammar}
use Rattle.abnf_lint.specs.declared.finding.Code.{Code}
use Rattle.abnf_lint.specs.declared.finding.Code.TheVariants.{Syntax, Undefined}
use Rattle.abnf_lint.specs.declared.finding.Finding.{Finding}
use Rattle.abnf_lint.specs.Messages.{finding_message}
use Rattle.findings_text.specs.Heads.{heads}

-- the code of a name that stands for nothing
abbrev pub is_undefined_code : Code → Bool
is_undefined_code Undefined = true
is_undefined_code _ = false

-- the finding is a name that stands for nothing
abbrev pub is_undefined : Finding → Bool
is_undefined finding = is_undefined_code finding.code

-- the names of the core rules, in the order of RFC 5234 appendix B.1
abbrev pub core_names : List (List ℕ)
core_names = map (λ core. core.name) core_rules

-- the names of the rules of these heads, as each is first defined
abbrev pub head_names : List (Named × ℕ) → List (List ℕ)
head_names heads = map (λ head. head.0.text) heads

-- the known names: of the rules, as each is first defined, and then of the core rules (RFC 5234 appendix B.1)
abbrev pub known_names : Grammar → List (List ℕ)
known_names g = head_names (heads g.names g.places) ++ core_names

-- These are the known names of a text.
pub record AreKnown (text : List ℕ) (known : List (List ℕ)) : Type 0 where
  pub grammar : Grammar
  pub of_text : grammar.text ≡ text
  pub right : IsGrammar grammar
  pub are : known ≡ known_names grammar

-- So many names that stand for nothing are compared with so many known ones: where there is one at least, and there are at
-- most 100,000 pairs.
abbrev pub are_compared : ℕ → ℕ → Bool
are_compared unknown known = nat_le 1 unknown && nat_le (unknown * known) 100000

-- the names with which those that stand for nothing are compared: all known ones, but none where there are more than 100,000
-- pairs of the two
abbrev pub compared : List Finding → List (List ℕ) → List (List ℕ)
compared found known = if are_compared (count_by is_undefined found) (length known) then known else []

-- what is said of a known name if one is near, as `, did you mean scheme?`
abbrev pub hint : Option (List ℕ) → List ℕ
hint None = []
hint (Some name) = codes ", did you mean " ++ name ++ codes "?"

-- what is said of a finding behind its message: of a name that stands for nothing the nearest known one, if one is near
abbrev pub hint_of : List (List ℕ) → Finding → List ℕ
hint_of known finding = if is_undefined finding then hint (nearest finding.name known) else []

-- the message of a finding, and what is said behind it
abbrev pub message : List (List ℕ) → Finding → List ℕ
message known finding = finding_message finding.code finding.name ++ hint_of known finding

-- ---- faults of syntax

-- the bytes of a line, of which there are none behind the last
abbrev pub line_bytes : List ℕ → ℕ → List ℕ
line_bytes text at = option_map_or (λ line. line) (option_map encode_utf8_all (slice_get (lines text) at)) []

-- what is said where a `#` stands in a line, by which HTTP has lists, or a `\`, which folds lines
abbrev pub character_hint : List ℕ → ℕ → List ℕ
character_hint line at =
    if slice_index line at == 35 then codes ", lists by # are an extension of HTTP (RFC 9110, section 5.6.1)"
    else (if slice_index line at == 92 then codes ", lines that are folded by \\ are not joined (RFC 8792)" else [])

-- U+FEFF in UTF-8
abbrev pub byte_order_mark : List ℕ
byte_order_mark = 0xEF ∷ 0xBB ∷ 0xBF ∷ []

-- What is said where no name begins a block, at a place of this line: a text may begin with a byte order mark, and kramdown
-- includes files by `{::`.
abbrev pub front_hint : List ℕ → Place → List ℕ
front_hint line place =
    if place.line == 0 && place.start == 0 && starts_with nat_eq line byte_order_mark then codes ", a byte order mark"
    else (if starts_with nat_eq (drop place.start line) (codes "{::") then codes ", what kramdown includes is not read" else [])

-- What is said behind the message of a fault of syntax in a text: of a bad character, of one that stands behind a repeat without an
-- element, and of what stands where a name should.
abbrev pub fault_hint : List ℕ → Code → List ℕ
fault_hint text (Syntax (BadToken place)) = character_hint (line_bytes text place.line) place.start
fault_hint text (Syntax (ElementExpected place)) = character_hint (line_bytes text place.line) place.end
fault_hint text (Syntax (NoName place)) = front_hint (line_bytes text place.line) place
fault_hint text _ = []
