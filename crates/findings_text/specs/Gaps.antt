-- Names that other grammars use and no file defines. A rule of a grammar at the front of a joined text may generate nothing as it
-- leads to one of these, of which nothing is printed.
use Rattle.std.specs.Prelude.{◌≡◌, ◌<◌, ℕ, Bool, true, false, not, ◌&&◌, nat_eq, nat_lt, List, [], ◌∷◌, ◌++◌, Option, Some, None, codes, filter, flat_map, length, map, if◌then◌else◌}
use Rattle.std.specs.List.{list_any}
use Rattle.std.specs.Str.{chars, encode_utf8_all}
use Rattle.ls_text.specs.Lines.{line_ends, max_bytes}
use Rattle.ls_text.specs.declared.position.Place.{Place}
use Rattle.abnf_lint.specs.declared.finding.Code.{Code}
use Rattle.abnf_lint.specs.declared.finding.Code.TheVariants.{Unproductive}
use Rattle.abnf_lint.specs.declared.finding.Finding.{Finding}
use Rattle.abnf_lint.specs.Rows.{AreRows}
use Rattle.findings_text.specs.Hints.{fault_hint, is_undefined}

-- The place stands in the grammar at the front of a joined text: its line is one of those that end there. A grammar that was
-- gathered ends in a line end, so it has as many lines of the joined text as it has line ends, and nothing that is found in
-- it stands behind.
abbrev pub stands_in : List ℕ → Place → Bool
stands_in told place = nat_lt place.line (line_ends told)

-- ---- the filled text

-- the finding is a gap: a name that stands for nothing, behind the grammar at the front of a joined text
abbrev pub is_gap : List ℕ → Finding → Bool
is_gap told finding = is_undefined finding && not (stands_in told finding.place)

-- what fills a gap: the line `NAME = <>` and LF. By prose it isn't known what the name generates (RFC 5234 section 4, prose-val).
abbrev pub filling : Finding → List ℕ
filling gap = gap.name ++ (codes " = <>" ++ 10 ∷ [])

-- what fills the gaps among these findings, in order, in UTF-8
abbrev pub fillings : List ℕ → List Finding → List ℕ
fillings told found = flat_map filling (filter (is_gap told) found)

-- the code of a rule that generates nothing
abbrev pub is_unproductive_code : Code → Bool
is_unproductive_code Unproductive = true
is_unproductive_code _ = false

-- the finding is a rule that generates nothing
abbrev pub is_unproductive : Finding → Bool
is_unproductive finding = is_unproductive_code finding.code

-- the finding is such a rule of the grammar at the front of a joined text
abbrev pub is_idle_in_front : List ℕ → Finding → Bool
is_idle_in_front told finding = is_unproductive finding && stands_in told finding.place

-- what is put behind a joined text with these findings: what fills its gaps, if a rule of the grammar at its front generates nothing;
-- else no gap matters
abbrev pub gaps_behind : List ℕ → List Finding → List ℕ
gaps_behind told found = if list_any (is_idle_in_front told) found then fillings told found else []

-- This is the filled text: a joined one, and behind it what is put there by its findings. There is one (`filled_texts_exist`), and only
-- one (`filled_texts_are_unique`).
pub record IsFilled (told text filled : List ℕ) : Type 0 where
  pub found : List Finding
  pub of_text : AreRows text found
  pub is : filled ≡ text ++ chars (gaps_behind told found)

-- The filled text has more bytes of UTF-8 than a text may have, 4,194,304.
pub record IsFilledTooLarge (told text : List ℕ) : Type 0 where
  pub filled : List ℕ
  pub is : IsFilled told text filled
  pub large : max_bytes < length (encode_utf8_all filled)

-- ---- the rules that lead to gaps

-- the lines in which rules begin that generate nothing
abbrev pub idle_lines : List Finding → List ℕ
idle_lines found = map (λ f. f.place.line) (filter is_unproductive found)

-- These are the lines in which rules begin that generate nothing in the filled text.
pub record AreLinesKept (told text kept : List ℕ) : Type 0 where
  pub filled : List ℕ
  pub is : IsFilled told text filled
  pub found : List Finding
  pub of_filled : AreRows filled found
  pub are : kept ≡ idle_lines found

-- The finding is a rule that generates nothing as it leads to a gap: in its line, in which no other rule begins, none does that generates
-- nothing in the filled text. Where nothing is joined no rule leads to a gap.
abbrev pub leads_to_gap : Option (List ℕ) → Finding → Bool
leads_to_gap None finding = false
leads_to_gap (Some kept) finding = is_unproductive finding && not (list_any (nat_eq finding.place.line) kept)

-- what is said of a rule that leads to a gap
abbrev pub gap_hint : List ℕ
gap_hint = codes ", as it leads to names that no file defines"

-- what is said behind the message of a finding in a text: of a rule that leads to a gap that it does, and of a fault of syntax what may
-- be meant
abbrev pub hint_behind : Option (List ℕ) → List ℕ → Finding → List ℕ
hint_behind kept text finding = if leads_to_gap kept finding then gap_hint else fault_hint text finding.code
