-- What is printed of what can't be read of a draft: a line for each, among those of the findings.
use Rattle.std.specs.Prelude.{ℕ, ◌&&◌, ◌||◌, ◌==◌, nat_lt, Bool, List, [], ◌∷◌, ◌++◌, codes, drop, flat_map, take}
use Rattle.std.specs.List.{prefix_len}
use Rattle.ls_text.specs.Lines.{units}
use Rattle.ls_text.specs.Positions.{position_of}
use Rattle.ls_text.specs.declared.position.Encoding.TheVariants.{Utf32}
use Rattle.ls_text.specs.declared.position.Position.{Position}
use Rattle.origins.specs.declared.unread.Lack.{Lack}
use Rattle.origins.specs.declared.unread.Lack.TheVariants.{BareFence, Elsewhere, Empty, Faulty, Untyped}
use Rattle.origins.specs.declared.unread.Unread.{Unread}
use Rattle.draft_findings.specs.Reports.{Remarked}
use Rattle.findings_text.specs.declared.outcome.Outcome.{Outcome}
use Rattle.findings_text.specs.declared.outcome.Outcome.TheVariants.{Clean, Errors, NotRead, Warnings}
use Rattle.findings_text.specs.Outcomes.{outcome_of}
use Rattle.findings_text.specs.Places.{place_text}

-- what of a file can't be read, in its order, and where each of it begins; positions count characters
abbrev pub Asides : Type 0
Asides = (Unread → Position) × List Unread

-- nothing, of a file that is a grammar
abbrev pub no_asides : Asides
no_asides = ((λ unread. record { line = 0; character = 0 }), [])

-- what of a draft can't be read
abbrev pub asides_of : List ℕ → List Unread → Asides
asides_of draft unread = ((λ u. position_of (units Utf32) draft u.at), unread)

-- why it can't be read, in words
abbrev pub lack_text : Lack → List ℕ
lack_text Elsewhere = codes "grammar in another file"
lack_text Empty = codes "empty block of grammar"
lack_text BareFence = codes "rules in a block without a word, \"~~~ abnf\" marks them"
lack_text Untyped = codes "rules in an element without a type, type=\"abnf\" marks them"
lack_text Faulty = codes "lines that are not all rules"

-- the code that is printed of it: of rules that nothing marks as ABNF one of their own
abbrev pub lack_code : Lack → List ℕ
lack_code Elsewhere = codes "not-read"
lack_code Empty = codes "not-read"
lack_code BareFence = codes "unmarked"
lack_code Untyped = codes "unmarked"
lack_code Faulty = codes "not-read"

-- `FILE:LINE:COLUMN: warning: message [code]`, and LF, of what can't be read and begins at this position. Line and column are printed
-- from 1.
abbrev pub lack_line : List ℕ → Position → Lack → List ℕ
lack_line file at lack = file ++ place_text at ++ codes "warning: " ++ lack_text lack ++ codes " [" ++ lack_code lack ++ (codes "]" ++ 10 ∷ [])

-- the lines of all that can't be read
abbrev pub unread_lines : List ℕ → (Unread → Position) → List Unread → List ℕ
unread_lines file place unread = flat_map (λ u. lack_line file (place u) u.lack) unread

-- a position stands before another one
abbrev pub is_position_before : Position → Position → Bool
is_position_before a b = nat_lt a.line b.line || (a.line == b.line && nat_lt a.character b.character)

-- how many of these begin before a position, up to the first that doesn't
abbrev pub count_before : (Unread → Position) → Position → List Unread → ℕ
count_before place at unread = prefix_len (λ u. is_position_before (place u) at) unread

-- the lines of what is reported, each behind the lines of what can't be read and begins before it, and then those of what is left
abbrev pub merged : List ℕ → (Unread → Position) → (Remarked → Position) → (Remarked → List ℕ) → List Unread → List Remarked → List ℕ
merged file place begin line unread [] = unread_lines file place unread
merged file place begin line unread (r ∷ rs) =
    let n = count_before place (begin r) unread in
    unread_lines file place (take n unread) ++ (line r ++ merged file place begin line (drop n unread) rs)

-- how a file went, where what can't be read is a warning
abbrev pub with_warning : Outcome → Outcome
with_warning Clean = Warnings
with_warning Warnings = Warnings
with_warning Errors = Errors
with_warning NotRead = NotRead

-- how a file went by what can't be read in it and by what is reported of it
abbrev pub outcome_with : List Unread → List Remarked → Outcome
outcome_with [] told = outcome_of told
outcome_with (u ∷ unread) told = with_warning (outcome_of told)
