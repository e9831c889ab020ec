-- Findings of a text of which a part is replaced by other lines, and where they stand then.
use Rattle.std.specs.Prelude.{ℕ, ◌+◌, ◌-◌, ◌<◌, ◌≤◌, ◌⊎◌, nat_lt, List, Contains, if◌then◌else◌}
use Rattle.ls_text.specs.declared.position.Place.{Place}
use Rattle.abnf_syntax.specs.declared.fault.SyntaxFault.{SyntaxFault}
use Rattle.abnf_syntax.specs.declared.fault.SyntaxFault.TheVariants as f
use Rattle.abnf_lint.specs.declared.finding.Code.{Code}
use Rattle.abnf_lint.specs.declared.finding.Code.TheVariants as c
use Rattle.abnf_lint.specs.declared.finding.Finding.{Finding}

-- Where a line stands there, and with it a place, a fault, a code and a finding: the lines from `old` on are those from `new` on there;
-- the lines before `front` stay where they are.
module _ (front old new : ℕ) where
  abbrev pub moved_line : ℕ → ℕ
  moved_line line = if nat_lt line front then line else (line + new) - old

  -- a place on the line where that stands
  abbrev pub moved_place : Place → Place
  moved_place p = record { line = moved_line p.line; start = p.start; end = p.end }

  -- a fault at the place where that stands
  abbrev pub moved_fault : SyntaxFault → SyntaxFault
  moved_fault (f.NoName p) = f.NoName (moved_place p)
  moved_fault (f.NoDefinedAs p) = f.NoDefinedAs (moved_place p)
  moved_fault (f.BadToken p) = f.BadToken (moved_place p)
  moved_fault (f.ElementExpected p) = f.ElementExpected (moved_place p)
  moved_fault (f.BlankExpected p) = f.BlankExpected (moved_place p)
  moved_fault (f.Unclosed p) = f.Unclosed (moved_place p)
  moved_fault (f.NumberTooLarge p) = f.NumberTooLarge (moved_place p)
  moved_fault (f.TooDeep p) = f.TooDeep (moved_place p)
  moved_fault f.Memory = f.Memory

  -- a code, with its fault where that stands
  abbrev pub moved_code : Code → Code
  moved_code (c.Syntax fault) = c.Syntax (moved_fault fault)
  moved_code code = code

  -- a finding, with its code, where it stands
  abbrev pub moved_finding : Finding → Finding
  moved_finding found = record { place = moved_place found.place; code = moved_code found.code; name = found.name }

-- none of these stands on a line from `front` up to `old`
abbrev pub NoneFound : ℕ → ℕ → List Finding → Type 0
NoneFound front old rows = (found : Finding) → Contains rows found → (found.place.line < front) ⊎ (old ≤ found.place.line)
