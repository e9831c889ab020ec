-- Walks over the items of lines, and the bare items that they leave.
use Rattle.std.specs.Prelude.{◌≡◌, ℕ, suc, ◌≤◌, Bool, false, not, List, [], ◌∷◌, ◌++◌, drop, slice_range, if◌then◌else◌}
use Rattle.abnf_token.specs.declared.mark.TokenMark.{TokenMark}
use Rattle.abnf_token.specs.Classes.{Text}
use Rattle.abnf_token.specs.Marks.{AreMarks}
use Rattle.abnf_syntax.specs.Kinds.{is_item}
use Rattle.abnf_digests.specs.BareItems.{BareItem, bare_text, AreBareItems}
use Rattle.incremental_findings.specs.declared.line_item.Stand.{Stand}
use Rattle.incremental_findings.specs.declared.line_item.LineItem.{LineItem}
use Rattle.incremental_findings.specs.declared.walk.Walk.{Walk}

-- what the next item says besides its token: that it begins a block, and that it stands apart from the one before
abbrev pub stand : Bool → Bool → Stand
stand begins apart = record { begins = begins; apart = apart }

-- the bare item of an item of a line
abbrev pub bare_item_of : LineItem → BareItem
bare_item_of t = record { begins = t.stand.begins; kind = t.kind; text = bare_text t.kind t.text.now; apart = t.stand.apart }

-- of the token of a line with this mark
abbrev pub bare_item_at : Text → Stand → TokenMark → BareItem
bare_item_at line s mark = record { begins = s.begins; kind = mark.kind; text = bare_text mark.kind (slice_range line mark.start mark.end); apart = s.apart }

-- of the tokens of a line with these marks, where the first stands so
abbrev pub bare_items_marked : Text → Stand → List TokenMark → List BareItem
bare_items_marked line s [] = []
bare_items_marked line s (m ∷ ms) =
    if is_item m.kind then bare_item_at line s m ∷ bare_items_marked line (stand false false) ms else bare_items_marked line (stand s.begins (not s.begins)) ms

-- These bare items are still to come: those of the marks that are left in a line, and those of the lines from the one place up to the other.
pub record AreLeft (ls : List Text) (at end : ℕ) (line : Text) (s : Stand) (left : List TokenMark) (bare_items : List BareItem) : Type 0 where
  pub behind : List BareItem
  pub behind_are : AreBareItems ls at end behind
  pub bare_items_are : bare_items ≡ bare_items_marked line s left ++ behind

-- these are still to come where a walk is
abbrev pub Leaves : Walk → List BareItem → Type 0
Leaves w bare_items = AreLeft w.sheet.now w.at w.end w.row.text.now w.stand (drop w.next w.row.marks.now) bare_items

-- The marks are the line's, and the walk isn't past its end.
pub record IsWalk (w : Walk) : Type 0 where
  pub marked : AreMarks w.row.text.now w.row.marks.now
  pub order : w.at ≤ w.end

-- The walk goes on over items with these bare items.
abbrev pub GivesAll : Walk → List BareItem → Walk → Type 0
GivesAll old bare_items new = (rest : List BareItem) → Leaves new rest → Leaves old (bare_items ++ rest)

-- The walk goes on over an item with this bare item.
abbrev pub GivesBareItem : Walk → BareItem → Walk → Type 0
GivesBareItem old e new = (rest : List BareItem) → Leaves new rest → Leaves old (e ∷ rest)

-- The walk goes on over this item.
abbrev pub Gives : Walk → LineItem → Walk → Type 0
Gives old t new = GivesBareItem old (bare_item_of t) new

-- No item is left in the line.
abbrev pub IsAtEnd : Walk → Walk → Type 0
IsAtEnd old new = (rest : List BareItem) → AreBareItems new.sheet.now new.at new.end rest → Leaves old rest

-- The walk goes on in its line.
pub record StaysIn (old new : Walk) : Type 0 where
  pub at : new.at ≡ old.at
  pub end : new.end ≡ old.end

-- The walk goes on in the next line.
pub record Turns (old new : Walk) : Type 0 where
  pub leaves : (rest : List BareItem) → Leaves new rest → AreBareItems old.sheet.now old.at old.end rest
  pub at : new.at ≡ suc old.at
  pub end : new.end ≡ old.end

-- The lines of a text from one up to another say the same of blocks as some lines of another text.
pub record SayTheSame (ls : List Text) (from to : ℕ) (others : List Text) (there end : ℕ) : Type 0 where
  pub bare_items : List BareItem
  pub ours : AreBareItems ls from to bare_items
  pub theirs : AreBareItems others there end bare_items
