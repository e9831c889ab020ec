-- Items, places and faults where lines are renumbered, and starts and ends too.
use Rattle.std.proofs.Common.{ℕ, Bool}
use Rattle.ls_text.specs.declared.position.Place.{Place}
use Rattle.abnf_token.specs.declared.token.Kind.{Kind}
use Rattle.abnf_token.specs.Classes.{Text}
use Rattle.abnf_syntax.specs.declared.fault.SyntaxFault.{SyntaxFault}
use Rattle.abnf_syntax.specs.declared.fault.SyntaxFault.TheVariants as f
use Rattle.abnf_syntax.specs.declared.item.Item.{Item}
use Rattle.abnf_syntax.specs.Faults.{place_of}

-- an item's kind and text, whether it is apart, and its place
abbrev pub Placed : Type 0
Placed = Kind × Text × Bool × Place

-- what stays
abbrev pub same : ℕ → ℕ
same n = n

-- the empty place behind a place
abbrev pub after : Place → Place
after p = record { line = p.line; start = p.end; end = p.end }

module _ (g h : ℕ → ℕ) where
  abbrev pub place_by : Place → Place
  place_by p = record { line = g p.line; start = h p.start; end = h p.end }

  abbrev pub placed : Item → Placed
  placed item = (item.token.kind, item.token.text.now, item.apart, place_by (place_of item.token))

  abbrev pub fault_by : SyntaxFault → SyntaxFault
  fault_by (f.NoName p) = f.NoName (place_by p)
  fault_by (f.NoDefinedAs p) = f.NoDefinedAs (place_by p)
  fault_by (f.BadToken p) = f.BadToken (place_by p)
  fault_by (f.ElementExpected p) = f.ElementExpected (place_by p)
  fault_by (f.BlankExpected p) = f.BlankExpected (place_by p)
  fault_by (f.Unclosed p) = f.Unclosed (place_by p)
  fault_by (f.NumberTooLarge p) = f.NumberTooLarge (place_by p)
  fault_by (f.TooDeep p) = f.TooDeep (place_by p)
  fault_by f.Memory = f.Memory
