-- How the check reads a node.
use Rattle.std.specs.Prelude.{◌≡◌, ℕ, ◌<◌, ◌≤◌, ◌⊎◌, map, Option, Some, None, length}
use Rattle.abnf_cert.specs.declared.entry.Entry.{Entry}
use Rattle.abnf_cert.specs.declared.entry.Entry.TheVariants.{Nothing, Least}
use Rattle.abnf_parts.specs.declared.node.Node.{Node}
use Rattle.abnf_parts.specs.declared.node.Node.TheVariants.{Quoted, Series, Span, Seq, Alt, Rep, Ref, Opaque}
use Rattle.abnf_parts.specs.Generates.{UpTo}
use Rattle.abnf_cert.specs.Accepted.{all_in_a_row, times, referred, Exceeds, IsChoice}

-- the entry of a repetition whose body has this entry
abbrev pub IsRepeated : ℕ → Option ℕ → Entry → Entry → Type 0
IsRepeated least most body e = (UpTo most least × (e ≡ times least body)) ⊎ (Exceeds most least × (e ≡ Nothing))

-- an entry fits a node, where the parts right below it are known by their numbers
abbrev pub FitsNode : (ℕ → Entry) → (ℕ → ℕ) → Node → Entry → Type 0
FitsNode at root (Quoted text exact) e = e ≡ Least (length text.now) 0 0
FitsNode at root (Series characters) e = e ≡ Least (length characters) 0 0
FitsNode at root (Span low high) e = ((low ≤ high) × (e ≡ Least 1 0 0)) ⊎ ((high < low) × (e ≡ Nothing))
FitsNode at root (Seq ns) e = e ≡ all_in_a_row (map at ns)
FitsNode at root (Alt ns) e = IsChoice (map at ns) e
FitsNode at root (Rep least most n) e = IsRepeated least most (at n) e
FitsNode at root (Ref name None) e = e ≡ Nothing
FitsNode at root (Ref name (Some r)) e = e ≡ referred (at (root r))
FitsNode at root Opaque e = e ≡ Nothing

-- a node that is a reference is to one of so many rules, or to none
abbrev pub NodeRefersWithin : ℕ → Node → Type 0
NodeRefersWithin count (Ref name (Some r)) = r < count
NodeRefersWithin count _ = Unit {0}
