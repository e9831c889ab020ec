-- The steps of the walk that writes a sentence.
use Rattle.std.specs.Prelude.{◌≡◌, ℕ, zero, suc, ◌<◌, ◌≤◌, Option, Some, None, List, [], ◌∷◌, ◌++◌, length, slice_get, slice_set, slice_range, slice_index_or}
use Rattle.abnf_parts.specs.declared.node.Node.{Node}
use Rattle.abnf_parts.specs.declared.node.Node.TheVariants.{Quoted, Series, Span, Seq, Alt, Rep, Ref}
use Rattle.abnf_parts.specs.Part.{Part, parts_of, root_number}
use Rattle.abnf_parts.specs.Nodes.{IsNode, RefersWithin}
use Rattle.abnf_cert.specs.declared.entry.Entry.{Entry}
use Rattle.abnf_cert.specs.declared.entry.Entry.TheVariants.{Nothing, Least}
use Rattle.abnf_cert.specs.Accepted.{top}
use Rattle.abnf_least.specs.declared.work.Task.{Task}
use Rattle.abnf_least.specs.declared.work.Task.TheVariants.{Write, End}

-- the entry has a length that is known exactly
abbrev pub IsBelowTop : Entry → Type 0
IsBelowTop Nothing = ⊥
IsBelowTop (Least l h c) = l < top

-- the choice that an entry names, 0 of nothing
abbrev pub choice_of : Entry → ℕ
choice_of Nothing = 0
choice_of (Least l h c) = c

-- a part is to be written before all else, where its entry has a length above 0
abbrev pub keep_by : Entry → ℕ → List Task → List Task
keep_by Nothing n ts = ts
keep_by (Least zero h c) n ts = ts
keep_by (Least (suc l) h c) n ts = Write n ∷ ts

-- a part is to be written before all else, by its entry
abbrev pub keep : (ℕ → Entry) → ℕ → List Task → List Task
keep at n ts = keep_by (at n) n ts

-- these parts are to be written before all else, in their order
abbrev pub keep_all : (ℕ → Entry) → List ℕ → List Task → List Task
keep_all at [] ts = ts
keep_all at (m ∷ ms) ts = keep at m (keep_all at ms ts)

-- a part is to be written before all else, so many times
abbrev pub keep_times : (ℕ → Entry) → ℕ → ℕ → List Task → List Task
keep_times at zero n ts = ts
keep_times at (suc k) n ts = keep at n (keep_times at k n ts)

-- a part is to be written before all else, if there is one
abbrev pub keep_some : (ℕ → Entry) → Option ℕ → List Task → List Task
keep_some at None ts = ts
keep_some at (Some n) ts = keep at n ts

-- what is to be done in place of a node with this choice
abbrev pub work_after : (ℕ → Entry) → (ℕ → ℕ) → Node → ℕ → List Task → List Task
work_after at root (Seq ms) c ts = keep_all at ms ts
work_after at root (Alt ms) c ts = keep_some at (slice_get ms c) ts
work_after at root (Rep least most m) c ts = keep_times at least m ts
work_after at root (Ref name None) c ts = ts
work_after at root (Ref name (Some r)) c ts = keep at (root r) ts
work_after at root _ c ts = ts

-- the characters of a node without parts
abbrev pub leaf_text : Node → List ℕ
leaf_text (Quoted text exact) = text.now
leaf_text (Series characters) = characters
leaf_text (Span low high) = low ∷ []
leaf_text _ = []

-- where a part stands in the text that is written, if it was written before
abbrev pub WrittenPlace : Type 0
WrittenPlace = Option (ℕ × ℕ)

-- the place lies in a text of so many characters
abbrev pub LiesWithin : ℕ → WrittenPlace → Type 0
LiesWithin count None = Unit {0}
LiesWithin count (Some x) = (x.0 ≤ x.1) × (x.1 ≤ count)

-- each of these places lies in a text of so many characters
abbrev pub AllLieWithin : ℕ → List WrittenPlace → Type 0
AllLieWithin count places = (n : ℕ) → LiesWithin count (slice_index_or places n None)

-- the node is that of part n
pub record IsNodeOf (roots : List Part) (n : ℕ) (node : Node) : Type 0 where
  pub part : Part
  pub stands : slice_get (parts_of roots) n ≡ Some part
  pub is : IsNode n part node
  pub refers : RefersWithin (length roots) part

-- a task of one of so many parts
abbrev pub IsTaskOf : ℕ → Task → Type 0
IsTaskOf count (Write n) = n < count
IsTaskOf count (End n start) = n < count

module _ (roots : List Part) (at : ℕ → Entry) where
  -- what is to be done in place of part n, and then its end; the characters are written
  abbrev pub Expands : ℕ → List Task → List ℕ → List Task → List ℕ → Type 0
  Expands n ts w ts' w' =
      (node : Node) × IsNodeOf roots n node
      × (ts' ≡ work_after at (root_number roots) node (choice_of (at n)) (End n (length w) ∷ ts)) × (w' ≡ w ++ leaf_text node)

  -- A part that was written before is copied from there.
  abbrev pub WritesPart : ℕ → WrittenPlace → List Task → List ℕ → List WrittenPlace → List Task → List ℕ → List WrittenPlace → Type 0
  WritesPart n None ts w ps ts' w' ps' = Expands n ts w ts' w' × (ps' ≡ ps)
  WritesPart n (Some x) ts w ps ts' w' ps' = (ts' ≡ ts) × (w' ≡ w ++ slice_range w x.0 x.1) × (ps' ≡ ps)

  -- what a task does to the work that is left, the text and the places
  abbrev pub Does : Task → List Task → List ℕ → List WrittenPlace → List Task → List ℕ → List WrittenPlace → Type 0
  Does (Write n) ts w ps ts' w' ps' = WritesPart n (slice_index_or ps n None) ts w ps ts' w' ps'
  Does (End n start) ts w ps ts' w' ps' = (ts' ≡ ts) × (w' ≡ w) × (ps' ≡ slice_set ps n (Some (start, length w)))
