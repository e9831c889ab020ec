-- Marks beside the parts of a grammar, and beside its rules.
use Rattle.std.specs.Prelude.{◌≡◌, ◌↔◌, ℕ, suc, ◌<◌, ◌≤◌, Bool, true, false, not, ◌&&◌, ◌||◌, nat_lt, nat_eq, IsTrue, Option, Some, None, List, length, slice_get, slice_index_or}
use Rattle.std.specs.List.{list_all, list_any}
use Rattle.abnf_parts.specs.declared.node.Node.{Node}
use Rattle.abnf_parts.specs.declared.node.Node.TheVariants.{Quoted, Series, Span, Seq, Alt, Rep, Ref, Opaque}
use Rattle.abnf_parts.specs.Part.{Part, quoted, series, span, seq, alt, rep, ref, opaque, parts_of, root_number, numbers}
use Rattle.abnf_parts.specs.Generates.{Generates}
use Rattle.abnf_lint.specs.Empty.{is_above}
use Rattle.abnf_lint.specs.Yields.{Yields, RuleYields}

-- the mark of a part by its number, none behind the last
abbrev pub mark_at : List Bool → ℕ → Bool
mark_at marks n = slice_index_or marks n false

-- a repetition yields something: its minimum isn't above its maximum, and is none, or its body yields something
abbrev pub repetition_yields : ℕ → Option ℕ → Bool → Bool
repetition_yields least most body = not (is_above least most) && (nat_eq least 0 || body)

-- Part n yields something, as the parts right below it are marked, and the root of the rule to which it refers.
abbrev pub part_yields : (ℕ → Bool) → (ℕ → ℕ) → ℕ → Part → Bool
part_yields at root n (quoted text exact) = true
part_yields at root n (series characters) = true
part_yields at root n (span low high) = not (nat_lt high low)
part_yields at root n (seq ps) = list_all at (numbers (suc n) ps)
part_yields at root n (alt ps) = list_any at (numbers (suc n) ps)
part_yields at root n (rep least most p) = repetition_yields least most (at (suc n))
part_yields at root n (ref name None) = false
part_yields at root n (ref name (Some r)) = at (root r)
part_yields at root n opaque = false

-- A node yields something, as the parts right below it are marked, and the root of the rule to which it refers.
abbrev pub node_yields : (ℕ → Bool) → (ℕ → ℕ) → Node → Bool
node_yields at root (Quoted text exact) = true
node_yields at root (Series characters) = true
node_yields at root (Span low high) = not (nat_lt high low)
node_yields at root (Seq ns) = list_all at ns
node_yields at root (Alt ns) = list_any at ns
node_yields at root (Rep least most n) = repetition_yields least most (at n)
node_yields at root (Ref name None) = false
node_yields at root (Ref name (Some r)) = at (root r)
node_yields at root Opaque = false

-- There is one mark for each part, and what is marked yields something.
pub record AreSound (rules : List Part) (marks : List Bool) : Type 0 where
  pub one_each : length marks ≡ length (parts_of rules)
  pub each : (n : ℕ) (p : Part) → slice_get (parts_of rules) n ≡ Some p → mark_at marks n ≡ true → (k : ℕ) × Yields (RuleYields rules k) p

-- Of the parts from one number up to another each that yields something by the marks is marked.
abbrev pub AreClosed : List Part → List Bool → ℕ → ℕ → Type 0
AreClosed rules marks start end =
    (n : ℕ) (p : Part) → slice_get (parts_of rules) n ≡ Some p → start ≤ n → n < end → part_yields (mark_at marks) (root_number rules) n p ≡ true → mark_at marks n ≡ true

-- rule r generates a string
abbrev pub IsProductive : List Part → ℕ → Type 0
IsProductive rules r = (root : Part) × (slice_get rules r ≡ Some root) × ((s : List ℕ) × Generates rules root s)

-- The marks say of each rule whether it generates a string.
pub record AreProductive (rules : List Part) (marks : List Bool) : Type 0 where
  pub one_each : length marks ≡ length rules
  pub each : (r : ℕ) → r < length rules → IsTrue (mark_at marks r) ↔ IsProductive rules r
