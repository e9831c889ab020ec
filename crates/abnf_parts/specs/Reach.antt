-- Which rules lead to an opaque part.
use Rattle.std.specs.Prelude.{◌≡◌, ℕ, zero, suc, ◌<◌, ◌↔◌, Bool, false, IsTrue, Some, List, length, slice_get, slice_index_or, Contains}
use Rattle.abnf_parts.specs.Part.{Part, ref, opaque, subparts}

-- a chain of so many uses leads from rule r to an opaque part
abbrev pub ReachesBy : List Part → ℕ → ℕ → Type 0
ReachesBy rules zero r = (root : Part) × (slice_get rules r ≡ Some root) × Contains (subparts root) opaque
ReachesBy rules (suc uses) r =
    (root : Part) × (slice_get rules r ≡ Some root) × (name : List ℕ) × (q : ℕ) × Contains (subparts root) (ref name (Some q)) × ReachesBy rules uses q

-- a chain of uses leads from rule r to an opaque part: prose, or a faulty block
abbrev pub ReachesOpaque : List Part → ℕ → Type 0
ReachesOpaque rules r = (uses : ℕ) × ReachesBy rules uses r

-- the marks say of each rule whether a chain of uses leads from it to an opaque part
pub record AreReaching (rules : List Part) (marks : List Bool) : Type 0 where
  pub one_each : length marks ≡ length rules
  pub each : (r : ℕ) → r < length rules → IsTrue (slice_index_or marks r false) ↔ ReachesOpaque rules r
