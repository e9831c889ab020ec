-- Rules that generate nothing.
use Rattle.std.specs.Prelude.{◌≡◌, ℕ, ◌<◌, ◌↔◌, Bool, false, IsTrue, Some, List, length, slice_get, slice_index_or}
use Rattle.abnf_parts.specs.Part.{Part}
use Rattle.abnf_parts.specs.Generates.{Generates}
use Rattle.abnf_parts.specs.Reach.{ReachesOpaque}

-- rule r generates no string, and no chain of uses leads from it to an opaque part, prose or a faulty block
pub record IsUnproductive (rules : List Part) (r : ℕ) : Type 0 where
  pub known : ReachesOpaque rules r → ⊥
  pub nothing : (root : Part) → slice_get rules r ≡ Some root → (s : List ℕ) → Generates rules root s → ⊥

-- the marks say of each rule whether it is unproductive
pub record AreUnproductive (rules : List Part) (marks : List Bool) : Type 0 where
  pub one_each : length marks ≡ length rules
  pub each : (r : ℕ) → r < length rules → IsTrue (slice_index_or marks r false) ↔ IsUnproductive rules r
