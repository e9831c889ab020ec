-- Which parts generate anything: a question of yes or no, which is asked of no string.
use Rattle.std.specs.Prelude.{◌≡◌, ◌↔◌, ℕ, zero, suc, ◌≤◌, ◌⊎◌, Some, None, List, slice_get}
use Rattle.abnf_parts.specs.Part.{Part, Parts, quoted, series, span, seq, alt, rep, ref, opaque, end, next}
use Rattle.abnf_parts.specs.Generates.{UpTo, RuleGen}

-- A part yields something, where it is known which rules do. A row of parts does where each of them does, a choice where one
-- does, a repetition where its minimum is none or its body does. Never do a repetition with its minimum above its maximum, a
-- range turned round, a name that stands for nothing, and what is opaque.
abbrev mutual
  pub Yields : (ℕ → Type 0) → Part → Type 0
  Yields Rule (quoted text exact) = Unit {0}
  Yields Rule (series characters) = Unit {0}
  Yields Rule (span low high) = low ≤ high
  Yields Rule (seq ps) = EachYields Rule ps
  Yields Rule (alt ps) = SomeYields Rule ps
  Yields Rule (rep least most p) = UpTo most least × ((least ≡ 0) ⊎ Yields Rule p)
  Yields Rule (ref name None) = ⊥
  Yields Rule (ref name (Some r)) = Rule r
  Yields Rule opaque = ⊥

  -- each of the parts does
  pub EachYields : (ℕ → Type 0) → Parts → Type 0
  EachYields Rule end = Unit {0}
  EachYields Rule (next p ps) = Yields Rule p × EachYields Rule ps

  -- one of the parts does
  pub SomeYields : (ℕ → Type 0) → Parts → Type 0
  SomeYields Rule end = ⊥
  SomeYields Rule (next p ps) = Yields Rule p ⊎ SomeYields Rule ps

-- rule r yields something with fewer than k nested references
abbrev pub RuleYields : List Part → ℕ → ℕ → Type 0
RuleYields rules zero r = ⊥
RuleYields rules (suc k) r = (root : Part) × (slice_get rules r ≡ Some root) × Yields (RuleYields rules k) root

-- a rule yields something with fewer than k nested references exactly where it generates a string with so few
abbrev pub YieldingIsGenerating : Type 0
YieldingIsGenerating = (rules : List Part) (k r : ℕ) → RuleYields rules k r ↔ ((s : List ℕ) × RuleGen rules k r s)
