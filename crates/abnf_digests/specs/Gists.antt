-- What is left of a tree where it only matters whether it generates anything and which rules it leads to.
use Rattle.std.specs.Prelude.{◌↔◌, ℕ, zero, suc, nat_le, Bool, true, false, Option, Some, None, List, [], Contains, if◌then◌else◌}
use Rattle.abnf_token.specs.Folded.{lowercase}
use Rattle.abnf_parts.specs.Names.{Name}
use Rattle.abnf_parts.specs.Part.{Part, Parts, quoted, series, span, seq, alt, rep, ref, opaque, end, next, subparts}
use Rattle.abnf_lint.specs.Empty.{is_above}
use Rattle.abnf_lint.specs.Yields.{Yields, RuleYields}

-- what always generates something
abbrev pub something : Part
something = series []

-- what never generates anything
abbrev pub nothing : Part
nothing = alt end

-- The gist of a repetition, by whether its minimum is above its maximum, and by its minimum: its body must generate
-- something, or need not; or nothing helps.
abbrev pub repeated_gist : Bool → ℕ → Part → Part
repeated_gist true least body = rep 1 (Some 0) body
repeated_gist false zero body = rep 0 None body
repeated_gist false (suc n) body = rep 1 None body

-- The gist of a part, and of parts side by side: what is left where it only matters whether a tree generates anything and
-- which rules it leads to. A text or a series is `something`, and so is a range, unless it is turned round: then it is
-- `nothing`. Of a repetition is left whether its body must generate something, and whether its minimum is above its maximum.
-- Names are in small letters.
abbrev mutual
  pub gist : Part → Part
  gist (quoted text exact) = something
  gist (series characters) = something
  gist (span low high) = if nat_le low high then something else nothing
  gist (seq ps) = seq (gists ps)
  gist (alt ps) = alt (gists ps)
  gist (rep least most p) = repeated_gist (is_above least most) least (gist p)
  gist (ref name rule) = ref (lowercase name) rule
  gist opaque = opaque

  pub gists : Parts → Parts
  gists end = end
  gists (next p ps) = next (gist p) (gists ps)

-- A part, and parts side by side, whose names are in small letters, with the rule for which each name stands.
abbrev mutual
  pub relinked : (Name → Option ℕ) → Part → Part
  relinked number (quoted text exact) = quoted text exact
  relinked number (series characters) = series characters
  relinked number (span low high) = span low high
  relinked number (seq ps) = seq (all_relinked number ps)
  relinked number (alt ps) = alt (all_relinked number ps)
  relinked number (rep least most p) = rep least most (relinked number p)
  relinked number (ref name rule) = ref name (number name)
  relinked number opaque = opaque

  pub all_relinked : (Name → Option ℕ) → Parts → Parts
  all_relinked number end = end
  all_relinked number (next p ps) = next (relinked number p) (all_relinked number ps)

-- A use of rule q stands somewhere in the part.
abbrev pub UsesRule : Part → ℕ → Type 0
UsesRule p q = (name : List ℕ) × Contains (subparts p) (ref name (Some q))

-- The other part yields something where the part does, whichever rules do, and has opaque parts and uses of the same rules.
pub record IsLike (rules : List Part) (p other : Part) : Type 0 where
  pub yields : (k : ℕ) → Yields (RuleYields rules k) p ↔ Yields (RuleYields rules k) other
  pub has_opaque : Contains (subparts p) opaque ↔ Contains (subparts other) opaque
  pub uses : (q : ℕ) → UsesRule p q ↔ UsesRule other q
