-- Marks of names: which hold, and which lead to something opaque.
use Rattle.std.specs.Prelude.{◌≡◌, ℕ, Bool, true, false, not, ◌&&◌, ◌||◌, nat_le, nat_lt, nat_eq, List, Contains, Option}
use Rattle.std.specs.Option.{option_map_or}
use Rattle.abnf_parts.specs.Names.{Name}
use Rattle.abnf_parts.specs.Part.{Part, Parts, quoted, series, span, seq, alt, rep, ref, opaque, end, next, subparts}
use Rattle.abnf_digests.specs.Digests.{Digest}
use Rattle.findings_index.specs.Holding.{IsOfCore, IsAlternative, HoldsBy}
use Rattle.findings_index.specs.Leading.{LeadsToOpaqueBy}

-- A part holds by marks of names.
abbrev mutual
  pub holds : (Name → Bool) → Part → Bool
  holds at (quoted text exact) = true
  holds at (series characters) = true
  holds at (span low high) = nat_le low high
  holds at (seq ps) = each_holds at ps
  holds at (alt ps) = some_holds at ps
  holds at (rep least most p) = not (option_map_or (λ m. nat_lt m least) most false) && (nat_eq least 0 || holds at p)
  holds at (ref name rule) = at name
  holds at opaque = true

  pub each_holds : (Name → Bool) → Parts → Bool
  each_holds at end = true
  each_holds at (next p ps) = holds at p && each_holds at ps

  pub some_holds : (Name → Bool) → Parts → Bool
  some_holds at end = false
  some_holds at (next p ps) = holds at p || some_holds at ps

-- The marks are sound, and closed: each marked name holds, and each name is marked that a core rule has and no block defines, or whose
-- alternative holds by the marks.
pub record AreHoldingMarks (digests : List Digest) (at : Name → Bool) : Type 0 where
  pub sound : (name : Name) → at name ≡ true → (k : ℕ) × HoldsBy digests k name
  pub core : (name : Name) → IsOfCore digests name → at name ≡ true
  pub closed : (name : Name) (part : Part) → IsAlternative digests name part → holds at part ≡ true → at name ≡ true

-- The marks are sound, and closed: each marked name leads to something opaque, and each name is marked that has an opaque part or uses a
-- marked name.
pub record AreLeadingMarks (digests : List Digest) (at : Name → Bool) : Type 0 where
  pub sound : (name : Name) → at name ≡ true → (uses : ℕ) × LeadsToOpaqueBy digests uses name
  pub begins : (name : Name) (part : Part) → IsAlternative digests name part → Contains (subparts part) opaque → at name ≡ true
  pub closed : (name other : Name) (part : Part) (rule : Option ℕ) → IsAlternative digests name part → Contains (subparts part) (ref other rule) → at other ≡ true → at name ≡ true
