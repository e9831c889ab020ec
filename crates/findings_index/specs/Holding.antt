-- Which names hold, by digests: a name holds where its rule would generate something if all that is opaque did.
use Rattle.std.specs.Prelude.{◌≡◌, ℕ, zero, suc, ◌≤◌, ◌⊎◌, true, false, List, Contains, filter}
use Rattle.std.specs.List.{list_any}
use Rattle.std.specs.Str.{bytes_eq}
use Rattle.abnf_parts.specs.Part.{Part, Parts, quoted, series, span, seq, alt, rep, ref, opaque, end, next}
use Rattle.abnf_parts.specs.Generates.{UpTo}
use Rattle.abnf_parts.specs.Names.{Name}
use Rattle.abnf_parts.specs.Core.{is_core_name}
use Rattle.abnf_digests.specs.Digests.{Digest, defines_by, counted_by, defined_by}

-- A part holds, where it is said which names do: it generates something if all that is opaque does.
abbrev mutual
  pub Holds : (Name → Type 0) → Part → Type 0
  Holds At (quoted text exact) = Unit {0}
  Holds At (series characters) = Unit {0}
  Holds At (span low high) = low ≤ high
  Holds At (seq ps) = EachHolds At ps
  Holds At (alt ps) = SomeHolds At ps
  Holds At (rep least most p) = UpTo most least × ((least ≡ 0) ⊎ Holds At p)
  Holds At (ref name rule) = At name
  Holds At opaque = Unit {0}

  pub EachHolds : (Name → Type 0) → Parts → Type 0
  EachHolds At end = Unit {0}
  EachHolds At (next p ps) = Holds At p × EachHolds At ps

  pub SomeHolds : (Name → Type 0) → Parts → Type 0
  SomeHolds At end = ⊥
  SomeHolds At (next p ps) = Holds At p ⊎ SomeHolds At ps

-- The name is that of a core rule, and no block defines it (RFC 5234, appendix B.1).
abbrev pub IsOfCore : List Digest → Name → Type 0
IsOfCore digests name = (is_core_name name ≡ true) × (list_any (bytes_eq name) (defined_by digests) ≡ false)

-- The part is an alternative of a block of the name that counts.
pub record IsAlternative (digests : List Digest) (name : Name) (part : Part) : Type 0 where
  pub digest : Digest
  pub counts : Contains (counted_by (filter (defines_by name) digests)) digest
  pub says : Contains digest.said part

-- The name holds with fewer than k nested references, but for those of core rules.
abbrev pub HoldsBy : List Digest → ℕ → Name → Type 0
HoldsBy digests zero name = ⊥
HoldsBy digests (suc k) name = IsOfCore digests name ⊎ ((part : Part) × IsAlternative digests name part × Holds (HoldsBy digests k) part)

-- No block defines the name, and no core rule has it.
abbrev pub IsStrange : List Digest → Name → Type 0
IsStrange digests name = (is_core_name name ≡ false) × (list_any (bytes_eq name) (defined_by digests) ≡ false)
