-- Which names lead to something opaque, by digests.
use Rattle.std.specs.Prelude.{ℕ, zero, suc, List, Contains, Option}
use Rattle.abnf_parts.specs.Names.{Name}
use Rattle.abnf_parts.specs.Part.{Part, ref, opaque, subparts}
use Rattle.abnf_digests.specs.Digests.{Digest}
use Rattle.findings_index.specs.Holding.{IsAlternative}

-- A chain of so many uses leads from the name to an opaque part.
abbrev pub LeadsToOpaqueBy : List Digest → ℕ → Name → Type 0
LeadsToOpaqueBy digests zero name = (part : Part) × IsAlternative digests name part × Contains (subparts part) opaque
LeadsToOpaqueBy digests (suc uses) name =
    (part : Part) × IsAlternative digests name part × (other : Name) × (rule : Option ℕ) × Contains (subparts part) (ref other rule) × LeadsToOpaqueBy digests uses other
