-- Marks of names that are sound and closed say which names hold, and which lead to something opaque.
use Rattle.std.proofs.Common.{◌≡◌, ℕ, zero, suc, inl, inr, Bool, true, false, not, Option, Some, None, List, refl, ap}
use Rattle.std.specs.Prelude.{◌↔◌, nat_lt, nat_eq}
use Rattle.std.specs.Option.{option_map_or}
use Rattle.std.proofs.lemmas.Bool.{le-leb, le-ltb, eq-eqb, or_left, or_right, and_from}
use Rattle.abnf_parts.specs.Generates.{UpTo}
use Rattle.abnf_parts.specs.Names.{Name}
use Rattle.abnf_parts.specs.Part.{Part, Parts, quoted, series, span, seq, alt, rep, ref, opaque, end, next}
use Rattle.abnf_digests.specs.Digests.{Digest}
use Rattle.findings_index.specs.Holding.{Holds, EachHolds, SomeHolds, HoldsBy}
use Rattle.findings_index.specs.Leading.{LeadsToOpaqueBy}
use Rattle.findings_index.specs.Marked.{holds, each_holds, some_holds, AreHoldingMarks, AreLeadingMarks}

not_above : (least : ℕ) (most : Option ℕ) → UpTo most least → not (option_map_or (λ m. nat_lt m least) most false) ≡ true
not_above least None u = refl
not_above least (Some most) u = ap not (le-ltb most least u)

-- A part holds by marks where it holds by what they mark.
module _ (At : Name → Type 0) (at : Name → Bool) (marked : (name : Name) → At name → at name ≡ true) where
  mutual
    pub part_held : (p : Part) → Holds At p → holds at p ≡ true
    part_held (quoted text exact) h = refl
    part_held (series characters) h = refl
    part_held (span low high) h = le-leb low high h
    part_held (seq ps) h = each_held ps h
    part_held (alt ps) h = some_held ps h
    part_held (rep least most p) (u, inl z) =
        and_from (not (option_map_or (λ m. nat_lt m least) most false)) _ (not_above least most u) (or_left _ (holds at p) (eq-eqb least 0 z))
    part_held (rep least most p) (u, inr y) =
        and_from (not (option_map_or (λ m. nat_lt m least) most false)) _ (not_above least most u) (or_right (nat_eq least 0) _ (part_held p y))
    part_held (ref name rule) h = marked name h
    part_held opaque h = refl

    each_held : (ps : Parts) → EachHolds At ps → each_holds at ps ≡ true
    each_held end h = refl
    each_held (next p ps) h = and_from (holds at p) (each_holds at ps) (part_held p h.0) (each_held ps h.1)

    some_held : (ps : Parts) → SomeHolds At ps → some_holds at ps ≡ true
    some_held end h = absurd h
    some_held (next p ps) (inl h) = or_left (holds at p) (some_holds at ps) (part_held p h)
    some_held (next p ps) (inr h) = or_right (holds at p) (some_holds at ps) (some_held ps h)

module _ (digests : List Digest) (at : Name → Bool) where
  held_by : AreHoldingMarks digests at → (k : ℕ) (name : Name) → HoldsBy digests k name → at name ≡ true
  held_by marks zero name h = absurd h
  held_by marks (suc k) name (inl core) = marks.core name core
  held_by marks (suc k) name (inr h) = marks.closed name h.0 h.1 (part_held (HoldsBy digests k) at (held_by marks k) h.0 h.2)

  pub held : AreHoldingMarks digests at → (name : Name) → (at name ≡ true) ↔ ((k : ℕ) × HoldsBy digests k name)
  held marks name = (marks.sound name, λ h. held_by marks h.0 name h.1)

  led_by : AreLeadingMarks digests at → (uses : ℕ) (name : Name) → LeadsToOpaqueBy digests uses name → at name ≡ true
  led_by marks zero name h = marks.begins name h.0 h.1 h.2
  led_by marks (suc uses) name h = marks.closed name h.2 h.0 h.3 h.1 h.4 (led_by marks uses h.2 h.5)

  pub led : AreLeadingMarks digests at → (name : Name) → (at name ≡ true) ↔ ((uses : ℕ) × LeadsToOpaqueBy digests uses name)
  led marks name = (marks.sound name, λ h. led_by marks h.0 name h.1)
