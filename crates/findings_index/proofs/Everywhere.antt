-- What holds of every use of a name in a part, and of every opaque part in it.
use Rattle.std.proofs.Common.{◌≡◌, ⊎_elim, ℕ, Option, [], subst}
use Rattle.std.specs.Prelude.{Contains}
use Rattle.std.proofs.lemmas.List.Elements.{Contains-append_left, Contains-append_right, Contains-append_cases}
use Rattle.abnf_parts.specs.Part.{Part, Parts, quoted, series, span, seq, alt, rep, ref, opaque, end, next, subparts, all_subparts}
use Rattle.abnf_parts.specs.Names.{Name}
use Rattle.findings_index.proofs.Elements.{first_in, later_in, first_or_later, none_in}

module _ (Use : Name → Option ℕ → Type 0) (Hidden : Type 0) where
  -- of the part itself
  abbrev pub IsSo : Part → Type 0
  IsSo (ref name rule) = Use name rule
  IsSo opaque = Hidden
  IsSo _ = Unit {0}

  abbrev mutual
    pub Everywhere : Part → Type 0
    Everywhere (quoted text exact) = Unit {0}
    Everywhere (series characters) = Unit {0}
    Everywhere (span low high) = Unit {0}
    Everywhere (seq ps) = AllEverywhere ps
    Everywhere (alt ps) = AllEverywhere ps
    Everywhere (rep least most p) = Everywhere p
    Everywhere (ref name rule) = Use name rule
    Everywhere opaque = Hidden

    pub AllEverywhere : Parts → Type 0
    AllEverywhere end = Unit {0}
    AllEverywhere (next p ps) = Everywhere p × AllEverywhere ps

  itself : (p x : Part) → IsSo p → p ≡ x → IsSo x
  itself p x h e = subst IsSo e h

  mutual
    pub at_each : (p x : Part) → Everywhere p → Contains (subparts p) x → IsSo x
    at_each (quoted text exact) x h c = ⊎_elim (itself (quoted text exact) x h) (λ d. none_in x d) (first_or_later (quoted text exact) [] x c)
    at_each (series characters) x h c = ⊎_elim (itself (series characters) x h) (λ d. none_in x d) (first_or_later (series characters) [] x c)
    at_each (span low high) x h c = ⊎_elim (itself (span low high) x h) (λ d. none_in x d) (first_or_later (span low high) [] x c)
    at_each (seq ps) x h c = ⊎_elim (itself (seq ps) x tt) (λ d. at_all ps x h d) (first_or_later (seq ps) (all_subparts ps) x c)
    at_each (alt ps) x h c = ⊎_elim (itself (alt ps) x tt) (λ d. at_all ps x h d) (first_or_later (alt ps) (all_subparts ps) x c)
    at_each (rep least most p) x h c = ⊎_elim (itself (rep least most p) x tt) (λ d. at_each p x h d) (first_or_later (rep least most p) (subparts p) x c)
    at_each (ref name rule) x h c = ⊎_elim (itself (ref name rule) x h) (λ d. none_in x d) (first_or_later (ref name rule) [] x c)
    at_each opaque x h c = ⊎_elim (itself opaque x h) (λ d. none_in x d) (first_or_later opaque [] x c)

    at_all : (ps : Parts) (x : Part) → AllEverywhere ps → Contains (all_subparts ps) x → IsSo x
    at_all end x h c = none_in x c
    at_all (next p ps) x h c = ⊎_elim (λ d. at_each p x h.0 d) (λ d. at_all ps x h.1 d) (Contains-append_cases (subparts p) (all_subparts ps) x c)

  mutual
    everywhere : (p : Part) → ((x : Part) → Contains (subparts p) x → IsSo x) → Everywhere p
    everywhere (quoted text exact) h = tt
    everywhere (series characters) h = tt
    everywhere (span low high) h = tt
    everywhere (seq ps) h = all_everywhere ps (λ x c. h x (later_in (seq ps) (all_subparts ps) x c))
    everywhere (alt ps) h = all_everywhere ps (λ x c. h x (later_in (alt ps) (all_subparts ps) x c))
    everywhere (rep least most p) h = everywhere p (λ x c. h x (later_in (rep least most p) (subparts p) x c))
    everywhere (ref name rule) h = h (ref name rule) (first_in (ref name rule) [])
    everywhere opaque h = h opaque (first_in opaque [])

    all_everywhere : (ps : Parts) → ((x : Part) → Contains (all_subparts ps) x → IsSo x) → AllEverywhere ps
    all_everywhere end h = tt
    all_everywhere (next p ps) h = (
      everywhere p (λ x c. h x (Contains-append_left (subparts p) (all_subparts ps) x c)),
      all_everywhere ps (λ x c. h x (Contains-append_right (subparts p) (all_subparts ps) x c)),
    )

  so_by : (p : Part) → ((name : Name) (rule : Option ℕ) → Contains (subparts p) (ref name rule) → Use name rule) → (Contains (subparts p) opaque → Hidden)
      → (x : Part) → Contains (subparts p) x → IsSo x
  so_by p f g (ref name rule) c = f name rule c
  so_by p f g opaque c = g c
  so_by p f g x c = tt

  pub everywhere_by : (p : Part) → ((name : Name) (rule : Option ℕ) → Contains (subparts p) (ref name rule) → Use name rule) → (Contains (subparts p) opaque → Hidden)
      → Everywhere p
  everywhere_by p f g = everywhere p (so_by p f g)
