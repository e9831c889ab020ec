-- Core rules are as they were, since none of them uses a rule of the text.
use Rattle.std.proofs.Common.{◌≡◌, ℕ, Bool, true, false, cond, List, [], ◌∷◌, map, Option, Some, None, refl, ap}
use Rattle.std.specs.Prelude.{codes, filter, if◌then◌else◌, nat_eq}
use Rattle.std.specs.List.{AllByRecursion}
use Rattle.abnf_token.specs.Folded.{lowercase}
use Rattle.abnf_parts.specs.Part.{Part, quoted, seq, alt, rep, ref, end, next}
use Rattle.abnf_parts.specs.Names.{Name}
use Rattle.abnf_parts.specs.Core.{CoreRule, core_rules}
use Rattle.abnf_rename.specs.Parts.{renamed_name, renamed_part}
use Rattle.abnf_rename.proofs.GrammarLaws.{not_same}

module _ (r : ℕ) (new : List ℕ) (number : Name → Option ℕ) (apart : (name : Name) → number name ≡ Some r → ⊥) where
  kept_by : (name : List ℕ) (o : Option ℕ) → (o ≡ Some r → ⊥) → renamed_name r new name o ≡ name
  kept_by name None n = refl
  kept_by name (Some q) n = ap (λ b. if b then new else name) (not_same [] [] q r (nat_eq q r) refl (λ e. n (ap Some e)))

  kept : (name : List ℕ) → renamed_name r new name (number (lowercase name)) ≡ name
  kept name = kept_by name (number (lowercase name)) (apart (lowercase name))

  abbrev use_of : List ℕ → List ℕ → Part
  use_of name shown = ref shown (number (lowercase name))

  abbrev pub IsKept : CoreRule → Type 0
  IsKept core = renamed_part r new (core.tree number) ≡ core.tree number

  all_kept : AllByRecursion IsKept core_rules
  all_kept = (
    refl,
    (
      refl,
      (
        refl,
        (
          refl,
          (
            (λ i. alt (next (seq (next (use_of (codes "CR") (kept (codes "CR") i)) (next (use_of (codes "LF") (kept (codes "LF") i)) end))) end)),
            (
              refl,
              (
                refl,
                (
                  refl,
                  (
                    (λ i. alt (next (use_of (codes "DIGIT") (kept (codes "DIGIT") i)) (next (quoted (codes "A") false) (next (quoted (codes "B") false) (next (quoted (codes "C") false) (next (quoted (codes "D") false) (next (quoted (codes "E") false) (next (quoted (codes "F") false) end)))))))),
                    (
                      refl,
                      (
                        refl,
                        (
                          (λ i. alt (next (rep 0 None (alt (next (use_of (codes "WSP") (kept (codes "WSP") i)) (next (seq (next (use_of (codes "CRLF") (kept (codes "CRLF") i)) (next (use_of (codes "WSP") (kept (codes "WSP") i)) end))) end)))) end)),
                          (
                            refl,
                            (
                              refl,
                              (
                                refl,
                                (
                                  (λ i. alt (next (use_of (codes "SP") (kept (codes "SP") i)) (next (use_of (codes "HTAB") (kept (codes "HTAB") i)) end))),
                                  tt,
                                ),
                              ),
                            ),
                          ),
                        ),
                      ),
                    ),
                  ),
                ),
              ),
            ),
          ),
        ),
      ),
    ),
  )

  filtered : (test : CoreRule → Bool) (cores : List CoreRule) → AllByRecursion IsKept cores → map (λ core. renamed_part r new (core.tree number)) (filter test cores) ≡ map (λ (core : CoreRule). core.tree number) (filter test cores)
  filtered test [] a = refl
  filtered test (core ∷ cores) a = by (test core) (filtered test cores a.1)
    where
      by : (b : Bool) → map (λ core. renamed_part r new (core.tree number)) (filter test cores) ≡ map (λ (core : CoreRule). core.tree number) (filter test cores) →
          map (λ core. renamed_part r new (core.tree number)) (cond b (core ∷ filter test cores) (filter test cores)) ≡ map (λ (core : CoreRule). core.tree number) (cond b (core ∷ filter test cores) (filter test cores))
      by true e = (λ i. a.0 i ∷ e i)
      by false e = e

  pub core_trees_kept : (test : CoreRule → Bool) → map (λ core. renamed_part r new (core.tree number)) (filter test core_rules) ≡ map (λ (core : CoreRule). core.tree number) (filter test core_rules)
  core_trees_kept test = filtered test core_rules all_kept
