-- Each needed core rule generates something, and leads to nothing opaque.
use Rattle.std.proofs.Common.{◌≡◌, ◌⊎◌, ⊎_elim, inl, inr, ℕ, zero, suc, Bool, true, false, List, [], ◌∷◌, Option, Some, None, refl, sym, ap, subst, ◌∙◌, arith}
use Rattle.std.specs.Prelude.{Contains, slice_get, codes, IfSome}
use Rattle.std.specs.List.{list_any, AllByRecursion}
use Rattle.std.specs.Str.{bytes_eq}
use Rattle.std.proofs.lemmas.Bool.{or_right}
use Rattle.std.proofs.lemmas.Option.{same_Some}
use Rattle.abnf_parts.specs.declared.core_rule.Core.{Core}
use Rattle.abnf_parts.specs.declared.core_rule.Core.TheVariants.{Alpha, Bit, Char, Cr, Crlf, Ctl, Digit, Dquote, Hexdig, Htab, Lf, Lwsp, Octet, Sp, Vchar, Wsp}
use Rattle.abnf_parts.specs.Part.{Part, ref, opaque}
use Rattle.abnf_parts.specs.Names.{Name}
use Rattle.abnf_parts.specs.Core.{CoreRule, core_rules, core_name, is_needed, cr, crlf, digit, htab, lf, sp, wsp}
use Rattle.abnf_parts.specs.CoreTable.{core_of, users_of, is_core_wanted}
use Rattle.abnf_parts.specs.Reach.{ReachesBy}
use Rattle.abnf_parts.proofs.NeededLaws.{needed_is}
use Rattle.abnf_lint.specs.Yields.{Yields, RuleYields}
use Rattle.abnf_digests.specs.Digests.{Digest, undefined_by, needed_by, core_number_by, core_by, rules_by}
use Rattle.findings_index.proofs.Elements.{first_or_later, none_in, kept, kept_back}
use Rattle.findings_index.proofs.Everywhere.{Everywhere, at_each}
use Rattle.findings_index.proofs.Standing.{IsInner, inner_rule, inner_number}

all_of : {X : Type 0} (P : X → Type 0) (xs : List X) → AllByRecursion P xs → (x : X) → Contains xs x → P x
all_of P [] a x c = none_in x c
all_of P (y ∷ xs) a x c = ⊎_elim (λ e. subst P e a.0) (λ d. all_of P xs a.1 x d) (first_or_later y xs x c)

-- what holds of each of the sixteen
each_core : (P : CoreRule → Type 0) → ((core : Core) → P (core_of core)) → (core : CoreRule) → Contains core_rules core → P core
each_core P at core c =
    all_of P core_rules
    (at Alpha, (at Bit, (at Char, (at Cr, (at Crlf, (at Ctl, (at Digit, (at Dquote, (at Hexdig, (at Htab, (at Lf, (at Lwsp, (at Octet, (at Sp, (at Vchar, (at Wsp, tt))))))))))))))))
    core c

module _ (digests : List Digest) where
  abbrev number : Name → Option ℕ
  number = core_number_by digests

  abbrev unknown : List Name
  unknown = undefined_by digests

  abbrev uses_others : Name → Bool
  uses_others name = list_any (bytes_eq name) (codes "crlf" ∷ codes "wsp" ∷ [])

  -- ---- core rules that need no other generate something

  module _ (Rule : ℕ → Type 0) where
    abbrev IsPlain : CoreRule → Type 0
    IsPlain core = Yields Rule (core_by digests core) ⊎ (uses_others (core_name core) ≡ true)

    plain : (core : Core) → IsPlain (core_of core)
    plain Crlf = inr refl
    plain Hexdig = inl (inr (inl tt))
    plain Lwsp = inl (inl (tt, inl refl))
    plain Wsp = inr refl
    plain core = inl (inl tt)

    plain_of : (core : CoreRule) → Contains (needed_by digests) core → uses_others (core_name core) ≡ false → Yields Rule (core_by digests core)
    plain_of core c e =
        ⊎_elim (λ y. y) (λ h. absurd (let f : true ≡ false = sym h ∙ e in cc (f))) (each_core IsPlain plain core (kept_back (is_needed unknown) core_rules core c).0)

  -- a rule of such a name yields something with no nested reference
  plain_yields : (name : Name) (r k : ℕ) → IsInner digests name r → uses_others name ≡ false → RuleYields (rules_by digests) (suc k) r
  plain_yields name r k inner e =
      (core_by digests inner.core, inner.is, plain_of (RuleYields (rules_by digests) k) inner.core inner.needed (ap uses_others inner.named ∙ e))

  used_yields : (core : CoreRule) (k : ℕ) (name : Name) → Contains (needed_by digests) core → uses_others (core_name core) ≡ false
      → Yields (RuleYields (rules_by digests) (suc k)) (ref name (number (core_name core)))
  used_yields core k name c e =
      let q = inner_number digests core c in
      subst (λ o. Yields (RuleYields (rules_by digests) (suc k)) (ref name o)) (sym q.1) (plain_yields (core_name core) q.0 k (inner_rule digests (core_name core) q.0 q.1) e)

  -- ---- what needed rules use is needed

  wanted : (core : Core) → is_core_wanted unknown (users_of core) ≡ is_needed unknown (core_of core)
  wanted core = needed_is core unknown (users_of core) (is_core_wanted unknown (users_of core)) refl refl

  needs : (user core : Core) → Contains core_rules (core_of core) → (is_core_wanted unknown (users_of user) ≡ true → is_core_wanted unknown (users_of core) ≡ true)
      → Contains (needed_by digests) (core_of user) → Contains (needed_by digests) (core_of core)
  needs user core there f c =
      kept (is_needed unknown) core_rules (core_of core) (sym (wanted core) ∙ f (wanted user ∙ (kept_back (is_needed unknown) core_rules (core_of user) c).1)) there

  behind_first : (name : Name) (names : List Name) → is_core_wanted unknown names ≡ true → is_core_wanted unknown (name ∷ names) ≡ true
  behind_first name names h = or_right (list_any (bytes_eq name) unknown) (is_core_wanted unknown names) h

  cr_needed : Contains (needed_by digests) crlf → Contains (needed_by digests) cr
  cr_needed c = needs Crlf Cr (3, omega arith, refl) (behind_first (codes "cr") (users_of Crlf)) c

  lf_needed : Contains (needed_by digests) crlf → Contains (needed_by digests) lf
  lf_needed c = needs Crlf Lf (10, omega arith, refl) (behind_first (codes "lf") (users_of Crlf)) c

  sp_needed : Contains (needed_by digests) wsp → Contains (needed_by digests) sp
  sp_needed c = needs Wsp Sp (13, omega arith, refl) (behind_first (codes "sp") (users_of Wsp)) c

  -- ---- so each generates something

  abbrev Gives : ℕ → CoreRule → Type 0
  Gives k core = Contains (needed_by digests) core → Yields (RuleYields (rules_by digests) (suc k)) (core_by digests core)

  gives : (k : ℕ) (core : Core) → Gives k (core_of core)
  gives k Crlf c = inl (used_yields cr k (core_name cr) (cr_needed c) refl, (used_yields lf k (core_name lf) (lf_needed c) refl, tt))
  gives k Hexdig c = inr (inl tt)
  gives k Lwsp c = inl (tt, inl refl)
  gives k Wsp c = inl (used_yields sp k (core_name sp) (sp_needed c) refl)
  gives k core c = inl tt

  pub core_yields : (k : ℕ) (core : CoreRule) → Contains (needed_by digests) core → Yields (RuleYields (rules_by digests) (suc k)) (core_by digests core)
  core_yields k core c = each_core (Gives k) (gives k) core (kept_back (is_needed unknown) core_rules core c).0 c

  -- ---- they use core rules alone

  abbrev Inside : Name → Option ℕ → Type 0
  Inside name rule = IfSome rule (λ q. (other : Name) × IsInner digests other q)

  inside_by : (name : Name) (o : Option ℕ) → number name ≡ o → IfSome o (λ q. (other : Name) × IsInner digests other q)
  inside_by name None e = tt
  inside_by name (Some q) e = (name, inner_rule digests name q e)

  inside : (name : Name) → IfSome (number name) (λ q. (other : Name) × IsInner digests other q)
  inside name = inside_by name (number name) refl

  abbrev IsInside : CoreRule → Type 0
  IsInside core = Everywhere Inside ⊥ (core_by digests core)

  each_inside : (core : Core) → IsInside (core_of core)
  each_inside Alpha = (tt, (tt, tt))
  each_inside Bit = (tt, (tt, tt))
  each_inside Crlf = ((inside (core_name cr), (inside (core_name lf), tt)), tt)
  each_inside Ctl = (tt, (tt, tt))
  each_inside Hexdig = (inside (core_name digit), (tt, (tt, (tt, (tt, (tt, (tt, tt)))))))
  each_inside Lwsp = ((inside (core_name wsp), ((inside (core_name crlf), (inside (core_name wsp), tt)), tt)), tt)
  each_inside Wsp = (inside (core_name sp), (inside (core_name htab), tt))
  each_inside core = (tt, tt)

  inside_of : (name : Name) (r : ℕ) (root : Part) → IsInner digests name r → slice_get (rules_by digests) r ≡ Some root → Everywhere Inside ⊥ root
  inside_of name r root inner e =
      subst (Everywhere Inside ⊥) (same_Some (core_by digests inner.core) root (sym inner.is ∙ e))
      (each_core IsInside each_inside inner.core (kept_back (is_needed unknown) core_rules inner.core inner.needed).0)

  pub core_leads_nowhere : (uses : ℕ) (name : Name) (r : ℕ) → IsInner digests name r → ReachesBy (rules_by digests) uses r → ⊥
  core_leads_nowhere zero name r inner h = at_each Inside ⊥ h.0 opaque (inside_of name r h.0 inner h.1) h.2
  core_leads_nowhere (suc uses) name r inner h =
      let there = at_each Inside ⊥ h.0 (ref h.2 (Some h.3)) (inside_of name r h.0 inner h.1) h.4 in
      core_leads_nowhere uses there.0 h.3 there.1 h.5
