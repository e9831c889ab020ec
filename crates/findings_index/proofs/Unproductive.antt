-- Names tell which rules generate nothing and lead to nothing opaque.
use Rattle.std.proofs.Common.{◌≡◌, ⊎_elim, inl, inr, ℕ, zero, suc, List, map, Option, Some, sym, ap, subst, ◌∙◌}
use Rattle.std.specs.Prelude.{◌↔◌, Contains, slice_get}
use Rattle.std.specs.List.{list_any}
use Rattle.std.specs.Str.{bytes_eq}
use Rattle.std.proofs.lemmas.List.Elements.{All-contains}
use Rattle.std.proofs.lemmas.Option.{same_Some}
use Rattle.abnf_syntax.specs.Blocks.{line_texts}
use Rattle.abnf_parts.specs.Part.{Part, ref, opaque, subparts}
use Rattle.abnf_parts.specs.Names.{Name, rule_number}
use Rattle.abnf_parts.specs.Core.{core_rules, core_name, is_needed}
use Rattle.abnf_parts.specs.Reach.{ReachesBy, ReachesOpaque}
use Rattle.abnf_parts.proofs.NameLaws.{never, same_refl}
use Rattle.abnf_names.specs.Said.{Block, BlockSays, AreSaid}
use Rattle.abnf_names.specs.Rules.{names_of, rules_of}
use Rattle.abnf_names.proofs.Kept.{each_says}
use Rattle.abnf_lint.specs.Unproductive.{IsUnproductive}
use Rattle.abnf_lint.specs.Yields.{Yields, RuleYields}
use Rattle.abnf_lint.proofs.YieldLaw.{rule_yields as generating_yields, string_of_rule}
use Rattle.abnf_digests.specs.Gists.{relinked}
use Rattle.abnf_digests.specs.Digests.{Digest, digest_of, undefined_by, rule_by, core_by, rules_by}
use Rattle.abnf_digests.proofs.Names.{names_are}
use Rattle.abnf_digests.proofs.Rules.{unproductive_alike}
use Rattle.findings_index.specs.Holding.{IsOfCore, IsAlternative, HoldsBy}
use Rattle.findings_index.specs.Leading.{LeadsToOpaqueBy}
use Rattle.findings_index.proofs.Elements.{any_there, kept_back, mapped_back}
use Rattle.findings_index.proofs.Everywhere.{Everywhere, everywhere_by}
use Rattle.findings_index.proofs.ToldOfBlock.{uses_told}
use Rattle.findings_index.proofs.Standing.{IsOwn, IsOwnRule, IsCoreRule, stands, own_number}
use Rattle.findings_index.proofs.CoreHolds.{core_yields, core_leads_nowhere}
use Rattle.findings_index.proofs.Holding.{Carries, part_yields, part_holds, hidden_there, hidden_back, use_there, use_back}
use Rattle.findings_index.proofs.Alternatives.{number, alternative_own, rule_yields, yields_back, in_rule, in_rule_back, AllUsed, held_stands, leads_own}

module _ (digests : List Digest) where
  abbrev rules : List Part
  rules = rules_by digests

  of_core : (name : Name) (r : ℕ) → IsCoreRule digests name r → IsOfCore digests name
  of_core name r c = (
    any_there (λ core. bytes_eq (core_name core) name) core_rules c.inner.core (kept_back (is_needed (undefined_by digests)) core_rules c.inner.core c.inner.needed).0
        (ap (λ n. bytes_eq n name) c.inner.named ∙ same_refl name),
    c.other,
  )

  -- ---- a name that holds, and leads to nothing opaque, stands for a rule that yields something

  module _ (used : AllUsed digests) where
    abbrev To : ℕ → Type 0
    To k = (name : Name) (r : ℕ) → number digests name ≡ Some r → (ReachesOpaque rules r → ⊥) → HoldsBy digests k name → RuleYields rules (suc k) r

    -- what the rule of a name uses leads to nothing opaque either
    used_known : (name : Name) (r : ℕ) → IsOwnRule digests name r → (ReachesOpaque rules r → ⊥) → (part : Part) → IsAlternative digests name part
        → (other : Name) (rule : Option ℕ) (q : ℕ) → number digests other ≡ Some q → Contains (subparts part) (ref other rule) → ReachesOpaque rules q → ⊥
    used_known name r own known part a other rule q e c g =
        let there = in_rule digests name part (ref other (Some q)) a (use_there (number digests) part other rule q e c) in
        known (suc g.0, (rule_by digests name, own.is, other, q, there, g.1))

    carries : (k : ℕ) → To k → (name : Name) (r : ℕ) → IsOwnRule digests name r → (ReachesOpaque rules r → ⊥) → (part : Part) → IsAlternative digests name part
        → Everywhere (Carries (number digests) (HoldsBy digests k) (RuleYields rules (suc k))) ⊥ part
    carries k more name r own known part a =
        everywhere_by (Carries (number digests) (HoldsBy digests k) (RuleYields rules (suc k))) ⊥ part
        (λ other rule c h.
        let q = held_stands digests used name part a other rule c k h in
        (q.0, q.1, more other q.0 q.1 (used_known name r own known part a other rule q.0 q.1 c) h))
        (λ c. known (0, (rule_by digests name, own.is, in_rule digests name part opaque a (hidden_there (number digests) part c))))

    own_to : (k : ℕ) → To k → (name : Name) (r : ℕ) → IsOwnRule digests name r → (ReachesOpaque rules r → ⊥) → HoldsBy digests (suc k) name → RuleYields rules (suc (suc k)) r
    own_to k more name r own known (inl h) = never (list_any (bytes_eq name) _) own.own h.1
    own_to k more name r own known (inr h) = (
      rule_by digests name,
      own.is,
      rule_yields digests (RuleYields rules (suc k)) name h.0 h.1
          (part_yields (number digests) (HoldsBy digests k) (RuleYields rules (suc k)) h.0 (carries k more name r own known h.0 h.1) h.2),
    )

    holds_to : (k : ℕ) → To k
    holds_to zero name r e known h = absurd h
    holds_to (suc k) name r e known h =
        ⊎_elim (λ own. own_to k (holds_to k) name r own known h)
        (λ core. (core_by digests core.inner.core, core.inner.is, core_yields digests k core.inner.core core.inner.needed)) (stands digests name r e)

  -- ---- and the other way round

  abbrev From : ℕ → Type 0
  From k = (name : Name) (r : ℕ) → number digests name ≡ Some r → RuleYields rules k r → HoldsBy digests k name

  own_from : (k : ℕ) → From k → (name : Name) (r : ℕ) → IsOwnRule digests name r → RuleYields rules (suc k) r → HoldsBy digests (suc k) name
  own_from k more name r own y =
      let same : y.0 ≡ rule_by digests name = same_Some y.0 (rule_by digests name) (sym y.1 ∙ own.is) in
      let b = yields_back digests (RuleYields rules k) name (subst (Yields (RuleYields rules k)) same y.2) in
      inr (b.0, b.1, part_holds (number digests) (HoldsBy digests k) (RuleYields rules k) (λ other q e h. more other q e h) b.0 b.2)

  holds_from : (k : ℕ) → From k
  holds_from zero name r e y = absurd y
  holds_from (suc k) name r e y = ⊎_elim (λ own. own_from k (holds_from k) name r own y) (λ core. inl (of_core name r core)) (stands digests name r e)

  -- ---- names and rules lead to opaque parts alike

  own_not_core : {A : Type 0} (name : Name) (r : ℕ) → IsOwn digests name → IsCoreRule digests name r → A
  own_not_core name r own core = never (list_any (bytes_eq name) _) own core.other

  abbrev LeadTo : ℕ → Type 0
  LeadTo uses = (name : Name) (r : ℕ) → number digests name ≡ Some r → LeadsToOpaqueBy digests uses name → ReachesBy rules uses r

  own_rule : (name : Name) (r : ℕ) → number digests name ≡ Some r → IsOwn digests name → slice_get rules r ≡ Some (rule_by digests name)
  own_rule name r e own = ⊎_elim (λ (h : IsOwnRule digests name r). h.is) (λ core. own_not_core name r own core) (stands digests name r e)

  leads_to : (uses : ℕ) → LeadTo uses
  leads_to zero name r e h =
      (rule_by digests name, own_rule name r e (alternative_own digests name h.0 h.1), in_rule digests name h.0 opaque h.1 (hidden_there (number digests) h.0 h.2))
  leads_to (suc uses) name r e h =
      let q = own_number digests h.2 (leads_own digests uses h.2 h.5) in (
        rule_by digests name,
        own_rule name r e (alternative_own digests name h.0 h.1),
        h.2,
        q.0,
        in_rule digests name h.0 (ref h.2 (Some q.0)) h.1 (use_there (number digests) h.0 h.2 h.3 q.0 q.1 h.4),
        leads_to uses h.2 q.0 q.1 h.5,
      )

  abbrev LeadFrom : ℕ → Type 0
  LeadFrom uses = (name : Name) (r : ℕ) → number digests name ≡ Some r → ReachesBy rules uses r → LeadsToOpaqueBy digests uses name

  in_own : (name : Name) (r : ℕ) (root x : Part) → IsOwnRule digests name r → slice_get rules r ≡ Some root → (rule_by digests name ≡ x → ⊥) → Contains (subparts root) x
      → (part : Part) × IsAlternative digests name part × Contains (subparts (relinked (number digests) part)) x
  in_own name r root x own e n c =
      in_rule_back digests name x n (subst (λ p. Contains (subparts p) x) (same_Some root (rule_by digests name) (sym e ∙ own.is)) c)

  own_leads : (name : Name) (r : ℕ) → IsOwnRule digests name r → ReachesBy rules 0 r → LeadsToOpaqueBy digests 0 name
  own_leads name r own h =
      let b = in_own name r h.0 opaque own h.1 (λ e. absurd (cc (e))) h.2 in
      (b.0, b.1, hidden_back (number digests) b.0 b.2)

  own_leads_on : (uses : ℕ) → LeadFrom uses → (name : Name) (r : ℕ) → IsOwnRule digests name r → ReachesBy rules (suc uses) r → LeadsToOpaqueBy digests (suc uses) name
  own_leads_on uses more name r own h =
      let b = in_own name r h.0 (ref h.2 (Some h.3)) own h.1 (λ e. absurd (cc (e))) h.4 in
      let u = use_back (number digests) b.0 h.2 h.3 b.2 in
      (b.0, b.1, u.0, u.1, u.3, more u.0 h.3 u.2 h.5)

  leads_from : (uses : ℕ) → LeadFrom uses
  leads_from zero name r e h =
      ⊎_elim (λ own. own_leads name r own h) (λ core. absurd (core_leads_nowhere digests 0 name r core.inner h)) (stands digests name r e)
  leads_from (suc uses) name r e h =
      ⊎_elim (λ own. own_leads_on uses (leads_from uses) name r own h) (λ core. absurd (core_leads_nowhere digests (suc uses) name r core.inner h)) (stands digests name r e)

  -- ---- so names tell

  module _ (used : AllUsed digests) (name : Name) (r : ℕ) (e : number digests name ≡ Some r) where
    abbrev NameTells : Type 0
    NameTells = ((k : ℕ) → HoldsBy digests k name → ⊥) × ((uses : ℕ) → LeadsToOpaqueBy digests uses name → ⊥)

    tells_to : IsUnproductive rules r → NameTells
    tells_to u = (
      λ k h.
          let y = holds_to used k name r e u.known h in
          let t = string_of_rule rules (suc k) r y in
          u.nothing t.1.0 t.1.1 t.0 (k, t.1.2),
      λ uses h. u.known (uses, leads_to uses name r e h),
    )

    tells_from : NameTells → IsUnproductive rules r
    tells_from n = record {
      known = λ h. n.1 h.0 (leads_from h.0 name r e h.1);
      nothing = λ root is s g. n.0 (suc g.0) (holds_from (suc g.0) name r e (generating_yields rules (suc g.0) r s (root, is, g.1)));
    }

-- ---- of the blocks of a text

all_used : (text : List ℕ) (blocks : List Block) → AreSaid text blocks → AllUsed (map digest_of blocks)
all_used text blocks said digest c part d name rule there =
    let m = mapped_back digest_of blocks digest c in
    let says = All-contains (λ (block : Block). BlockSays block.items block.said) blocks m.0 (each_says (line_texts text) said.bounds blocks said.each) m.1 in
    subst (λ (x : Digest). Contains x.uses name) m.2 (uses_told m.0 says part (subst (λ (x : Digest). Contains x.said part) (sym m.2) d) name rule there)

pub names_tell : (text : List ℕ) (blocks : List Block) (name : Name) (r : ℕ) → AreSaid text blocks → rule_number (names_of blocks) name ≡ Some r
    → IsUnproductive (rules_of blocks) r ↔ (((k : ℕ) → HoldsBy (map digest_of blocks) k name → ⊥) × ((uses : ℕ) → LeadsToOpaqueBy (map digest_of blocks) uses name → ⊥))
names_tell text blocks name r said e =
    let digests = map digest_of blocks in
    let used = all_used text blocks said in
    let there : number digests name ≡ Some r = ap (λ names. rule_number names name) (sym (names_are blocks)) ∙ e in
    let alike = unproductive_alike blocks r in
    (λ u. tells_to digests used name r there (alike.0 u), λ n. alike.1 (tells_from digests used name r there n))
