-- The rules that digests tell are the gists of the rules of a text.
use Rattle.std.proofs.Common.{◌≡◌, ◌↔◌, ◌+◌, ℕ, suc, List, [], ◌∷◌, ◌++◌, length, map, Option, option_map, refl, sym, ap, subst, ◌∙◌}
use Rattle.std.specs.Prelude.{flat_map, filter}
use Rattle.std.proofs.lemmas.List.{map-append}
use Rattle.abnf_parts.specs.Part.{Part, alt}
use Rattle.abnf_parts.specs.Tree.{parts}
use Rattle.abnf_parts.specs.Names.{Name, rule_number}
use Rattle.abnf_parts.specs.Core.{CoreRule, core_name}
use Rattle.abnf_names.specs.Said.{Block}
use Rattle.abnf_names.specs.Rules.{defines, counted, defined, needed, names_of, said_alternatives, rule_tree, core_tree, rules_of}
use Rattle.abnf_lint.specs.Unproductive.{IsUnproductive}
use Rattle.abnf_lint.specs.Yields.{RuleYields}
use Rattle.abnf_lint.proofs.YieldLaw.{rule_yields, string_of_rule}
use Rattle.abnf_digests.specs.Gists.{gist}
use Rattle.abnf_digests.specs.Digests.{digest_of, defines_by, counted_by, said_with, rule_by, core_by, rules_by}
use Rattle.abnf_digests.proofs.Heads.{defines_is, defined_is, filter_is, counted_is}
use Rattle.abnf_digests.proofs.Names.{needed_is, names_are}
use Rattle.abnf_digests.proofs.SaidGists.{gists_map, all_said}
use Rattle.abnf_digests.proofs.GistLaws.{rule_to, rule_from, reaches}

maps : {A B C : Type 0} (f : A → B) (g : B → C) (h : A → C) → ((x : A) → g (f x) ≡ h x) → (xs : List A) → map g (map f xs) ≡ map h xs
maps f g h same [] = refl
maps f g h same (x ∷ xs) = (λ i. same x i ∷ maps f g h same xs i)

module _ (blocks : List Block) where
  counted_are : (name : Name) → counted_by (filter (defines_by name) (map digest_of blocks)) ≡ map digest_of (counted (filter (defines name) blocks))
  counted_are name = ap counted_by (filter_is (defines_by name) (defines name) (defines_is name) blocks) ∙ counted_is (filter (defines name) blocks)

  rule_is : (name : Name) → gist (rule_tree blocks name) ≡ rule_by (map digest_of blocks) name
  rule_is name =
      ap alt (gists_map (flat_map (said_alternatives (rule_number (names_of blocks))) (counted (filter (defines name) blocks))))
      ∙ ap (λ l. alt (parts l))
      (sym (all_said (rule_number (names_of blocks)) (counted (filter (defines name) blocks)))
      ∙ (λ i. flat_map (said_with (rule_number (names_are blocks i))) (sym (counted_are name) i)))

  core_is : (core : CoreRule) → gist (core_tree blocks core) ≡ core_by (map digest_of blocks) core
  core_is core =
      ap (λ (number : Name → Option ℕ). gist (core.tree number))
      (λ i name. option_map (λ r. length (sym (defined_is blocks) i) + r) (rule_number (map core_name (sym (needed_is blocks) i)) name))

  pub rules_are : map gist (rules_of blocks) ≡ rules_by (map digest_of blocks)
  rules_are =
      map-append gist (map (rule_tree blocks) (defined blocks)) (map (core_tree blocks) (needed blocks))
      ∙ ((λ i. maps (rule_tree blocks) gist (rule_by (map digest_of blocks)) rule_is (defined blocks) i
      ++ maps (core_tree blocks) gist (core_by (map digest_of blocks)) core_is (needed blocks) i)
      ∙ (λ i. map (rule_by (map digest_of blocks)) (sym (defined_is blocks) i) ++ map (core_by (map digest_of blocks)) (sym (needed_is blocks) i)))

-- ---- rules that generate nothing

module _ (rules : List Part) (r : ℕ) where
  unproductive_to : IsUnproductive rules r → IsUnproductive (map gist rules) r
  unproductive_to u = record {
    known = λ h. u.known ((reaches rules r).1 h);
    nothing = λ root is s g.
        let y : RuleYields rules (suc g.0) r = rule_from rules (suc g.0) r (rule_yields (map gist rules) (suc g.0) r s (root, is, g.1)) in
        let t = string_of_rule rules (suc g.0) r y in
        u.nothing t.1.0 t.1.1 t.0 (g.0, t.1.2);
  }

  unproductive_from : IsUnproductive (map gist rules) r → IsUnproductive rules r
  unproductive_from u = record {
    known = λ h. u.known ((reaches rules r).0 h);
    nothing = λ root is s g.
        let y : RuleYields (map gist rules) (suc g.0) r = rule_to rules (suc g.0) r (rule_yields rules (suc g.0) r s (root, is, g.1)) in
        let t = string_of_rule (map gist rules) (suc g.0) r y in
        u.nothing t.1.0 t.1.1 t.0 (g.0, t.1.2);
  }

pub unproductive_alike : (blocks : List Block) (r : ℕ) → IsUnproductive (rules_of blocks) r ↔ IsUnproductive (rules_by (map digest_of blocks)) r
unproductive_alike blocks r =
    subst (λ rules. IsUnproductive (rules_of blocks) r ↔ IsUnproductive rules r) (rules_are blocks)
    (unproductive_to (rules_of blocks) r, unproductive_from (rules_of blocks) r)
