-- The rules of renamed blocks are the same but for the name.
use Rattle.std.proofs.Common.{◌≡◌, ℕ, ◌+◌, true, not, List, [], ◌∷◌, ◌++◌, length, map, Option, Some, None, option_map, refl, sym, ap, subst, ◌∙◌, arith}
use Rattle.std.specs.Prelude.{◌↔◌, filter, fold, slice_set, flat_map, filter_map}
use Rattle.std.specs.List.{list_any}
use Rattle.std.specs.Str.{bytes_eq}
use Rattle.std.proofs.lemmas.List.{length-map, map-append}
use Rattle.abnf_token.specs.Classes.{Text}
use Rattle.abnf_token.specs.Folded.{lowercase}
use Rattle.abnf_parts.specs.Part.{alt}
use Rattle.abnf_parts.specs.Tree.{parts}
use Rattle.abnf_parts.specs.Names.{Name, with_name, rule_number}
use Rattle.abnf_parts.specs.Core.{CoreRule, core_rules, core_name, is_needed}
use Rattle.abnf_names.specs.Said.{Block}
use Rattle.abnf_names.specs.Places.{places_of}
use Rattle.abnf_names.specs.Rules.{defines, counted, head_name, defined, undefined, needed, names_of, core_number, said_alternatives, rule_tree, core_tree, rules_of, grammar_of}
use Rattle.abnf_parts.specs.Generates.{RuleGen}
use Rattle.abnf_parts.specs.Reach.{ReachesOpaque}
use Rattle.abnf_rename.specs.Parts.{renamed_part, renamed_rules, KeepsMeaning}
use Rattle.abnf_rename.specs.Rules.{text_and_role, AreSameRules}
use Rattle.abnf_rename.proofs.Rows.{parts_renamed}
use Rattle.abnf_rename.proofs.TreeLaws.{meaning_kept}
use Rattle.abnf_rename.proofs.Shapes.{place_after}
use Rattle.abnf_rename.proofs.NameLaws.{Fresh, AreFresh, after, fold_fresh, fold_after, filter_after, number_after}
use Rattle.abnf_names.proofs.Once.{defined_once}
use Rattle.abnf_rename.proofs.OwnLaws.{OwnRule, own_rule, one_replaced, set_front}
use Rattle.abnf_rename.proofs.CoreKept.{core_trees_kept}
use Rattle.abnf_rename.proofs.GrammarLaws.{AreRenamedBlocks, AreFreshHeads, heads_are, fresh_heads, place_names, places_are, filter_defines, counted_are, told_alternatives, agrees, map_map}

module _ (old : Name) (new : Text) (bs cs : List Block) (h : AreRenamedBlocks old new bs cs) (heads : AreFreshHeads old new bs)
    (fresh : AreFresh old new (map (λ place. lowercase place.text) (places_of bs))) (there : list_any (bytes_eq old) (defined bs) ≡ true) where
  own_fresh : AreFresh old new (defined bs)
  own_fresh = fold_fresh old new (filter_map head_name bs) [] (fresh_heads old new bs heads) tt

  defined_is : defined cs ≡ map (after old new) (defined bs)
  defined_is = ap (fold with_name []) (heads_are old new bs cs h) ∙ fold_after old new (filter_map head_name bs) [] (fresh_heads old new bs heads) tt

  undefined_is : undefined cs ≡ undefined bs
  undefined_is =
      (λ i. filter (λ name. not (list_any (bytes_eq name) (defined_is i))) (place_names old new bs cs h i))
      ∙ filter_after old new (map (λ place. lowercase place.text) (places_of bs)) (defined bs) there fresh own_fresh

  needed_is : needed cs ≡ needed bs
  needed_is = ap (λ u. filter (is_needed u) core_rules) undefined_is

  names_is : names_of cs ≡ map (after old new) (defined bs) ++ map core_name (needed bs)
  names_is = (λ i. defined_is i ++ map core_name (needed_is i))

  own : OwnRule old (defined bs) (map core_name (needed bs))
  own = own_rule old (defined bs) (map core_name (needed bs)) there

  names_kept : names_of cs ≡ slice_set (names_of bs) own.rule (lowercase new)
  names_kept =
      names_is
      ∙ (ap (λ l. l ++ map core_name (needed bs)) (one_replaced old new (defined bs) (defined_once bs) own.rule own.own_is)
      ∙ sym (set_front (defined bs) (map core_name (needed bs)) own.rule (lowercase new) own.within))

  tree_kept : (name : Name) → Fresh old new name → rule_tree cs (after old new name) ≡ renamed_part own.rule new (rule_tree bs name)
  tree_kept name f =
      let here = counted (filter (defines name) bs) in
      let others = counted (filter (defines (after old new name)) cs) in
      (λ i. alt (parts (flat_map (said_alternatives (rule_number (names_is i))) others)))
      ∙ (ap (λ l. alt (parts l))
      (told_alternatives old new own.rule new (rule_number (names_of bs)) (rule_number (map (after old new) (defined bs) ++ map core_name (needed bs)))
      (agrees old new (defined bs) (map core_name (needed bs)) own.rule own.is there own_fresh) here others
      (counted_are old new (filter (defines name) bs) (filter (defines (after old new name)) cs) (filter_defines old new name f bs cs heads h)))
      ∙ ap alt (sym (parts_renamed own.rule new (flat_map (said_alternatives (rule_number (names_of bs))) here))))

  trees_kept : (names : List Name) → AreFresh old new names → map (rule_tree cs) (map (after old new) names) ≡ map (renamed_part own.rule new) (map (rule_tree bs) names)
  trees_kept [] f = refl
  trees_kept (name ∷ names) f = (λ i. tree_kept name f.0 i ∷ trees_kept names f.1 i)

  core_number_is : core_number cs ≡ core_number bs
  core_number_is = (λ i name. option_map (λ r. (ap length defined_is ∙ length-map (defined bs) (after old new)) i + r) (rule_number (map core_name (needed_is i)) name))

  not_own : (o : Option ℕ) → option_map (λ q. length (defined bs) + q) o ≡ Some own.rule → ⊥
  not_own None e = absurd (cc)
  not_own (Some q) e = let x : length (defined bs) + q ≡ own.rule = cc in omega (arith, x, own.within)

  core_kept : map (core_tree cs) (needed cs) ≡ map (renamed_part own.rule new) (map (core_tree bs) (needed bs))
  core_kept =
      (λ i. map (λ (c : CoreRule). c.tree (core_number_is i)) (needed_is i))
      ∙ (sym (core_trees_kept own.rule new (core_number bs) (λ name. not_own (rule_number (map core_name (needed bs)) name)) (is_needed (undefined bs)))
      ∙ sym (map_map old new (core_tree bs) (renamed_part own.rule new) (needed bs)))

  rules_kept : rules_of cs ≡ renamed_rules own.rule new (rules_of bs)
  rules_kept =
      (λ i. map (rule_tree cs) (defined_is i) ++ core_kept i)
      ∙ (ap (λ l. l ++ map (renamed_part own.rule new) (map (core_tree bs) (needed bs))) (trees_kept (defined bs) own_fresh)
      ∙ sym (map-append (renamed_part own.rule new) (map (rule_tree bs) (defined bs)) (map (core_tree bs) (needed bs))))

  kept_rules : KeepsMeaning (rules_of bs) (renamed_rules own.rule new (rules_of bs)) (renamed_part own.rule new)
  kept_rules = meaning_kept own.rule new (rules_of bs)

  pub blocks_kept : (text other : List ℕ) → AreSameRules old new (grammar_of text bs) (grammar_of other cs)
  blocks_kept text other = record {
    rule = own.rule;
    is_rule = own.is;
    names = names_kept;
    rules = rules_kept;
    places = places_are old new bs cs h ∙ map_map old new text_and_role (place_after old new) (places_of bs);
    stands = λ name f. ap (λ l. rule_number l (after old new name)) names_is ∙ number_after old new (defined bs) (map core_name (needed bs)) name there f own_fresh;
    generates = λ k r s. subst (λ rules. RuleGen (rules_of bs) k r s ↔ RuleGen rules k r s) (sym rules_kept) (kept_rules.rule_generates k r s);
    reaches = λ r. subst (λ rules. ReachesOpaque (rules_of bs) r ↔ ReachesOpaque rules r) (sym rules_kept) (kept_rules.reaches r);
  }
