-- Each reference in the rules of a text is to one of them.
use Rattle.std.proofs.Common.{◌≡◌, ◌<◌, ◌+◌, ℕ, List, [], ◌∷◌, map, length, sym, ap, subst, ◌∙◌, length-append}
use Rattle.std.specs.Prelude.{Option, Some, flat_map, filter, Result, Ok, Err}
use Rattle.std.specs.List.{AllByRecursion}
use Rattle.std.proofs.lemmas.List.{length-map}
use Rattle.abnf_syntax.specs.declared.fault.SyntaxFault.{SyntaxFault}
use Rattle.abnf_syntax.specs.declared.tree.Rule.{Rule}
use Rattle.abnf_parts.specs.Part.{alt, parts_of}
use Rattle.std.specs.Str.{bytes_eq}
use Rattle.abnf_parts.specs.Tree.{parts}
use Rattle.abnf_parts.specs.Names.{Name, rule_number}
use Rattle.abnf_parts.specs.Core.{core_rules, core_name, is_needed}
use Rattle.abnf_names.specs.Said.{Block}
use Rattle.abnf_names.specs.Rules.{rules_of, rule_tree, core_tree, core_number, names_of, defined, needed, counted, defines, undefined, said_alternatives, alternatives_said}
use Rattle.abnf_parts.proofs.Closed.{Closed, IsClosed, all_both, all_filter, side_closed, alternatives_closed, cores_closed, position_within, core_within, trees_closed, parts_closed}

-- where a name stands for no more than so many rules
module _ (count : ℕ) (number : Name → Option ℕ) (bounded : (n : Name) (r : ℕ) → number n ≡ Some r → r < count) where
  said_closed : (said : Result Rule SyntaxFault) → AllByRecursion (IsClosed count) (alternatives_said number said)
  said_closed (Ok rule) = alternatives_closed count number bounded rule.body
  said_closed (Err fault) = ((tt, tt), tt)

  blocks_closed : (blocks : List Block) → AllByRecursion (IsClosed count) (flat_map (said_alternatives number) blocks)
  blocks_closed [] = tt
  blocks_closed (b ∷ blocks) = all_both (IsClosed count) (said_alternatives number b) (flat_map (said_alternatives number) blocks) (said_closed b.said) (blocks_closed blocks)

  rule_closed : (blocks : List Block) → IsClosed count (alt (parts (flat_map (said_alternatives number) blocks)))
  rule_closed blocks = (tt, side_closed count (flat_map (said_alternatives number) blocks) (blocks_closed blocks))

own_closed : (count : ℕ) (blocks : List Block) (number : Name → Option ℕ) (bounded : (n : Name) (r : ℕ) → number n ≡ Some r → r < count) (names : List Name) →
    AllByRecursion (IsClosed count) (map (λ name. alt (parts (flat_map (said_alternatives number) (counted (filter (defines name) blocks))))) names)
own_closed count blocks number bounded [] = tt
own_closed count blocks number bounded (n ∷ names) = (rule_closed count number bounded (counted (filter (defines n) blocks)), own_closed count blocks number bounded names)

-- the rules of a text refer to one another alone
pub rules_closed : (blocks : List Block) → Closed (length (rules_of blocks)) (parts_of (rules_of blocks))
rules_closed blocks =
    let own = map (rule_tree blocks) (defined blocks) in
    let core = map (core_tree blocks) (needed blocks) in
    let total : length (rules_of blocks) ≡ length (defined blocks) + length (needed blocks) =
    length-append own core ∙ (ap (λ k. k + length core) (length-map (defined blocks) (rule_tree blocks)) ∙ ap (λ k. length (defined blocks) + k) (length-map (needed blocks) (core_tree blocks))) in
    let named : length (names_of blocks) ≡ length (defined blocks) + length (needed blocks) =
    length-append (defined blocks) (map core_name (needed blocks)) ∙ ap (λ k. length (defined blocks) + k) (length-map (needed blocks) core_name) in
    parts_closed (length (rules_of blocks)) (rules_of blocks)
    (all_both (IsClosed (length (rules_of blocks))) own core
    (own_closed (length (rules_of blocks)) blocks (rule_number (names_of blocks))
    (λ n r e. subst (λ k. r < k) (named ∙ sym total) (position_within (bytes_eq n) (names_of blocks) r e)) (defined blocks))
    (trees_closed (length (rules_of blocks)) (core_number blocks) (needed blocks)
    (all_filter (λ c. IsClosed (length (rules_of blocks)) (c.tree (core_number blocks))) (is_needed (undefined blocks)) core_rules
    (cores_closed (length (rules_of blocks)) (core_number blocks)
    (λ n r e. subst (λ k. r < k) (sym total)
    (core_within (length (defined blocks)) (rule_number (map core_name (needed blocks)) n) (length (needed blocks)) r
    (λ k f. subst (λ l. k < l) (length-map (needed blocks) core_name) (position_within (bytes_eq n) (map core_name (needed blocks)) k f)) e))))))
