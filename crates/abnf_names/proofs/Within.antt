-- Each rule that a name stands for is one of the rules of the grammar.
use Rattle.std.proofs.Common.{◌≡◌, ◌<◌, ◌+◌, ℕ, List, [], ◌++◌, map, length, refl, sym, ap, subst, ◌∙◌, length-append, arith}
use Rattle.std.specs.Prelude.{Option, Some, None, IfSome}
use Rattle.std.proofs.lemmas.List.{length-map}
use Rattle.std.proofs.lemmas.List.Quantifiers.{position-Some}
use Rattle.std.specs.Str.{bytes_eq}
use Rattle.abnf_parts.specs.Core.{core_name}
use Rattle.abnf_parts.specs.Names.{Name, rule_number}
use Rattle.abnf_names.specs.Said.{Block}
use Rattle.abnf_names.specs.Rules.{defined, needed, rule_tree, core_tree, rules_of, names_of, Grammar, IsGrammar}

one_name_each : (blocks : List Block) → length (names_of blocks) ≡ length (rules_of blocks)
one_name_each blocks =
    let own = defined blocks in
    let core = needed blocks in
    length-append own (map core_name core)
    ∙ (ap (λ n. length own + n) (length-map core core_name)
    ∙ sym (length-append (map (rule_tree blocks) own) (map (core_tree blocks) core)
    ∙ (ap (λ n. n + length (map (core_tree blocks) core)) (length-map own (rule_tree blocks)) ∙ ap (λ n. length own + n) (length-map core (core_tree blocks)))))

if_some : (o : Option ℕ) (n : ℕ) → ((r : ℕ) → o ≡ Some r → r < n) → IfSome o (λ r. r < n)
if_some None n h = tt
if_some (Some r) n h = h r refl

one_rule_each : (g : Grammar) → IsGrammar g → length g.names ≡ length g.rules
one_rule_each g h = ap (λ k. length k.names) h.is ∙ (one_name_each h.blocks ∙ sym (ap (λ k. length k.rules) h.is))

pub rule_within : (g : Grammar) → IsGrammar g → (name : Name) → IfSome (rule_number g.names name) (λ r. r < length g.rules)
rule_within g h name = if_some (rule_number g.names name) (length g.rules) (λ r e. subst (λ n. r < n) (one_rule_each g h) (position-Some (bytes_eq name) g.names r [] e).0)

-- so is each rule of the text's own
pub own_within : (g : Grammar) → IsGrammar g → (own core : List Name) → own ++ core ≡ g.names → (name : Name) → IfSome (rule_number own name) (λ r. r < length g.rules)
own_within g h own core names name =
    let count : length own + length core ≡ length g.rules = sym (length-append own core) ∙ (ap length names ∙ one_rule_each g h) in
    if_some (rule_number own name) (length g.rules) (λ r e. let few : r < length own = (position-Some (bytes_eq name) own r [] e).0 in omega (arith, count, few))
