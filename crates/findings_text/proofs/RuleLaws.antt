-- Each text has one print-out of its rules.
use Rattle.std.proofs.Common.{◌≡◌, ◌∙◌, ◌<◌, ◌^◌, ℕ, List, [], ◌∷◌, ◌++◌, length, refl, sym, ap, subst}
use Rattle.std.specs.Prelude.{All}
use Rattle.std.proofs.lemmas.List.Elements.{All-head, All-tail}
use Rattle.abnf_names.specs.Places.{Named}
use Rattle.abnf_names.specs.Rules.{Grammar, IsGrammar}
use Rattle.abnf_names.proofs.Exist.{some_grammar}
use Rattle.abnf_names.proofs.OneGrammar.{one_grammar}
use Rattle.abnf_least.proofs.OneShown.{one_shown}
use Rattle.abnf_least.proofs.SomeShown.{some_shown}
use Rattle.findings_text.specs.Rules.{AreRuleLines, ArePrintedRules, ArePrintedRulesFrom, IsRuleLine, heads, rule_line}
use Rattle.findings_text.specs.Print.{Locator}
use Rattle.findings_text.proofs.HeadLaws.{heads_within}

-- ---- there is one

pub some_lines : (locate : Locator) (file : List ℕ) (g : Grammar) → IsGrammar g → (heads : List (Named × ℕ)) → All (λ head. head.1 < length g.rules) heads → (lines : List ℕ) × AreRuleLines locate file g heads lines
some_lines locate file g is [] within = ([], refl)
some_lines locate file g is (head ∷ heads) within =
    let shown = some_shown g is head.1 (All-head (λ (h : Named × ℕ). h.1 < length g.rules) head heads within) in
    let rest = some_lines locate file g is heads (All-tail (λ (h : Named × ℕ). h.1 < length g.rules) head heads within) in
    let line = rule_line locate file g.text head.0 shown.0 in
    (line ++ rest.0, (line, rest.0, (shown.0, shown.1, refl), rest.1, refl))

pub some_rules : (file text : List ℕ) → length text < 2 ^ 62 → (lines : List ℕ) × ArePrintedRules file text lines
some_rules file text small =
    let g = some_grammar text small in
    let lines = some_lines (λ at. at) file g.0 g.2 (heads g.0.names g.0.places) (heads_within g.0 g.2 g.0.places) in
    (lines.0, record { grammar = g.0; of_text = g.1; right = g.2; lines_are = lines.1 })

-- ---- and only one

one_line : (locate : Locator) (file : List ℕ) (g : Grammar) (head : Named × ℕ) (a b : List ℕ) → IsRuleLine locate file g head a → IsRuleLine locate file g head b → a ≡ b
one_line locate file g head a b x y = x.2 ∙ (ap (rule_line locate file g.text head.0) (one_shown g.rules head.1 x.0 y.0 x.1 y.1) ∙ sym y.2)

pub one_lines : (locate : Locator) (file : List ℕ) (g : Grammar) (heads : List (Named × ℕ)) (a b : List ℕ) → AreRuleLines locate file g heads a → AreRuleLines locate file g heads b → a ≡ b
one_lines locate file g [] a b x y = x ∙ sym y
one_lines locate file g (head ∷ heads) a b x y =
    x.4 ∙ ((λ i. one_line locate file g head x.0 y.0 x.2 y.2 i ++ one_lines locate file g heads x.1 y.1 x.3 y.3 i) ∙ sym y.4)

pub one_rules_from : (locate : Locator) (file text a b : List ℕ) → ArePrintedRulesFrom locate file text a → ArePrintedRulesFrom locate file text b → a ≡ b
one_rules_from locate file text a b x y =
    let same : x.grammar ≡ y.grammar = one_grammar x.grammar y.grammar x.right y.right (x.of_text ∙ sym y.of_text) in
    one_lines locate file y.grammar (heads y.grammar.names y.grammar.places) a b
    (subst (λ (g : Grammar). AreRuleLines locate file g (heads g.names g.places) a) same x.lines_are) y.lines_are

pub one_rules : (file text a b : List ℕ) → ArePrintedRules file text a → ArePrintedRules file text b → a ≡ b
one_rules file text a b x y = one_rules_from (λ at. at) file text a b x y
