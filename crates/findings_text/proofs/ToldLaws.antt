-- A grammar at the front of a text has one print-out, and one of its rules.
use Rattle.std.proofs.Common.{◌≡◌, ◌∙◌, ◌<◌, ◌^◌, ℕ, List, length, refl, ap, sym, subst}
use Rattle.std.specs.Prelude.{Some, Result, Ok, Err, IfOk}
use Rattle.std.proofs.lemmas.List.Elements.{All-filter}
use Rattle.abnf_names.specs.Places.{Named}
use Rattle.abnf_names.specs.Rules.{Grammar, IsGrammar}
use Rattle.abnf_names.proofs.Exist.{some_grammar}
use Rattle.abnf_names.proofs.OneGrammar.{one_grammar}
use Rattle.abnf_lint.specs.declared.finding.Finding.{Finding}
use Rattle.abnf_lint.proofs.Ascends.{rows_unique}
use Rattle.draft_findings.specs.Reports.{reported}
use Rattle.joined_grammars.specs.declared.repeats.Repeat.{Repeat}
use Rattle.findings_text.specs.declared.print.Printed.{Printed}
use Rattle.findings_text.specs.declared.source.Source.{Source}
use Rattle.findings_text.specs.Gaps.{IsFilled}
use Rattle.findings_text.specs.Hints.{compared}
use Rattle.findings_text.specs.Print.{Locator, shown_lines}
use Rattle.findings_text.specs.Rules.{AreRuleLines, heads}
use Rattle.findings_text.specs.Sources.{located}
use Rattle.findings_text.specs.Told.{ArePrintedRulesIn, AreToldWith, IsPrintedIn, stands_in, told_findings, told_heads}
use Rattle.findings_text.specs.Unread.{Asides, outcome_with}
use Rattle.findings_text.proofs.GapLaws.{one_kept, some_kept, text_small}
use Rattle.findings_text.proofs.HeadLaws.{heads_within}
use Rattle.findings_text.proofs.PrintLaws.{one_known, some_known}
use Rattle.findings_text.proofs.RuleLaws.{one_lines, some_lines}

-- ---- the findings

abbrev printed_in : Asides → List Repeat → List ℕ → Locator → List ℕ → List ℕ → List (List ℕ) → List ℕ → List Finding → Printed
printed_in asides repeats ends locate file text names kept found = record {
  lines = shown_lines asides locate (Some kept) names file text (reported repeats ends found);
  outcome = outcome_with asides.1 (reported repeats ends found);
}

is_in : (told : List ℕ) (asides : Asides) (repeats : List Repeat) (ends : List ℕ) (locate : Locator) (file text : List ℕ) (printed : Printed) (is : IsPrintedIn told asides repeats ends locate file text printed)
    → printed ≡ printed_in asides repeats ends locate file text is.names is.kept is.found
is_in told asides repeats ends locate file text printed is = (λ i. record { lines = is.lines_are i; outcome = is.outcome_is i })

module _ (told text : List ℕ) (a b : List Finding) (x y : List (List ℕ)) (k l : List ℕ) (p : AreToldWith told text a x k) (q : AreToldWith told text b y l) where
  one_told : a ≡ b
  one_told = p.found_are ∙ (ap (told_findings told) (rows_unique text p.all q.all p.of_text q.of_text) ∙ sym q.found_are)

  one_told_names : x ≡ y
  one_told_names = p.names_are ∙ ((λ i. compared (one_told i) (one_known text p.known q.known p.are_known q.are_known i)) ∙ sym q.names_are)

  one_told_kept : k ≡ l
  one_told_kept = one_kept told text k l p.are_kept q.are_kept

pub one_in : (told : List ℕ) (asides : Asides) (repeats : List Repeat) (ends : List ℕ) (locate : Locator) (file text : List ℕ) (a b : Printed) → IsPrintedIn told asides repeats ends locate file text a → IsPrintedIn told asides repeats ends locate file text b → a ≡ b
one_in told asides repeats ends locate file text a b p q =
    let names = one_told_names told text p.found q.found p.names q.names p.kept q.kept p.of_text q.of_text in
    let kept = one_told_kept told text p.found q.found p.names q.names p.kept q.kept p.of_text q.of_text in
    let found = one_told told text p.found q.found p.names q.names p.kept q.kept p.of_text q.of_text in
    is_in told asides repeats ends locate file text a p
    ∙ ((λ i. printed_in asides repeats ends locate file text (names i) (kept i) (found i))
    ∙ sym (is_in told asides repeats ends locate file text b q))

some_told : (told text filled : List ℕ) → IsFilled told text filled → length filled < 2 ^ 62 → (found : List Finding) × (names : List (List ℕ)) × (kept : List ℕ) × AreToldWith told text found names kept
some_told told text filled is small =
    let known = some_known text (text_small told text filled is small) in
    let kept = some_kept told text filled is small in
    let found = told_findings told is.found in
    (found, compared found known.0, kept.0, record { all = is.found; of_text = is.of_text; found_are = refl; known = known.0; are_known = known.1; names_are = refl; are_kept = kept.1 })

pub some_in : (told : List ℕ) (asides : Asides) (repeats : List Repeat) (ends : List ℕ) (locate : Locator) (file text filled : List ℕ) → IsFilled told text filled → length filled < 2 ^ 62
    → (printed : Printed) × IsPrintedIn told asides repeats ends locate file text printed
some_in told asides repeats ends locate file text filled is small =
    let front = some_told told text filled is small in
    (printed_in asides repeats ends locate file text front.1 front.2 front.0, record { found = front.0; names = front.1; kept = front.2; of_text = front.3; lines_are = refl; outcome_is = refl })

-- ---- the rules

-- the lines of the rules that stand at the front of a joined text, if there are any
pub told_lines : {E : Type 0} (told : List ℕ) (source : Source) (file text : List ℕ) (g : Grammar) → g.text ≡ text → IsGrammar g → (r : Result (List ℕ) E)
    → IfOk r (λ lines. AreRuleLines (located source g.text) file g (told_heads told (heads g.names g.places)) lines)
    → IfOk r (λ lines. ArePrintedRulesIn told (located source text) file text lines)
told_lines told source file text g is right (Err e) are = are
told_lines told source file text g is right (Ok lines) are = record {
  grammar = g;
  of_text = is;
  right = right;
  lines_are = subst (λ (t : List ℕ). AreRuleLines (located source t) file g (told_heads told (heads g.names g.places)) lines) is are;
}

pub one_rules_in : (told : List ℕ) (locate : Locator) (file text a b : List ℕ) → ArePrintedRulesIn told locate file text a → ArePrintedRulesIn told locate file text b → a ≡ b
one_rules_in told locate file text a b x y =
    let as_one : x.grammar ≡ y.grammar = one_grammar x.grammar y.grammar x.right y.right (x.of_text ∙ sym y.of_text) in
    one_lines locate file y.grammar (told_heads told (heads y.grammar.names y.grammar.places)) a b
    (subst (λ (g : Grammar). AreRuleLines locate file g (told_heads told (heads g.names g.places)) a) as_one x.lines_are) y.lines_are

pub some_rules_in : (told : List ℕ) (locate : Locator) (file text : List ℕ) → length text < 2 ^ 62 → (lines : List ℕ) × ArePrintedRulesIn told locate file text lines
some_rules_in told locate file text small =
    let g = some_grammar text small in
    let all = heads g.0.names g.0.places in
    let within = All-filter (λ (head : Named × ℕ). stands_in told head.0.place) (λ (head : Named × ℕ). head.1 < length g.0.rules) all (heads_within g.0 g.2 g.0.places) in
    let lines = some_lines locate file g.0 g.2 (told_heads told all) within in
    (lines.0, record { grammar = g.0; of_text = g.1; right = g.2; lines_are = lines.1 })
