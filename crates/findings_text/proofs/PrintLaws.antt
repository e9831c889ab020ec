-- Each text has one print-out, wherever it is said to stand.
use Rattle.std.proofs.Common.{◌≡◌, ◌<◌, ◌^◌, ℕ, List, [], length, refl, ap, sym, ◌∙◌}
use Rattle.std.specs.Prelude.{Option, None, Result, Ok, Err, IfOk}
use Rattle.abnf_names.proofs.Exist.{some_grammar}
use Rattle.abnf_names.proofs.OneGrammar.{one_grammar}
use Rattle.abnf_lint.specs.declared.finding.Finding.{Finding}
use Rattle.abnf_lint.proofs.Ascends.{rows_unique}
use Rattle.draft_findings.specs.Reports.{reported}
use Rattle.joined_grammars.specs.declared.repeats.Repeat.{Repeat}
use Rattle.findings_text.specs.declared.print.Printed.{Printed}
use Rattle.findings_text.specs.Hints.{AreKnown, compared, known_names}
use Rattle.findings_text.specs.Print.{AreFoundWith, IsPrinted, IsPrintedFrom, Locator, shown_lines}
use Rattle.findings_text.specs.Unread.{Asides, no_asides, outcome_with}
use Rattle.abnf_lint.proofs.FindingsExist.{some_findings}

-- what is printed of these findings, whose names are compared with these
abbrev printed_of : Asides → List Repeat → List ℕ → Locator → List ℕ → List ℕ → List (List ℕ) → List Finding → Printed
printed_of asides repeats ends locate file text names found = record {
  lines = shown_lines asides locate None names file text (reported repeats ends found);
  outcome = outcome_with asides.1 (reported repeats ends found);
}

is_that : (asides : Asides) (repeats : List Repeat) (ends : List ℕ) (locate : Locator) (file text : List ℕ) (printed : Printed) (is : IsPrintedFrom asides repeats ends locate file text printed) → printed ≡ printed_of asides repeats ends locate file text is.names is.found
is_that asides repeats ends locate file text printed is = (λ i. record { lines = is.lines_are i; outcome = is.outcome_is i })

-- what is printed of findings is printed of their text, where nothing is joined
pub printed_from : {E : Type 0} (asides : Asides) (repeats : List Repeat) (ends : List ℕ) (locate : Locator) (file text : List ℕ) (found : List Finding) (names : List (List ℕ)) → AreFoundWith text found names
    → (kept : Option (List ℕ)) → kept ≡ None → (r : Result Printed E)
    → IfOk r (λ printed. printed.lines ≡ shown_lines asides locate kept names file text (reported repeats ends found)) → IfOk r (λ printed. printed.outcome ≡ outcome_with asides.1 (reported repeats ends found))
    → IfOk r (λ printed. IsPrintedFrom asides repeats ends locate file text printed)
printed_from asides repeats ends locate file text found names are kept none (Err e) lines outcome = lines
printed_from asides repeats ends locate file text found names are kept none (Ok printed) lines outcome = record {
  found = found;
  names = names;
  of_text = are;
  lines_are = lines ∙ ap (λ (k : Option (List ℕ)). shown_lines asides locate k names file text (reported repeats ends found)) none;
  outcome_is = outcome;
}

-- ---- there is one

pub some_known : (text : List ℕ) → length text < 2 ^ 62 → (known : List (List ℕ)) × AreKnown text known
some_known text small =
    let g = some_grammar text small in
    (known_names g.0, record { grammar = g.0; of_text = g.1; right = g.2; are = refl })

some_found : (text : List ℕ) → length text < 2 ^ 62 → (found : List Finding) × (names : List (List ℕ)) × AreFoundWith text found names
some_found text small =
    let found = some_findings text small in
    let known = some_known text small in
    (found.0, compared found.0 known.0, record { of_text = found.1; known = known.0; are_known = known.1; names_are = refl })

pub some_from : (asides : Asides) (repeats : List Repeat) (ends : List ℕ) (locate : Locator) (file text : List ℕ) → length text < 2 ^ 62 → (printed : Printed) × IsPrintedFrom asides repeats ends locate file text printed
some_from asides repeats ends locate file text small =
    let found = some_found text small in
    (printed_of asides repeats ends locate file text found.1 found.0, record { found = found.0; names = found.1; of_text = found.2; lines_are = refl; outcome_is = refl })

-- ---- and only one

pub one_known : (text : List ℕ) (a b : List (List ℕ)) → AreKnown text a → AreKnown text b → a ≡ b
one_known text a b p q = p.are ∙ (ap known_names (one_grammar p.grammar q.grammar p.right q.right (p.of_text ∙ sym q.of_text)) ∙ sym q.are)

one_found : (text : List ℕ) (a b : List Finding) (x y : List (List ℕ)) → AreFoundWith text a x → AreFoundWith text b y → a ≡ b
one_found text a b x y p q = rows_unique text a b p.of_text q.of_text

one_names : (text : List ℕ) (a b : List Finding) (x y : List (List ℕ)) → AreFoundWith text a x → AreFoundWith text b y → x ≡ y
one_names text a b x y p q =
    p.names_are ∙ ((λ i. compared (one_found text a b x y p q i) (one_known text p.known q.known p.are_known q.are_known i)) ∙ sym q.names_are)

pub one_from : (asides : Asides) (repeats : List Repeat) (ends : List ℕ) (locate : Locator) (file text : List ℕ) (a b : Printed) → IsPrintedFrom asides repeats ends locate file text a → IsPrintedFrom asides repeats ends locate file text b → a ≡ b
one_from asides repeats ends locate file text a b p q =
    is_that asides repeats ends locate file text a p
    ∙ ((λ i. printed_of asides repeats ends locate file text (one_names text p.found q.found p.names q.names p.of_text q.of_text i) (one_found text p.found q.found p.names q.names p.of_text q.of_text i))
    ∙ sym (is_that asides repeats ends locate file text b q))

pub some_print : (file text : List ℕ) → length text < 2 ^ 62 → (printed : Printed) × IsPrinted file text printed
some_print file text small = some_from no_asides [] [] (λ at. at) file text small

pub one_print : (file text : List ℕ) (a b : Printed) → IsPrinted file text a → IsPrinted file text b → a ≡ b
one_print file text a b p q = one_from no_asides [] [] (λ at. at) file text a b p q
