-- Each file has one print-out, whatever other files are known.
use Rattle.std.proofs.Common.{◌≡◌, ◌∙◌, ◌<◌, ◌^◌, ℕ, Bool, true, false, List, [], ◌∷◌, length, refl, sym, subst}
use Rattle.std.specs.Prelude.{Result, Ok, Err}
use Rattle.std.specs.Str.{encode_utf8_all}
use Rattle.origins.specs.Origins.{Sourced, characters}
use Rattle.origins.specs.declared.unread.Unread.{Unread}
use Rattle.xml_blocks.specs.declared.fault.XmlFault.{XmlFault}
use Rattle.joined_grammars.specs.declared.repeats.Repeat.{Repeat}
use Rattle.joined_grammars.specs.Joined.{IsJoined}
use Rattle.joined_grammars.proofs.JoinLaws.{one_joined}
use Rattle.joined_grammars.proofs.RepeatLaws.{one_repeats, some_repeats}
use Rattle.findings_text.specs.declared.outcome.Outcome.{Outcome}
use Rattle.findings_text.specs.declared.outcome.Outcome.TheVariants.{Clean, Errors}
use Rattle.findings_text.specs.declared.print.Printed.{Printed}
use Rattle.findings_text.specs.Gaps.{IsFilled}
use Rattle.findings_text.specs.Sources.{position_in_draft}
use Rattle.findings_text.specs.Told.{ArePrintedRulesIn, IsPrintedIn}
use Rattle.findings_text.specs.Unread.{asides_of}
use Rattle.findings_text.proofs.GapLaws.{text_small}
use Rattle.findings_text.proofs.PrintLaws.{one_print, some_print}
use Rattle.findings_text.proofs.RuleLaws.{one_rules_from}
use Rattle.findings_text.proofs.ToldLaws.{one_in, one_rules_in, some_in, some_rules_in}
use Rattle.findings_files.specs.declared.content.Content.{Content}
use Rattle.findings_files.specs.declared.format.Format.{Format}
use Rattle.findings_files.specs.declared.format.Format.TheVariants.{Abnf, Markdown, Text, Xml}
use Rattle.findings_files.specs.Drafts.{draft_position, no_grammar_lines, outcome_without}
use Rattle.findings_files.specs.Formats.{xml_fault_line}
use Rattle.findings_files.specs.Grammars.{HasSmallRuns, IsPrintedGrammarAs, IsPrintedGrammarBy, IsPrintedRead}
use Rattle.findings_files.specs.Known.{AreRepeatsAs, ArePrintedJoinedRules, ArePrintedRulesBy, ArePrintedRulesOf, ArePrintedRulesWith, IsPrintedBy, IsPrintedContent, IsPrintedIf, IsPrintedJoined, IsPrintedOf, IsPrintedWith, ends_as}
use Rattle.findings_files.proofs.ContentLaws.{one_content, one_grammar_in, one_lacks, some_grammar, some_lacks}
use Rattle.findings_files.proofs.DraftLaws.{one_draft, some_draft}

-- two print-outs with the same lines and the same outcome
same : (a b : Printed) (lines : List ℕ) (outcome : Outcome) → (a.lines ≡ lines) × (a.outcome ≡ outcome) → (b.lines ≡ lines) × (b.outcome ≡ outcome) → a ≡ b
same a b lines outcome p q = (λ i. record { lines = (p.0 ∙ sym q.0) i; outcome = (p.1 ∙ sym q.1) i })

-- ---- the findings

some_repeats_as : (format : Format) (text : List ℕ) → length text < 2 ^ 62 → (repeats : List Repeat) × AreRepeatsAs format text repeats
some_repeats_as Abnf text small = ([], refl)
some_repeats_as Markdown text small = some_repeats text small
some_repeats_as Xml text small = some_repeats text small
some_repeats_as Text text small = some_repeats text small

one_repeats_as : (format : Format) (text : List ℕ) (a b : List Repeat) → AreRepeatsAs format text a → AreRepeatsAs format text b → a ≡ b
one_repeats_as Abnf text a b p q = p ∙ sym q
one_repeats_as Markdown text a b p q = one_repeats text a b p q
one_repeats_as Xml text a b p q = one_repeats text a b p q
one_repeats_as Text text a b p q = one_repeats text a b p q

one_by_join : (known : List (List ℕ)) (format : Format) (file draft : List ℕ) (unread : List Unread) (grammar : List Sourced) (a b : Printed) → IsPrintedJoined known format file draft unread grammar a → IsPrintedJoined known format file draft unread grammar b → a ≡ b
one_by_join known format file draft unread grammar a b p q =
    let told = characters grammar in
    let ends = ends_as format draft grammar in
    let text = one_joined told known p.0 q.0 p.2 q.2 in
    let repeats = one_repeats_as format q.0 p.1 q.1 (subst (λ (t : List ℕ). AreRepeatsAs format t p.1) text p.3) q.3 in
    let there : IsPrintedIn told (asides_of draft unread) p.1 ends (position_in_draft draft grammar q.0) file q.0 a = subst (λ (t : List ℕ). IsPrintedIn told (asides_of draft unread) p.1 ends (position_in_draft draft grammar t) file t a) text p.4 in
    one_in told (asides_of draft unread) q.1 ends (position_in_draft draft grammar q.0) file q.0 a b
    (subst (λ (rs : List Repeat). IsPrintedIn told (asides_of draft unread) rs ends (position_in_draft draft grammar q.0) file q.0 a) repeats there) q.4

one_of : (known : List (List ℕ)) (format : Format) (file text : List ℕ) (content : Content) (a b : Printed) → IsPrintedOf known format file text content a → IsPrintedOf known format file text content b → a ≡ b
one_of [] Abnf file text content a b p q = one_print file text a b p q
one_of [] Markdown file text content a b p q = one_draft file text content.unread content.grammar a b p q
one_of [] Xml file text content a b p q = one_draft file text content.unread content.grammar a b p q
one_of [] Text file text content a b p q = one_draft file text content.unread content.grammar a b p q
one_of (k ∷ known) format file text content a b p q = one_by_join (k ∷ known) format file text content.unread content.grammar a b p q

one_if : (lacks : Bool) (known : List (List ℕ)) (format : Format) (file text : List ℕ) (content : Content) (a b : Printed) → IsPrintedIf lacks known format file text content a → IsPrintedIf lacks known format file text content b → a ≡ b
one_if true known format file text content a b p q = same a b (no_grammar_lines format (outcome_without format) file text content.unread) (outcome_without format) p q
one_if false known format file text content a b p q = one_of known format file text content a b p q

one_by : (known : List (List ℕ)) (format : Format) (file text : List ℕ) (read : Result Content XmlFault) (a b : Printed) → IsPrintedBy known format file text read a → IsPrintedBy known format file text read b → a ≡ b
one_by known format file text (Ok content) a b p q =
    one_if q.0 known format file text content a b
    (subst (λ lacks. IsPrintedIf lacks known format file text content a) (one_lacks format text content.grammar p.0 q.0 p.1 q.1) p.2) q.2
one_by known format file text (Err fault) a b p q = same a b (xml_fault_line file text fault) Errors p q

pub one_with : (known : List (List ℕ)) (format : Format) (file text : List ℕ) (a b : Printed) → IsPrintedWith known format file text a → IsPrintedWith known format file text b → a ≡ b
one_with known format file text a b p q =
    one_by known format file text q.0 a b (subst (λ (read : Result Content XmlFault). IsPrintedBy known format file text read a) (one_content format text p.0 q.0 p.1 q.1) p.2) q.2

-- a print-out of a file that lacks a grammar, or has one
by_lack : (lacks : Bool) (known : List (List ℕ)) (format : Format) (file text : List ℕ) (content : Content)
    → ((printed : Printed) × IsPrintedOf known format file text content printed) → (printed : Printed) × IsPrintedIf lacks known format file text content printed
by_lack true known format file text content of = (record { lines = no_grammar_lines format (outcome_without format) file text content.unread; outcome = outcome_without format }, (refl, refl))
by_lack false known format file text content of = of

some_alone : (format : Format) (file text : List ℕ) (content : Content) → length text < 2 ^ 62 → length content.grammar < 2 ^ 62 → (printed : Printed) × IsPrintedOf [] format file text content printed
some_alone Abnf file text content small grammar = some_print file text small
some_alone Markdown file text content small grammar = some_draft file text content.unread content.grammar grammar
some_alone Xml file text content small grammar = some_draft file text content.unread content.grammar grammar
some_alone Text file text content small grammar = some_draft file text content.unread content.grammar grammar

pub some_print_alone : (format : Format) (file text : List ℕ) (content : Content) → length text < 2 ^ 62 → length content.grammar < 2 ^ 62 → (printed : Printed) × IsPrintedContent [] format file text content printed
some_print_alone format file text content small grammar =
    let lacks = some_lacks format text content.grammar small in
    let printed = by_lack lacks.0 [] format file text content (some_alone format file text content small grammar) in
    (printed.0, (lacks.0, lacks.1, printed.1))

pub some_print_with : (k : List ℕ) (known : List (List ℕ)) (format : Format) (file text : List ℕ) (content : Content) (joined filled : List ℕ) → length text < 2 ^ 62
    → IsJoined (characters content.grammar) (k ∷ known) joined → IsFilled (characters content.grammar) joined filled → length filled < 2 ^ 62
    → (printed : Printed) × IsPrintedContent (k ∷ known) format file text content printed
some_print_with k known format file text content joined filled small are is all =
    let told = characters content.grammar in
    let repeats = some_repeats_as format joined (text_small told joined filled is all) in
    let there = some_in told (asides_of text content.unread) repeats.0 (ends_as format text content.grammar) (position_in_draft text content.grammar joined) file joined filled is all in
    let lacks = some_lacks format text content.grammar small in
    let printed = by_lack lacks.0 (k ∷ known) format file text content (there.0, (joined, repeats.0, are, repeats.1, there.1)) in
    (printed.0, (lacks.0, lacks.1, printed.1))

-- ---- the rules

one_joined_rules : (known : List (List ℕ)) (file draft : List ℕ) (grammar : List Sourced) (a b : List ℕ) → ArePrintedJoinedRules known file draft grammar a → ArePrintedJoinedRules known file draft grammar b → a ≡ b
one_joined_rules known file draft grammar a b p q =
    let told = characters grammar in
    let text = one_joined told known p.0 q.0 p.1 q.1 in
    one_rules_in told (position_in_draft draft grammar q.0) file q.0 a b (subst (λ (t : List ℕ). ArePrintedRulesIn told (position_in_draft draft grammar t) file t a) text p.2) q.2

one_draft_rules : (file text : List ℕ) (grammar : List Sourced) (a b : List ℕ) → ArePrintedRulesOf [] Markdown file text grammar a → ArePrintedRulesOf [] Markdown file text grammar b → a ≡ b
one_draft_rules file text grammar a b p q = one_rules_from (draft_position text grammar) file (characters grammar) a b p q

one_rules_of : (known : List (List ℕ)) (format : Format) (file text : List ℕ) (grammar : List Sourced) (a b : List ℕ) → ArePrintedRulesOf known format file text grammar a → ArePrintedRulesOf known format file text grammar b → a ≡ b
one_rules_of [] Abnf file text grammar a b p q = one_rules_from (λ at. at) file text a b p q
one_rules_of [] Markdown file text grammar a b p q = one_draft_rules file text grammar a b p q
one_rules_of [] Xml file text grammar a b p q = one_draft_rules file text grammar a b p q
one_rules_of [] Text file text grammar a b p q = one_draft_rules file text grammar a b p q
one_rules_of (k ∷ known) format file text grammar a b p q = one_joined_rules (k ∷ known) file text grammar a b p q

-- two print-outs with the same lines, neither of which has a finding
clean_same : (a b : Printed) → a.lines ≡ b.lines → a.outcome ≡ Clean → b.outcome ≡ Clean → a ≡ b
clean_same a b lines p q = (λ i. record { lines = lines i; outcome = (p ∙ sym q) i })

one_rules_by : (known : List (List ℕ)) (format : Format) (file text : List ℕ) (read : Result (List Sourced) XmlFault) (a b : Printed) → ArePrintedRulesBy known format file text read a → ArePrintedRulesBy known format file text read b → a ≡ b
one_rules_by known format file text (Ok grammar) a b p q = clean_same a b (one_rules_of known format file text grammar a.lines b.lines p.0 q.0) p.1 q.1
one_rules_by known format file text (Err fault) a b p q = same a b (xml_fault_line file text fault) Errors p q

pub one_rules_with : (known : List (List ℕ)) (format : Format) (file text : List ℕ) (a b : Printed) → ArePrintedRulesWith known format file text a → ArePrintedRulesWith known format file text b → a ≡ b
one_rules_with known format file text a b p q =
    one_rules_by known format file text q.0 a b
    (subst (λ (read : Result (List Sourced) XmlFault). ArePrintedRulesBy known format file text read a) (one_grammar_in format text p.0 q.0 p.1 q.1) p.2) q.2

pub some_rules_with : (k : List ℕ) (known : List (List ℕ)) (format : Format) (file text : List ℕ) (grammar : List Sourced) (joined : List ℕ) → IsJoined (characters grammar) (k ∷ known) joined → length joined < 2 ^ 62
    → (lines : List ℕ) × ArePrintedRulesOf (k ∷ known) format file text grammar lines
some_rules_with k known format file text grammar joined are small =
    let lines = some_rules_in (characters grammar) (position_in_draft text grammar joined) file joined small in
    (lines.0, (joined, are, lines.1))

-- ---- the grammar

some_grammar_by : (format : Format) (file text : List ℕ) (read : Result (List Sourced) XmlFault) → (printed : Printed) × IsPrintedGrammarBy format file text read printed
some_grammar_by format file text (Ok []) = (record { lines = no_grammar_lines format (outcome_without format) file text []; outcome = outcome_without format }, (refl, refl))
some_grammar_by format file text (Ok (c ∷ cs)) = (record { lines = encode_utf8_all (characters (c ∷ cs)); outcome = Clean }, (refl, refl))
some_grammar_by format file text (Err fault) = (record { lines = xml_fault_line file text fault; outcome = Errors }, (refl, refl))

some_gathered : (format : Format) (file text : List ℕ) → HasSmallRuns format text → (printed : Printed) × IsPrintedRead format file text printed
some_gathered format file text small =
    let read = some_grammar format text small in
    let printed = some_grammar_by format file text read.0 in
    (printed.0, (read.0, read.1, printed.1))

pub some_grammar_as : (format : Format) (file text : List ℕ) → HasSmallRuns format text → (printed : Printed) × IsPrintedGrammarAs format file text printed
some_grammar_as Abnf file text small = (record { lines = encode_utf8_all text; outcome = Clean }, (refl, refl))
some_grammar_as Markdown file text small = some_gathered Markdown file text small
some_grammar_as Xml file text small = some_gathered Xml file text small
some_grammar_as Text file text small = some_gathered Text file text small

one_grammar_by : (format : Format) (file text : List ℕ) (read : Result (List Sourced) XmlFault) (a b : Printed) → IsPrintedGrammarBy format file text read a → IsPrintedGrammarBy format file text read b → a ≡ b
one_grammar_by format file text (Ok []) a b p q = same a b (no_grammar_lines format (outcome_without format) file text []) (outcome_without format) p q
one_grammar_by format file text (Ok (c ∷ cs)) a b p q = same a b (encode_utf8_all (characters (c ∷ cs))) Clean p q
one_grammar_by format file text (Err fault) a b p q = same a b (xml_fault_line file text fault) Errors p q

one_gathered : (format : Format) (file text : List ℕ) (a b : Printed) → IsPrintedRead format file text a → IsPrintedRead format file text b → a ≡ b
one_gathered format file text a b p q =
    one_grammar_by format file text q.0 a b
    (subst (λ (read : Result (List Sourced) XmlFault). IsPrintedGrammarBy format file text read a) (one_grammar_in format text p.0 q.0 p.1 q.1) p.2) q.2

pub one_grammar_as : (format : Format) (file text : List ℕ) (a b : Printed) → IsPrintedGrammarAs format file text a → IsPrintedGrammarAs format file text b → a ≡ b
one_grammar_as Abnf file text a b p q = same a b (encode_utf8_all text) Clean p q
one_grammar_as Markdown file text a b p q = one_gathered Markdown file text a b p q
one_grammar_as Xml file text a b p q = one_gathered Xml file text a b p q
one_grammar_as Text file text a b p q = one_gathered Text file text a b p q
