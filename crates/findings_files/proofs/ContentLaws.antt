-- Something is read of each file, and only one such thing.
use Rattle.std.proofs.Common.{◌≡◌, ◌∙◌, ◌<◌, ◌^◌, ℕ, Bool, true, false, List, [], ◌∷◌, ◌++◌, length, refl, sym, ap, subst}
use Rattle.std.proofs.lemmas.List.{length-map}
use Rattle.std.specs.Prelude.{All, IfErr, Result, Ok, Err}
use Rattle.std.specs.Result.{IsErrAnd}
use Rattle.ls_text.specs.declared.fault.TextFault.{TextFault}
use Rattle.ls_text.specs.declared.fault.TextFault.TheVariants as fault
use Rattle.text_files.specs.Files.{fault_of_text}
use Rattle.text_files.specs.declared.file.FileFault.{FileFault}
use Rattle.text_files.specs.declared.file.FileFault.TheVariants.{Memory, NotText}
use Rattle.std.proofs.lemmas.List.Elements.{All-head, All-tail}
use Rattle.origins.specs.Origins.{Sourced, characters, gathered_grammar}
use Rattle.origins.specs.declared.unread.Aside.{Aside}
use Rattle.origins.specs.declared.unread.Lack.{Lack}
use Rattle.origins.specs.declared.unread.Lack.TheVariants.{BareFence, Elsewhere, Empty, Faulty, Untyped}
use Rattle.origins.specs.declared.unread.Unread.{Unread}
use Rattle.rule_texts.specs.Rules.{are_rules_alone, is_no_grammar}
use Rattle.rule_texts.proofs.CountLaws.{one_counts, some_counts}
use Rattle.published_blocks.specs.Runs.{published_runs}
use Rattle.published_blocks.proofs.FoundLaws.{one_found, some_found}
use Rattle.markdown_blocks.specs.Fences.{markdown_blocks}
use Rattle.markdown_blocks.specs.Unread as m
use Rattle.xml_blocks.specs.declared.fault.XmlFault.{XmlFault}
use Rattle.xml_blocks.specs.Unread as xml
use Rattle.xml_blocks.specs.Xml.{grammar_behind, xml_blocks}
use Rattle.findings_files.specs.declared.content.Content.{Content}
use Rattle.findings_files.specs.declared.format.Format.{Format}
use Rattle.findings_files.specs.declared.format.Format.TheVariants.{Abnf, Markdown, Text, Xml}
use Rattle.findings_files.specs.Contents.{AreRulesAlone, AreRemarked, HasSmallBlocks, IsContentIn, IsDraftContent, IsGrammarIn, IsSaid, LacksGrammar, has_no_grammar, whole, with_others}
use Rattle.findings_files.specs.Grammars.{HasSmallRuns}

-- what holds where a text is refused: by what is known of one that is too large, and of refused memory
pub refused_text : {X : Type 0} (of : TextFault) (result : Result X FileFault) (P : FileFault → Type 0) → IsErrAnd result (λ f. f ≡ fault_of_text of)
    → (of ≡ fault.TooLarge → P NotText) → P Memory → IfErr result P
refused_text of (Ok x) P is large memory = tt
refused_text fault.TooLarge (Err f) P is large memory = subst P (sym is) (large refl)
refused_text fault.Memory (Err f) P is large memory = subst P (sym is) memory

-- ---- one block more

with_more : (says : Bool) (unread : Unread) (others more : List Unread) → with_others says unread others ++ more ≡ with_others says unread (others ++ more)
with_more true unread others more = refl
with_more false unread others more = refl

pub said_more : (asides : List Aside) (a : Aside) (says : Bool) (unread : List Unread) → AreRemarked asides unread → IsSaid a.unread.lack (characters a.text) says
    → AreRemarked (asides ++ a ∷ []) (unread ++ with_others says a.unread [])
said_more [] a says unread are is = (says, [], is, refl, ap (λ us. us ++ with_others says a.unread []) are)
said_more (b ∷ asides) a says unread p is =
    let more = with_others says a.unread [] in
    (p.0, p.1 ++ more, p.2, said_more asides a says p.1 p.3 is, ap (λ us. us ++ more) p.4 ∙ with_more p.0 b.unread p.1 more)

-- ---- what is said of blocks

small_text : (grammar : List Sourced) → length grammar < 2 ^ 62 → length (characters grammar) < 2 ^ 62
small_text grammar small = subst (λ n. n < 2 ^ 62) (sym (length-map grammar (λ x. x.0))) small

some_alone : (grammar : List Sourced) → length grammar < 2 ^ 62 → (says : Bool) × AreRulesAlone (characters grammar) says
some_alone grammar small =
    let counts = some_counts (characters grammar) (small_text grammar small) in
    (are_rules_alone counts.0, (counts.0, counts.1, refl))

one_alone : (text : List ℕ) (a b : Bool) → AreRulesAlone text a → AreRulesAlone text b → a ≡ b
one_alone text a b p q = p.2 ∙ (ap are_rules_alone (one_counts text p.0 q.0 p.1 q.1) ∙ sym q.2)

some_says : (lack : Lack) (grammar : List Sourced) → length grammar < 2 ^ 62 → (says : Bool) × IsSaid lack (characters grammar) says
some_says BareFence grammar small = some_alone grammar small
some_says Untyped grammar small = some_alone grammar small
some_says Elsewhere grammar small = (true, refl)
some_says Empty grammar small = (true, refl)
some_says Faulty grammar small = (true, refl)

one_says : (lack : Lack) (text : List ℕ) (a b : Bool) → IsSaid lack text a → IsSaid lack text b → a ≡ b
one_says BareFence text a b p q = one_alone text a b p q
one_says Untyped text a b p q = one_alone text a b p q
one_says Elsewhere text a b p q = p ∙ sym q
one_says Empty text a b p q = p ∙ sym q
one_says Faulty text a b p q = p ∙ sym q

abbrev IsSmall : Aside → Type 0
IsSmall aside = length aside.text < 2 ^ 62

some_said : (asides : List Aside) → All IsSmall asides → (unread : List Unread) × AreRemarked asides unread
some_said [] small = ([], refl)
some_said (a ∷ asides) small =
    let says = some_says a.unread.lack a.text (All-head IsSmall a asides small) in
    let others = some_said asides (All-tail IsSmall a asides small) in
    (with_others says.0 a.unread others.0, (says.0, others.0, says.1, others.1, refl))

one_said : (asides : List Aside) (a b : List Unread) → AreRemarked asides a → AreRemarked asides b → a ≡ b
one_said [] a b p q = p ∙ sym q
one_said (x ∷ xs) a b p q =
    p.4 ∙ ((λ i. with_others (one_says x.unread.lack (characters x.text) p.0 q.0 p.2 q.2 i) x.unread (one_said xs p.1 q.1 p.3 q.3 i)) ∙ sym q.4)

-- ---- the content

some_draft : (asides : List Aside) (gathered : Result (List Sourced) XmlFault) → All IsSmall asides → (read : Result Content XmlFault) × IsDraftContent asides gathered read
some_draft asides (Ok grammar) small =
    let unread = some_said asides small in
    (Ok (record { grammar = grammar; unread = unread.0 }), (unread.0, unread.1, refl))
some_draft asides (Err fault) small = (Err fault, refl)

one_draft : (asides : List Aside) (gathered : Result (List Sourced) XmlFault) (a b : Result Content XmlFault) → IsDraftContent asides gathered a → IsDraftContent asides gathered b → a ≡ b
one_draft asides (Ok grammar) a b p q = p.2 ∙ ((λ i. Ok (record { grammar = grammar; unread = one_said asides p.0 q.0 p.1 q.1 i })) ∙ sym q.2)
one_draft asides (Err fault) a b p q = p ∙ sym q

pub some_content : (format : Format) (text : List ℕ) → HasSmallBlocks format text → (read : Result Content XmlFault) × IsContentIn format text read
some_content Abnf text small = (Ok (record { grammar = whole text; unread = [] }), refl)
some_content Markdown text small = some_draft (m.unread_blocks text) (Ok (gathered_grammar (markdown_blocks text))) small
some_content Xml text small = some_draft (xml.unread_elements text) (grammar_behind [] (xml_blocks text)) small
some_content Text text small =
    let found = some_found (published_runs text) small in
    (Ok (record { grammar = found.0.grammar; unread = found.0.unread }), (found.0, found.1, refl))

pub one_content : (format : Format) (text : List ℕ) (a b : Result Content XmlFault) → IsContentIn format text a → IsContentIn format text b → a ≡ b
one_content Abnf text a b p q = p ∙ sym q
one_content Markdown text a b p q = one_draft (m.unread_blocks text) (Ok (gathered_grammar (markdown_blocks text))) a b p q
one_content Xml text a b p q = one_draft (xml.unread_elements text) (grammar_behind [] (xml_blocks text)) a b p q
one_content Text text a b p q =
    let same = one_found (published_runs text) p.0 q.0 p.1 q.1 in
    p.2 ∙ ((λ i. Ok (record { grammar = (same i).grammar; unread = (same i).unread })) ∙ sym q.2)

-- ---- the grammar

pub some_grammar : (format : Format) (text : List ℕ) → HasSmallRuns format text → (read : Result (List Sourced) XmlFault) × IsGrammarIn format text read
some_grammar Abnf text small = (Ok (whole text), refl)
some_grammar Markdown text small = (Ok (gathered_grammar (markdown_blocks text)), refl)
some_grammar Xml text small = (grammar_behind [] (xml_blocks text), refl)
some_grammar Text text small =
    let found = some_found (published_runs text) small in
    (Ok found.0.grammar, (found.0, found.1, refl))

pub one_grammar_in : (format : Format) (text : List ℕ) (a b : Result (List Sourced) XmlFault) → IsGrammarIn format text a → IsGrammarIn format text b → a ≡ b
one_grammar_in Abnf text a b p q = p ∙ sym q
one_grammar_in Markdown text a b p q = p ∙ sym q
one_grammar_in Xml text a b p q = p ∙ sym q
one_grammar_in Text text a b p q =
    p.2 ∙ ((λ i. Ok (one_found (published_runs text) p.0 q.0 p.1 q.1 i).grammar) ∙ sym q.2)

pub some_lacks : (format : Format) (text : List ℕ) (grammar : List Sourced) → length text < 2 ^ 62 → (lacks : Bool) × LacksGrammar format text grammar lacks
some_lacks Abnf text grammar small =
    let counts = some_counts text small in
    (is_no_grammar counts.0, (counts.0, counts.1, refl))
some_lacks Markdown text grammar small = (has_no_grammar grammar, refl)
some_lacks Xml text grammar small = (has_no_grammar grammar, refl)
some_lacks Text text grammar small = (has_no_grammar grammar, refl)

pub one_lacks : (format : Format) (text : List ℕ) (grammar : List Sourced) (a b : Bool) → LacksGrammar format text grammar a → LacksGrammar format text grammar b → a ≡ b
one_lacks Abnf text grammar a b p q = p.2 ∙ (ap is_no_grammar (one_counts text p.0 q.0 p.1 q.1) ∙ sym q.2)
one_lacks Markdown text grammar a b p q = p ∙ sym q
one_lacks Xml text grammar a b p q = p ∙ sym q
one_lacks Text text grammar a b p q = p ∙ sym q
