-- What is read of a file, by what it is written in: its grammar, and what of it can't be read.
use Rattle.std.specs.Prelude.{◌≡◌, ◌⊎◌, ◌<◌, ◌^◌, ℕ, All, Bool, true, false, List, [], ◌∷◌, Result, Ok, Err, Contains, length, if◌then◌else◌}
use Rattle.text_files.specs.declared.file.FileFault.{FileFault}
use Rattle.text_files.specs.declared.file.FileFault.TheVariants.{CannotRead, Memory, NotText}
use Rattle.ls_text.specs.declared.fault.TextFault.TheVariants.{TooLarge}
use Rattle.origins.specs.Origins.{Sourced, aligned, characters, from, gathered_grammar}
use Rattle.origins.specs.declared.unread.Aside.{Aside}
use Rattle.origins.specs.declared.unread.Lack.{Lack}
use Rattle.origins.specs.declared.unread.Lack.TheVariants.{BareFence, Untyped}
use Rattle.origins.specs.declared.unread.Unread.{Unread}
use Rattle.rule_texts.specs.Rules.{AreCounted, are_rules_alone, is_no_grammar}
use Rattle.rule_texts.specs.declared.counts.Counts.{Counts}
use Rattle.published_blocks.specs.Published as p
use Rattle.published_blocks.specs.Runs.{published_runs}
use Rattle.published_blocks.specs.declared.found.Published.{Published}
use Rattle.markdown_blocks.specs.Fences.{markdown_blocks}
use Rattle.markdown_blocks.specs.Unread as m
use Rattle.xml_blocks.specs.declared.fault.XmlFault.{XmlFault}
use Rattle.xml_blocks.specs.Unread as xml
use Rattle.xml_blocks.specs.Xml.{grammar_behind, xml_blocks}
use Rattle.findings_files.specs.declared.content.Content.{Content}
use Rattle.findings_files.specs.declared.format.Format.{Format}
use Rattle.findings_files.specs.declared.format.Format.TheVariants.{Abnf, Markdown, Text, Xml}
use Rattle.findings_files.specs.Texts.{IsTextRefused}

-- ---- the grammar

-- a whole text as one block of grammar, left aligned, with a line end more
abbrev pub whole : List ℕ → List Sourced
whole text = aligned (record { content = from 0 text; end = length text })

-- This is the grammar of a file of this format, left aligned, with the place of each character, or the fault of a draft in XML. Of a
-- file that is a grammar the whole text is one block.
abbrev pub IsGrammarIn : Format → List ℕ → Result (List Sourced) XmlFault → Type 0
IsGrammarIn Abnf text read = read ≡ Ok (whole text)
IsGrammarIn Markdown text read = read ≡ Ok (gathered_grammar (markdown_blocks text))
IsGrammarIn Xml text read = read ≡ grammar_behind [] (xml_blocks text)
IsGrammarIn Text text read = (found : Published) × p.IsPublished text found × (read ≡ Ok found.grammar)

-- whether the grammar of a draft or a published text is empty: no block of it is one
abbrev pub has_no_grammar : List Sourced → Bool
has_no_grammar [] = true
has_no_grammar (c ∷ cs) = false

-- Whether a file of this format, with this grammar, has none: a file that is a grammar by its blocks, any other where nothing is gathered
-- from it.
abbrev pub LacksGrammar : Format → List ℕ → List Sourced → Bool → Type 0
LacksGrammar Abnf text grammar lacks = (counts : Counts) × AreCounted text counts × (lacks ≡ is_no_grammar counts)
LacksGrammar _ text grammar lacks = lacks ≡ has_no_grammar grammar

-- ---- what can't be read

-- whether a text is rules alone
abbrev pub AreRulesAlone : List ℕ → Bool → Type 0
AreRulesAlone text are = (counts : Counts) × AreCounted text counts × (are ≡ are_rules_alone counts)

-- whether something is said of a block with this text: that nothing marks it, only if it is rules alone
abbrev pub IsSaid : Lack → List ℕ → Bool → Type 0
IsSaid BareFence text says = AreRulesAlone text says
IsSaid Untyped text says = AreRulesAlone text says
IsSaid _ text says = says ≡ true

-- what is said of a block, if something is, and then of others
abbrev pub with_others : Bool → Unread → List Unread → List Unread
with_others says unread others = if says then unread ∷ others else others

-- This is said of these blocks, in their order.
abbrev pub AreRemarked : List Aside → List Unread → Type 0
AreRemarked [] unread = unread ≡ []
AreRemarked (a ∷ asides) unread =
    (says : Bool) × (others : List Unread) × IsSaid a.unread.lack (characters a.text) says × AreRemarked asides others × (unread ≡ with_others says a.unread others)

-- ---- the content

-- This is read of a draft of whose blocks this may have to be said, and from which this is gathered.
abbrev pub IsDraftContent : List Aside → Result (List Sourced) XmlFault → Result Content XmlFault → Type 0
IsDraftContent asides (Ok grammar) read = (unread : List Unread) × AreRemarked asides unread × (read ≡ Ok (record { grammar = grammar; unread = unread }))
IsDraftContent asides (Err fault) read = read ≡ Err fault

-- This is read of a file of this format, or this is the fault of a draft in XML. There is one (`contents_exist`), and only one
-- (`contents_are_unique`).
abbrev pub IsContentIn : Format → List ℕ → Result Content XmlFault → Type 0
IsContentIn Abnf text read = read ≡ Ok (record { grammar = whole text; unread = [] })
IsContentIn Markdown text read = IsDraftContent (m.unread_blocks text) (Ok (gathered_grammar (markdown_blocks text))) read
IsContentIn Xml text read = IsDraftContent (xml.unread_elements text) (grammar_behind [] (xml_blocks text)) read
IsContentIn Text text read =
    (found : Published) × p.IsPublished text found × (read ≡ Ok (record { grammar = found.grammar; unread = found.unread }))

-- Each block that nothing marks, and each run of lines, has fewer than 2^62 characters, as in each text of a file.
abbrev pub HasSmallBlocks : Format → List ℕ → Type 0
HasSmallBlocks Abnf text = Unit {0}
HasSmallBlocks Markdown text = All (λ aside. length aside.text < 2 ^ 62) (m.unread_blocks text)
HasSmallBlocks Xml text = All (λ aside. length aside.text < 2 ^ 62) (xml.unread_elements text)
HasSmallBlocks Text text = All (λ run. length run.block < 2 ^ 62) (published_runs text)

-- ---- refusals

-- Why nothing is read of a published text: memory was refused, or one of its runs that begin as a rule does is larger than a text may be.
abbrev pub IsNotPublished : List ℕ → FileFault → Type 0
IsNotPublished text Memory = Unit {0}
IsNotPublished text NotText = p.IsRefused text TooLarge
IsNotPublished text CannotRead = ⊥

-- Why no grammar is read of a file of this format.
abbrev pub IsNotGathered : Format → List ℕ → FileFault → Type 0
IsNotGathered Text text fault = IsNotPublished text fault
IsNotGathered _ text fault = fault ≡ Memory

-- Why nothing is said of these blocks: memory was refused, or the text of one is larger than a text may be.
abbrev pub AreRefused : List Aside → FileFault → Type 0
AreRefused asides fault = (fault ≡ Memory) ⊎ ((aside : Aside) × Contains asides aside × IsTextRefused (characters aside.text) fault)

-- Why nothing is read of a file of this format.
abbrev pub IsNotRead : Format → List ℕ → FileFault → Type 0
IsNotRead Abnf text fault = fault ≡ Memory
IsNotRead Markdown text fault = AreRefused (m.unread_blocks text) fault
IsNotRead Xml text fault = AreRefused (xml.unread_elements text) fault
IsNotRead Text text fault = IsNotPublished text fault
