-- What is printed of the rules of a text: a line for each, with what is known of its shortest strings.
use Rattle.std.specs.Prelude.{◌≡◌, ℕ, Bool, false, true, List, [], ◌∷◌, ◌++◌, Option, Some, None, codes, if◌then◌else◌, slice_index_or, slice_set}
use Rattle.std.specs.Fmt.{decimal}
use Rattle.ls_text.specs.Lines.{units}
use Rattle.ls_text.specs.Positions.{place_start, position_of}
use Rattle.ls_text.specs.declared.position.Encoding.TheVariants.{Utf32}
use Rattle.ls_text.specs.declared.position.Position.{Position}
use Rattle.abnf_names.specs.Places.{Named, named_at}
use Rattle.abnf_names.specs.Rules.{Grammar, IsGrammar}
use Rattle.abnf_least.specs.Rendered.{rendered_text}
use Rattle.abnf_least.specs.Shown.{IsShown}
use Rattle.abnf_least.specs.declared.shortest.Shortest.{Shortest}
use Rattle.abnf_least.specs.declared.shortest.Shortest.TheVariants.{Shown, Long, Huge, Nothing, NotKnown}
use Rattle.findings_text.specs.declared.rules.Head.{Head}
use Rattle.findings_text.specs.Print.{Locator, place_text}
pub use Rattle.findings_text.specs.Heads.{ahead, defined_at, defines_rule, heads}

-- what is known of the shortest strings of a rule, in words
abbrev pub known_text : Shortest → List ℕ
known_text (Shown n example) = codes "shortest length " ++ decimal n ++ codes ": " ++ rendered_text example
known_text (Long n) = codes "shortest length " ++ decimal n ++ codes ", example not shown"
known_text Huge = codes "shortest length 18446744073709551615 or more"
known_text Nothing = codes "generates nothing"
known_text NotKnown = codes "not known"

-- `FILE:LINE:COLUMN: NAME:`, what is known, and LF
abbrev pub rule_line_at : List ℕ → Position → Named → Shortest → List ℕ
rule_line_at file at head shown = file ++ place_text at ++ head.text ++ codes ": " ++ known_text shown ++ 10 ∷ []

-- where a place that defines a rule begins
abbrev pub head_begin : List ℕ → Named → Position
head_begin text head = position_of (units Utf32) text (place_start text head.place)

-- the line of a rule, at the place of the file where it is defined
abbrev pub rule_line : Locator → List ℕ → List ℕ → Named → Shortest → List ℕ
rule_line locate file text head shown = rule_line_at file (locate (head_begin text head)) head shown

-- the line of the rule of a head, by what is shown of the rule
abbrev pub IsRuleLine : Locator → List ℕ → Grammar → Named × ℕ → List ℕ → Type 0
IsRuleLine locate file g head line = (shown : Shortest) × IsShown g.rules head.1 shown × (line ≡ rule_line locate file g.text head.0 shown)

-- the lines of the rules of these heads, one after the other
abbrev pub AreRuleLines : Locator → List ℕ → Grammar → List (Named × ℕ) → List ℕ → Type 0
AreRuleLines locate file g [] lines = lines ≡ []
AreRuleLines locate file g (head ∷ heads) lines =
    (line : List ℕ) × (rest : List ℕ) × IsRuleLine locate file g head line × AreRuleLines locate file g heads rest × (lines ≡ line ++ rest)

-- This is printed of the rules of a grammar's text from a file with this name: a line for each rule that it defines, at the first place
-- that does.
pub record ArePrintedRulesFrom (locate : Locator) (file text lines : List ℕ) : Type 0 where
  pub grammar : Grammar
  pub of_text : grammar.text ≡ text
  pub right : IsGrammar grammar
  pub lines_are : AreRuleLines locate file grammar (heads grammar.names grammar.places) lines

-- This is printed of the rules of a file with this name that is the grammar's text. There is one such print-out
-- (`printed_rules_exist`), and only one (`printed_rules_are_unique`).
abbrev pub ArePrintedRules : List ℕ → List ℕ → List ℕ → Type 0
ArePrintedRules file text lines = ArePrintedRulesFrom (λ at. at) file text lines

-- ---- how the code finds the heads

-- what a head of the code says
abbrev pub head_at : Head → Named × ℕ
head_at head = (named_at head.spot, head.rule)

-- the rule, unless it has come already
abbrev pub if_new : List Bool → Option ℕ → Option ℕ
if_new told None = None
if_new told (Some r) = if slice_index_or told r false then None else Some r

-- the rules that have come, and this one
abbrev pub also_told : Option ℕ → List Bool → List Bool
also_told None told = told
also_told (Some r) told = slice_set told r true
