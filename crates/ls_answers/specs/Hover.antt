-- The text that is shown of a rule.
use Rattle.std.specs.Prelude.{◌≡◌, ◌<◌, ℕ, ◌++◌, ◌∷◌, List, [], length, Option, Some, None, IfSome, codes}
use Rattle.std.specs.Fmt.{decimal}
use Rattle.abnf_parts.specs.Part.{Part}
use Rattle.abnf_names.specs.Rules.{Grammar, IsGrammar}
use Rattle.abnf_least.specs.Rendered.{rendered_text}
use Rattle.abnf_least.specs.Shown.{IsShown}
use Rattle.abnf_least.specs.declared.shortest.Shortest.{Shortest}
use Rattle.abnf_least.specs.declared.shortest.Shortest.TheVariants.{Shown, Long, Huge, Nothing, NotKnown}

-- what is known of the shortest strings of a rule, as a text of one or two lines: their length and one of them, or why none is shown. A
-- length is written in decimal digits, and counts characters.
abbrev pub shown_text : Shortest → List ℕ
shown_text (Shown n example) = codes "shortest length " ++ decimal n ++ 10 ∷ [] ++ codes "example " ++ rendered_text example
shown_text (Long n) = codes "shortest length " ++ decimal n ++ 10 ∷ [] ++ codes "example " ++ codes "not shown"
shown_text Huge = codes "shortest length 18446744073709551615 or more"
shown_text Nothing = codes "generates nothing"
shown_text NotKnown = codes "not known"

-- the text of what is shown of a rule, by what it generates; of a name that stands for no rule `undefined`
abbrev pub IsHoverText : List Part → Option ℕ → List ℕ → Type 0
IsHoverText roots None text = text ≡ codes "undefined"
IsHoverText roots (Some r) text = (shown : Shortest) × IsShown roots r shown × (text ≡ shown_text shown)

-- A rule has at most one text, by whatever certificate.
abbrev pub AtMostOneHoverText : Type 0
AtMostOneHoverText = (roots : List Part) (rule : Option ℕ) (a b : List ℕ) → IsHoverText roots rule a → IsHoverText roots rule b → a ≡ b

-- Each rule of a text's grammar has a text, and so has a name that stands for none.
abbrev pub HoverTextsExist : Type 0
HoverTextsExist = (g : Grammar) → IsGrammar g → (rule : Option ℕ) → IfSome rule (λ r. r < length g.rules) → (text : List ℕ) × IsHoverText g.rules rule text
