-- The form of a rule over the items of a block (RFC 5234 section 4; RFC 7405 section 2.2). Comments, blanks and line ends are
-- taken out, and may stand between any two items but behind a repeat; between repetitions one must stand.
use Rattle.std.specs.Prelude.{◌≡◌, ℕ, suc, Bool, true, false, List, [], ◌∷◌, Option, Some, None}
use Rattle.abnf_token.specs.declared.token.Kind.{Kind}
use Rattle.abnf_token.specs.declared.token.Kind.TheVariants as k
use Rattle.abnf_token.specs.declared.token.Token.{Token}
use Rattle.abnf_syntax.specs.declared.item.Item.{Item}
use Rattle.abnf_syntax.specs.declared.tree.Element.{Element}
use Rattle.abnf_syntax.specs.declared.tree.Element.TheVariants as e
use Rattle.abnf_syntax.specs.declared.tree.Repetition.{Repetition, roll-Repetition}
use Rattle.abnf_syntax.specs.declared.tree.Rule.{Rule}
use Rattle.abnf_syntax.specs.Numbers.{numbers_fit}

-- repetitions that follow one another (concatenation; RFC 5234 section 4)
abbrev pub Concatenation : Type 0
Concatenation = List Repetition

-- concatenations to choose from (alternation; RFC 5234 section 4)
abbrev pub Alternation : Type 0
Alternation = List Concatenation

-- the kind of an item's token
abbrev pub kind_of : Item → Kind
kind_of item = item.token.kind

-- the numbers of an item, if it has any, are at most 4,294,967,295
abbrev pub fits : Item → Bool
fits item = numbers_fit item.token.kind item.token.text.now

-- an element, with a repeat before it or none (repetition; RFC 5234 section 4)
abbrev pub repetition : Option Token → Element → Repetition
repetition repeat element = roll-Repetition (record { repeat = repeat; element = element })

-- Each says what the items from the first list up to the second list are, where brackets may nest room deep.
mutual
  -- a concatenation, then any number of slashes and concatenations
  pub data IsAlternation : ℕ → List Item → List Item → Alternation → Type 0 where
    only : {room : ℕ} {from to : List Item} {c : Concatenation} → IsConcatenation room from to c → IsAlternation room from to (c ∷ [])
    or : {room : ℕ} {from mid to : List Item} {slash : Item} {c : Concatenation} {cs : Alternation} →
        IsConcatenation room from (slash ∷ mid) c → kind_of slash ≡ k.Slash → IsAlternation room mid to cs → IsAlternation room from to (c ∷ cs)

  -- a repetition, then any number of repetitions, each with its first item apart
  pub data IsConcatenation : ℕ → List Item → List Item → Concatenation → Type 0 where
    one : {room : ℕ} {from to : List Item} {r : Repetition} → IsRepetition room from to r → IsConcatenation room from to (r ∷ [])
    and : {room : ℕ} {from mid to : List Item} {next : Item} {r : Repetition} {rs : Concatenation} →
        IsRepetition room from (next ∷ mid) r → next.apart ≡ true → IsConcatenation room (next ∷ mid) to rs → IsConcatenation room from to (r ∷ rs)

  -- an element, or a repeat and an element that isn't apart
  pub data IsRepetition : ℕ → List Item → List Item → Repetition → Type 0 where
    once : {room : ℕ} {from to : List Item} {element : Element} → IsElement room from to element → IsRepetition room from to (repetition None element)
    times : {room : ℕ} {mid to : List Item} {repeat next : Item} {element : Element} → kind_of repeat ≡ k.Repeat → fits repeat ≡ true → next.apart ≡ false →
        IsElement room (next ∷ mid) to element → IsRepetition room (repeat ∷ next ∷ mid) to (repetition (Some repeat.token) element)

  -- a name, a quoted text, a number, prose, a group or an option
  pub data IsElement : ℕ → List Item → List Item → Element → Type 0 where
    name : {room : ℕ} {item : Item} {to : List Item} → kind_of item ≡ k.Name → IsElement room (item ∷ to) to (e.Name item.token)
    quoted : {room : ℕ} {item : Item} {to : List Item} → kind_of item ≡ k.Quoted → IsElement room (item ∷ to) to (e.Quoted item.token)
    number : {room : ℕ} {item : Item} {to : List Item} → kind_of item ≡ k.Number → fits item ≡ true → IsElement room (item ∷ to) to (e.Number item.token)
    prose : {room : ℕ} {item : Item} {to : List Item} → kind_of item ≡ k.Prose → IsElement room (item ∷ to) to (e.Prose item.token)
    group : {room : ℕ} {inner to : List Item} {left right : Item} {a : Alternation} → kind_of left ≡ k.ParenL →
        IsAlternation room inner (right ∷ to) a → kind_of right ≡ k.ParenR → IsElement (suc room) (left ∷ inner) to (e.Group a)
    choice : {room : ℕ} {inner to : List Item} {left right : Item} {a : Alternation} → kind_of left ≡ k.BracketL →
        IsAlternation room inner (right ∷ to) a → kind_of right ≡ k.BracketR → IsElement (suc room) (left ∷ inner) to (e.Choice a)

-- how deep brackets may nest: a limit of this project, as the standard has none
abbrev pub max_nesting : ℕ
max_nesting = 64

-- `=` for a rule that doesn't add, `=/` for one that does
abbrev pub defined_as : Bool → Kind
defined_as false = k.Defines
defined_as true = k.Adds

-- The items derive the rule: a name, `=` or `=/`, an alternation, and the end (rule; RFC 5234 section 4). Repetitions stand
-- apart, a repeat and its element don't; brackets nest at most 64 deep, and numbers are at most 4,294,967,295.
pub record Derives (items : List Item) (rule : Rule) : Type 0 where
  pub head : Item
  pub defined : Item
  pub body : List Item
  pub split : items ≡ head ∷ defined ∷ body
  pub named : kind_of head ≡ k.Name
  pub name : rule.name ≡ head.token
  pub adds : kind_of defined ≡ defined_as rule.adds
  pub alternation : IsAlternation max_nesting body [] rule.body

-- The items derive at most one rule.
abbrev pub HasOneRule : List Item → Type 0
HasOneRule items = (r s : Rule) → Derives items r → Derives items s → r ≡ s
