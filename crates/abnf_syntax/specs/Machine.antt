-- The parser's steps, over lists. No public contract speaks of it.
use Rattle.std.specs.Prelude.{List, [], ◌∷◌, ◌++◌, reverse, map, Option, Some, None, Result, Ok, Err, if◌then◌else◌}
use Rattle.abnf_token.specs.declared.token.Kind.{Kind}
use Rattle.abnf_token.specs.declared.token.Kind.TheVariants.{Name, Slash, Repeat, ParenL, ParenR, BracketL, BracketR, Quoted, Number, Prose}
use Rattle.abnf_token.specs.declared.token.Token.{Token}
use Rattle.abnf_syntax.specs.declared.item.Item.{Item}
use Rattle.abnf_syntax.specs.declared.fault.SyntaxFault.{SyntaxFault}
use Rattle.abnf_syntax.specs.declared.fault.SyntaxFault.TheVariants.{Memory, NoName, NoDefinedAs}
use Rattle.abnf_syntax.specs.declared.tree.Element.{Element}
use Rattle.abnf_syntax.specs.declared.tree.Element.TheVariants as e
use Rattle.abnf_syntax.specs.declared.parser.Level.{Level}
use Rattle.abnf_syntax.specs.declared.parser.Opened.{Opened}
use Rattle.abnf_syntax.specs.declared.parser.Parser.{Parser}
use Rattle.abnf_syntax.specs.declared.tree.Rule.{Rule}
use Rattle.abnf_syntax.specs.Kinds.{is_name_kind, is_adds, is_defined_as}
use Rattle.abnf_syntax.specs.Grammar.{kind_of, repetition, Alternation}
use Rattle.abnf_syntax.specs.Faults.{rows_of, least, place_of, place_after}

-- the parser with its open brackets from the innermost on
pub record State : Type 0 where
  pub outer : List Opened
  pub level : Level
  pub last : Item

-- what the parser of the code has read, with its open brackets from the innermost on
abbrev pub parser_state : Parser → State
parser_state p = record { outer = reverse p.outer; level = p.level; last = p.last }

-- the tokens of the open brackets
abbrev pub brackets : List Opened → List Token
brackets os = map (λ o. o.bracket) os

-- nothing has been read inside a bracket, or of a body
abbrev pub empty : Level
empty = record { done = []; row = []; repeat = None }

-- one more element comes, behind the repeat that waits for it, if one does
abbrev pub put : Level → Element → Level
put l element = record { done = l.done; row = l.row ++ repetition l.repeat element ∷ []; repeat = None }

-- the alternation that was read, its last concatenation included
abbrev pub finish : Level → Alternation
finish l = l.done ++ l.row ∷ []

-- a `/` comes: a concatenation ends, and the next one begins
abbrev pub barred : Level → Level
barred l = record { done = finish l; row = []; repeat = None }

-- a repeat comes, and waits for its element
abbrev pub with_repeat : Level → Token → Level
with_repeat l repeat = record { done = l.done; row = l.row; repeat = Some repeat }

-- an alternation in brackets, as an element: a group in `(` and `)`, else an option
abbrev pub bracketed_by : Kind → Alternation → Element
bracketed_by ParenL a = e.Group a
bracketed_by _ a = e.Choice a

-- an alternation behind this bracket, as an element
abbrev pub bracketed : Token → Alternation → Element
bracketed bracket a = bracketed_by bracket.kind a

-- a bracket closes: what was read inside becomes an element outside
abbrev pub close_in : List Opened → Level → Item → State
close_in [] level item = record { outer = []; level = level; last = item }
close_in (o ∷ os) level item = record { outer = os; level = put o.level (bracketed o.bracket (finish level)); last = item }

-- the state after one more item of this kind, which shows no fault
abbrev pub shift_by : Kind → State → Item → State
shift_by Name s item = record { outer = s.outer; level = put s.level (e.Name item.token); last = item }
shift_by Quoted s item = record { outer = s.outer; level = put s.level (e.Quoted item.token); last = item }
shift_by Number s item = record { outer = s.outer; level = put s.level (e.Number item.token); last = item }
shift_by Prose s item = record { outer = s.outer; level = put s.level (e.Prose item.token); last = item }
shift_by Slash s item = record { outer = s.outer; level = barred s.level; last = item }
shift_by Repeat s item = record { outer = s.outer; level = with_repeat s.level item.token; last = item }
shift_by ParenL s item = record { outer = record { bracket = item.token; level = s.level } ∷ s.outer; level = empty; last = item }
shift_by BracketL s item = record { outer = record { bracket = item.token; level = s.level } ∷ s.outer; level = empty; last = item }
shift_by ParenR s item = close_in s.outer s.level item
shift_by BracketR s item = close_in s.outer s.level item
shift_by _ s item = record { outer = s.outer; level = s.level; last = item }

-- the state after one more item, which shows no fault
unfoldable pub shift : State → Item → State
shift s item = shift_by (kind_of item) s item

-- the fault that the table shows at the next item, or at the end, behind what was read
unfoldable pub fault_at : State → List Item → Option SyntaxFault
fault_at s rest = least (rows_of s.last (brackets s.outer) rest)

-- the fault where there is one, else this
abbrev pub unless : {A : Type 0} → Option SyntaxFault → Result A SyntaxFault → Result A SyntaxFault
unless None go = go
unless (Some fault) go = Err fault

-- what is read of the items that follow: an alternation, or the first fault that is shown
abbrev pub run : State → List Item → Result Alternation SyntaxFault
run s [] = unless (fault_at s []) (Ok (finish s.level))
run s (item ∷ items) = unless (fault_at s (item ∷ items)) (run (shift s item) items)

-- the state behind `=` or `=/`, where the body begins
abbrev pub start : Item → State
start defined = record { outer = []; level = empty; last = defined }

-- the rule of a head with a body, or the body's fault
abbrev pub rule_with : Item → Item → Result Alternation SyntaxFault → Result Rule SyntaxFault
rule_with head defined (Ok a) = Ok (record { name = head.token; adds = is_adds (kind_of defined); body = a })
rule_with head defined (Err fault) = Err fault

-- what is read behind a name: `=` or `=/` must follow, and then a body
abbrev pub parse_body : Item → List Item → Result Rule SyntaxFault
parse_body head [] = Err (NoDefinedAs (place_after head.token))
parse_body head (defined ∷ body) = if is_defined_as (kind_of defined) then rule_with head defined (run (start defined) body) else Err (NoDefinedAs (place_of defined.token))

-- what is read of a block's items: a rule, or the first fault that is shown. A block has items, so of none it means nothing.
abbrev pub parse : List Item → Result Rule SyntaxFault
parse [] = Err Memory
parse (head ∷ rest) = if is_name_kind (kind_of head) then parse_body head rest else Err (NoName (place_of head.token))

-- The fault that the second or the third item shows behind a name, or the end where there are fewer.
abbrev pub early_behind : Item → List Item → Option SyntaxFault
early_behind head [] = Some (NoDefinedAs (place_after head.token))
early_behind head (defined ∷ body) = if is_defined_as (kind_of defined) then fault_at (start defined) body else Some (NoDefinedAs (place_of defined.token))

-- The fault that one of the first three items shows, or the end where there are fewer: none of these items has been taken
-- yet.
abbrev pub early : List Item → Option SyntaxFault
early [] = None
early (head ∷ rest) = if is_name_kind (kind_of head) then early_behind head rest else Some (NoName (place_of head.token))
