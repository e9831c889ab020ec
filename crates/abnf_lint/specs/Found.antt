-- What is found in a block, in the order in which it stands there: at its head, at its fault, and at its items where it shows none.
use Rattle.std.specs.Prelude.{ℕ, Bool, true, not, List, [], ◌∷◌, ◌++◌, flat_map, Option, if◌then◌else◌}
use Rattle.std.specs.Option.{is_some, option_map_or}
use Rattle.ls_text.specs.declared.position.Place.{Place}
use Rattle.abnf_token.specs.declared.token.Kind.{Kind}
use Rattle.abnf_token.specs.declared.token.Kind.TheVariants.{Repeat, Number}
use Rattle.abnf_token.specs.Folded.{lowercase}
use Rattle.abnf_syntax.specs.declared.block.Head.{Head}
use Rattle.abnf_syntax.specs.declared.item.Item.{Item}
use Rattle.abnf_syntax.specs.declared.fault.SyntaxFault.{SyntaxFault}
use Rattle.abnf_syntax.specs.declared.fault.SyntaxFault.TheVariants as f
use Rattle.abnf_syntax.specs.Grammar.{kind_of}
use Rattle.abnf_syntax.specs.Faults.{place_of}
use Rattle.abnf_syntax.specs.Heads.{head_of}
use Rattle.abnf_parts.specs.Names.{Name, rule_number}
use Rattle.abnf_names.specs.Places.{Named, use_after}
use Rattle.abnf_lint.specs.declared.finding.Code.{Code}
use Rattle.abnf_lint.specs.declared.finding.Code.TheVariants as c
use Rattle.abnf_lint.specs.declared.finding.Finding.{Finding}
use Rattle.abnf_lint.specs.declared.told.HeadTold.{HeadTold}
use Rattle.abnf_lint.specs.Empty.{is_empty_number}
use Rattle.abnf_lint.specs.Rows.{syntax_place}

-- a finding at a place, with its code and the name in its message, if it holds
abbrev pub finding_if : Bool → Code → Place → List ℕ → List Finding
finding_if holds code place name = if holds then record { place = place; code = code; name = name } ∷ [] else []

-- what is found at the fault of a block
abbrev pub fault_found : SyntaxFault → List Finding
fault_found (f.NumberTooLarge place) = finding_if true c.NumberTooLarge place []
fault_found (f.TooDeep place) = finding_if true c.TooDeep place []
fault_found fault = option_map_or (λ place. finding_if true (c.Syntax fault) place []) (syntax_place fault) []

-- what is found at a repeat or a number: a minimum above the maximum, or a low end above the high end
abbrev pub number_found : Kind → Place → List ℕ → List Finding
number_found Repeat place text = finding_if (is_empty_number Repeat text) c.EmptyRepeat place []
number_found Number place text = finding_if (is_empty_number Number text) c.EmptyRange place []
number_found _ place text = []

-- ---- at the items, where it is known which names are strange: which stand for nothing

-- none of these names is the name
abbrev pub is_none_of : List Name → Name → Bool
is_none_of names name = not (is_some (rule_number names name))

-- what is found at the use of a name: that it stands for no rule
abbrev pub use_found : (Name → Bool) → Named → List Finding
use_found strange used = finding_if (strange (lowercase used.text)) c.Undefined used.place used.text

-- what is found at an item that stands behind an item of this kind
abbrev pub item_found : (Name → Bool) → Kind → Item → List Finding
item_found strange before item = flat_map (use_found strange) (use_after before item) ++ number_found (kind_of item) (place_of item.token) item.token.text.now

-- what is found at these items, in their order, the first of which stands behind an item of this kind
abbrev pub items_found : (Name → Bool) → Kind → List Item → List Finding
items_found strange before [] = []
items_found strange before (item ∷ items) = item_found strange before item ++ items_found strange (kind_of item) items

-- what is found at the items of a block without fault, behind the first of them, which is its head
abbrev pub body_found : (Name → Bool) → List Item → List Finding
body_found strange [] = []
body_found strange (item ∷ items) = items_found strange (kind_of item) items

-- what is found at a block's fault, or at its items where it shows none
abbrev pub said_found : (Name → Bool) → List Item → Option SyntaxFault → List Finding
said_found strange items fault = option_map_or fault_found fault (body_found strange items)

-- ---- at the head

-- what is found at the head of a block: a duplicate, an addition to nothing, or an unproductive rule
abbrev pub head_found : HeadTold → Head → List Finding
head_found told head =
    let place = place_of head.name in
    finding_if told.is_duplicate c.Duplicate place head.name.text.now
    ++ finding_if told.has_no_base c.NoBase place head.name.text.now
    ++ finding_if told.is_unproductive c.Unproductive place head.name.text.now

-- ---- in a block

-- what is found in a block, where it is told of a head what is known of it: at its head, if it has one, and then at its fault or its items
abbrev pub block_found : (Head → HeadTold) → (Name → Bool) → List Item → Option SyntaxFault → List Finding
block_found tell strange items fault = option_map_or (λ head. head_found (tell head) head) (head_of items) [] ++ said_found strange items fault
