-- The check of a block, over lists. No public contract speaks of it.
use Rattle.std.specs.Prelude.{◌⊎◌, ◌≡◌, Bool, false, List, [], ◌∷◌, Option, Some, None, Result, Ok, Err}
use Rattle.std.specs.Option.{option_or}
use Rattle.abnf_token.specs.declared.token.Kind.{Kind}
use Rattle.abnf_token.specs.declared.token.Kind.TheVariants.{Name, Slash, Quoted, Prose}
use Rattle.abnf_token.specs.declared.token.Token.{Token}
use Rattle.abnf_syntax.specs.declared.item.Item.{Item}
use Rattle.abnf_syntax.specs.declared.fault.SyntaxFault.{SyntaxFault}
use Rattle.abnf_syntax.specs.declared.fault.SyntaxFault.TheVariants.{Memory}
use Rattle.abnf_syntax.specs.Kinds.{needs_element, ends_element}
use Rattle.abnf_syntax.specs.Faults.{rows_of, least, open_after}

-- the fault that the table shows at the next item, or at the end, behind a last item and open brackets
unfoldable pub fault_behind : Item → List Token → List Item → Option SyntaxFault
fault_behind last brackets rest = least (rows_of last brackets rest)

-- An item of this kind shows no fault behind one of that kind, whatever else stands there: an element where one must come, or a slash behind one.
abbrev pub shows_none : Kind → Kind → Bool
shows_none last Name = needs_element last
shows_none last Quoted = needs_element last
shows_none last Prose = needs_element last
shows_none last Slash = ends_element last
shows_none last _ = false

-- the first fault that the items behind a last item and open brackets show, or the end
abbrev pub first_fault : Item → List Token → List Item → Option SyntaxFault
first_fault last brackets [] = fault_behind last brackets []
first_fault last brackets (item ∷ items) = option_or (fault_behind last brackets (item ∷ items)) (first_fault item (open_after brackets item) items)

-- What a check returned is this fault, or that there is none, unless memory ran out.
abbrev pub Shows : Result (Unit {0}) SyntaxFault → Option SyntaxFault → Type 0
Shows (Ok done) shown = shown ≡ None
Shows (Err fault) shown = (fault ≡ Memory) ⊎ (shown ≡ Some fault)
