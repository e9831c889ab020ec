-- The fault that a block shows.
use Rattle.std.specs.Prelude.{◌≡◌, List, Option, Some, None, Result, Ok, Err}
use Rattle.abnf_syntax.specs.declared.item.Item.{Item}
use Rattle.abnf_syntax.specs.declared.fault.SyntaxFault.{SyntaxFault}
use Rattle.abnf_syntax.specs.declared.tree.Rule.{Rule}
use Rattle.abnf_names.specs.Said.{BlockSays}

-- the fault that is said in a rule's place
abbrev pub fault_shown : Result Rule SyntaxFault → Option SyntaxFault
fault_shown (Ok rule) = None
fault_shown (Err fault) = Some fault

-- the block shows this fault, or it says a rule and shows none
pub record HasFault (items : List Item) (fault : Option SyntaxFault) : Type 0 where
  pub said : Result Rule SyntaxFault
  pub says : BlockSays items said
  pub shown : fault ≡ fault_shown said
