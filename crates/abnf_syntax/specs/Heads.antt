-- The head of a block (RFC 5234, sections 2.2 and 3.3): the name that it defines, or that it adds to.
use Rattle.std.specs.Prelude.{◌&&◌, ℕ, Bool, List, [], ◌∷◌, Option, Some, None, option_map, if◌then◌else◌}
use Rattle.abnf_token.specs.Classes.{Text}
use Rattle.abnf_token.specs.Tokens.{view}
use Rattle.abnf_token.specs.declared.token.Kind.{Kind}
use Rattle.abnf_syntax.specs.declared.block.Head.{Head}
use Rattle.abnf_syntax.specs.declared.ends.Headed.{Headed}
use Rattle.abnf_syntax.specs.declared.item.Item.{Item}
use Rattle.abnf_syntax.specs.Faults.{last_of}
use Rattle.abnf_syntax.specs.Grammar.{kind_of}
use Rattle.abnf_syntax.specs.Kinds.{is_name_kind, is_defined_as, is_adds}

-- the first item, where that is a name and `=` or `=/` follows, and which of the two; the block may be faulty behind it
abbrev pub head_of : List Item → Option Head
head_of (first ∷ second ∷ items) =
    if is_name_kind (kind_of first) && is_defined_as (kind_of second) then Some (record { name = first.token; adds = is_adds (kind_of second) }) else None
head_of _ = None

-- the head of a block's items and the last item, where they have a head
abbrev pub headed_items : List Item → Option Headed
headed_items [] = None
headed_items (first ∷ items) = option_map (λ head. record { head = head; last = (last_of first items).token }) (head_of (first ∷ items))

-- what a head and a last item say, but for the addresses of their texts
abbrev pub headed_view : Headed → (Kind × Text × ℕ × ℕ) × (Kind × Text × ℕ × ℕ) × Bool
headed_view headed = (view headed.head.name, view headed.last, headed.head.adds)
