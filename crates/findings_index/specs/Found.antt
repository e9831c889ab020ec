-- What is found in a block by its items, its fault and what is known of it, and so in a text.
use Rattle.std.specs.Prelude.{List, [], ◌∷◌, ◌++◌, Option}
use Rattle.abnf_syntax.specs.declared.block.Head.{Head}
use Rattle.abnf_syntax.specs.declared.item.Item.{Item}
use Rattle.abnf_syntax.specs.declared.fault.SyntaxFault.{SyntaxFault}
use Rattle.abnf_names.specs.Said.{Block}
use Rattle.abnf_names.specs.Shown.{fault_shown}
use Rattle.abnf_lint.specs.declared.finding.Finding.{Finding}
use Rattle.abnf_lint.specs.Found.{block_found, head_found}
use Rattle.abnf_digests.specs.Digests.{Digest}
use Rattle.findings_index.specs.ToldOfBlock.{ToldOfBlock, IsToldOf, head_told}

-- what is found at the head of a block: a duplicate, an addition to nothing, or an unproductive rule
abbrev pub found_at_head : ToldOfBlock → Head → List Finding
found_at_head told head = head_found (head_told told) head

-- what is found in a block, in order: at its head, if it has one, and then at its fault, or, where it shows none, at its items
abbrev pub found_by : ToldOfBlock → List Item → Option SyntaxFault → List Finding
found_by told items fault = block_found (λ head. head_told told) told.strange items fault

-- ---- in a text

-- Each of these is known of its block (`IsToldOf`), where these are the digests of the blocks, which stand behind those before.
abbrev pub AllAreTold : List Digest → List Digest → List Digest → List ToldOfBlock → Type 0
AllAreTold all before [] [] = Unit {0}
AllAreTold all before (digest ∷ digests) (told ∷ tolds) = IsToldOf all before digest told × AllAreTold all (before ++ digest ∷ []) digests tolds
AllAreTold all before _ _ = ⊥

-- what is found in a text: in all its blocks, one after the other
abbrev pub all_found : List ToldOfBlock → List Block → List Finding
all_found (told ∷ tolds) (block ∷ blocks) = found_by told block.items (fault_shown block.said) ++ all_found tolds blocks
all_found _ _ = []
