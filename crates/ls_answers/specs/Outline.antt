-- The outline of a text (LSP 3.17, "Document Symbols Request"): its blocks that have a head.
use Rattle.std.specs.Prelude.{◌≡◌, ℕ, List, [], ◌∷◌, All, map, Option, None, Some, option_map}
use Rattle.std.specs.List.{filter_map}
use Rattle.ls_text.specs.Lines.{units}
use Rattle.ls_text.specs.Positions.{place_range}
use Rattle.ls_text.specs.declared.position.Range.{Range}
use Rattle.ls_text.specs.declared.position.Encoding.{Encoding}
use Rattle.abnf_token.specs.declared.token.Token.{Token}
use Rattle.abnf_syntax.specs.Blocks.{line_texts, AreBlocks}
use Rattle.abnf_syntax.specs.Bounds.{bounds}
use Rattle.abnf_syntax.specs.Faults.{place_of, last_of}
use Rattle.abnf_syntax.specs.Heads.{head_of}
use Rattle.abnf_syntax.specs.Items.{AreItems}
use Rattle.abnf_syntax.specs.declared.block.Block.{Block}
use Rattle.abnf_syntax.specs.declared.block.Head.{Head}
use Rattle.abnf_syntax.specs.declared.item.Item.{Item}
use Rattle.ls_answers.specs.declared.answer.Symbol.{Symbol}

-- the range of a token, in the units of the encoding
abbrev pub token_range : Encoding → List ℕ → Token → Range
token_range encoding text token = place_range (units encoding) text (place_of token)

-- from the start of the first item to the end of the last
abbrev pub extent : Encoding → List ℕ → Item → Item → Range
extent encoding text first last = record { start = (token_range encoding text first.token).start; end = (token_range encoding text last.token).end }

-- the symbol of a block from its first item to its last, by its head: the name as it is written there, the block's range, and the name's
-- own
abbrev pub symbol_with : Encoding → List ℕ → Item → Item → Head → Symbol
symbol_with encoding text first last head = record { name = head.name.text.now; range = extent encoding text first last; name_range = token_range encoding text head.name }

-- the symbol of a block's items, if these have a head; the block may be faulty behind it, and its name may be defined elsewhere too
abbrev pub symbol_of : Encoding → List ℕ → List Item → Option Symbol
symbol_of encoding text [] = None
symbol_of encoding text (first ∷ items) = option_map (symbol_with encoding text first (last_of first items)) (head_of (first ∷ items))

-- the same as a list: of one, or the empty one
abbrev pub as_list : {A : Type 0} → Option A → List A
as_list None = []
as_list (Some x) = x ∷ []

-- the symbols of one block: one, or none where it has no head
abbrev pub symbols_in : Encoding → List ℕ → Block → List Symbol
symbols_in encoding text block = as_list (symbol_of encoding text block.items)

-- These are the symbols of the text's blocks that have a head, in their order: those whose first item is a name with `=` or `=/` behind it.
-- Each goes from the start of its block's first item to the end of its last.
pub record IsOutline (encoding : Encoding) (text : List ℕ) (symbols : List Symbol) : Type 0 where
  pub blocks : List Block
  pub all : AreBlocks (line_texts text) 0 (map bounds blocks)
  pub items : All (λ b. AreItems (line_texts text) b.first b.end b.items) blocks
  pub symbols_are : symbols ≡ filter_map (λ b. symbol_of encoding text b.items) blocks
