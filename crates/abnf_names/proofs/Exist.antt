-- Each text has a grammar.
use Rattle.std.proofs.Common.{◌≡◌, ℕ, ◌^◌, ◌<◌, ◌⊎◌, inl, inr, List, [], ◌∷◌, ◌++◌, length, map, Result, Ok, Err, refl, sym, ap, ◌∙◌}
use Rattle.std.specs.Prelude.{All, flat_map}
use Rattle.std.proofs.lemmas.List.Elements.{All-head, All-tail}
use Rattle.abnf_token.specs.Classes.{Text}
use Rattle.abnf_syntax.specs.declared.block.Block as source
use Rattle.abnf_syntax.specs.declared.item.Item.{Item}
use Rattle.abnf_syntax.specs.declared.fault.SyntaxFault.{SyntaxFault}
use Rattle.abnf_syntax.specs.declared.tree.Rule.{Rule}
use Rattle.abnf_syntax.specs.Grammar.{Derives}
use Rattle.abnf_syntax.specs.Faults.{Faults}
use Rattle.abnf_syntax.specs.Blocks.{line_texts, AreBlocks}
use Rattle.abnf_syntax.specs.Bounds.{bounds}
use Rattle.abnf_syntax.specs.Items.{AreItems}
use Rattle.abnf_syntax.proofs.Whole.{some_answer}
use Rattle.abnf_syntax.proofs.Exist.{some_blocks}
use Rattle.abnf_names.specs.Said.{Block, BlockSays, AreWithin, AreSaid}
use Rattle.abnf_names.specs.Rules.{Grammar, grammar_of, HasPlaces, IsGrammar}
use Rattle.abnf_names.specs.Places.{Named, places_in, places_of}

abbrev IsWhole : List Text → source.Block → Type 0
IsWhole ls block = AreItems ls block.first block.end block.items × (0 < length block.items)

said_by : (items : List Item) → ((rule : Rule) × Derives items rule) ⊎ ((fault : SyntaxFault) × Faults items fault) → (r : Result Rule SyntaxFault) × BlockSays items r
said_by items (inl p) = (Ok p.0, p.1)
said_by items (inr p) = (Err p.0, p.1)

-- what blocks say
all_said : (ls : List Text) (blocks : List source.Block) → All (IsWhole ls) blocks → (said : List Block) × AreWithin ls (map bounds blocks) said
all_said ls [] whole = ([], tt)
all_said ls (block ∷ blocks) whole =
    let first = All-head (IsWhole ls) block blocks whole in
    let says = said_by block.items (some_answer block.items first.1) in
    let rest = all_said ls blocks (All-tail (IsWhole ls) block blocks whole) in
    (record { items = block.items; said = says.0 } ∷ rest.0, (record { items = first.0; says = says.1 }, rest.1))

-- the places in them are those in their items
said_places : (ls : List Text) (blocks : List source.Block) (whole : All (IsWhole ls) blocks) → places_of (all_said ls blocks whole).0 ≡ flat_map (λ block. places_in block.items) blocks
unfolding all_said
said_places ls [] whole = refl
said_places ls (block ∷ blocks) whole = ap (λ rest. places_in block.items ++ rest) (said_places ls blocks (All-tail (IsWhole ls) block blocks whole))

pub has_places : (text : List ℕ) (blocks : List source.Block) (places : List Named) → AreBlocks (line_texts text) 0 (map bounds blocks) → All (IsWhole (line_texts text)) blocks → places ≡ flat_map (λ block. places_in block.items) blocks → HasPlaces text places
has_places text blocks places all whole are =
    let said = all_said (line_texts text) blocks whole in
    record {
      grammar = grammar_of text said.0;
      of_text = refl;
      right = record { blocks = said.0; of_text = record { bounds = map bounds blocks; all = all; each = said.1 }; is = refl };
      are = said_places (line_texts text) blocks whole ∙ sym are;
    }

pub some_said : (text : List ℕ) → length text < 2 ^ 62 → (blocks : List Block) × AreSaid text blocks
some_said text small =
    let found = some_blocks text small in
    let said = all_said (line_texts text) found.0 found.2 in
    (said.0, record { bounds = map bounds found.0; all = found.1; each = said.1 })

pub some_grammar : (text : List ℕ) → length text < 2 ^ 62 → (g : Grammar) × (g.text ≡ text) × IsGrammar g
some_grammar text small =
    let said = some_said text small in
    (grammar_of text said.0, refl, record { blocks = said.0; of_text = said.1; is = refl })
