-- The outline of blocks, by the head and the last item of each.
use Rattle.std.proofs.Common.{◌≡◌, ℕ, ◌+◌, ◌<◌, ◌≤◌, ◌^◌, Bool, true, false, List, [], ◌∷◌, ◌++◌, length, map, Option, None, Some, option_map, refl, sym, ◌∙◌, ap, subst, arith, if◌then◌else◌}
use Rattle.std.specs.Prelude.{◌&&◌, All}
use Rattle.std.specs.List.{filter_map}
use Rattle.std.proofs.lemmas.List.{append-nil}
use Rattle.std.proofs.lemmas.List.Elements.{filter_map-append}
use Rattle.ls_text.specs.Lines.{units}
use Rattle.ls_text.specs.Positions.{place_range}
use Rattle.ls_text.specs.declared.position.Place.{Place}
use Rattle.ls_text.specs.declared.position.Range.{Range}
use Rattle.ls_text.specs.declared.position.Encoding.{Encoding}
use Rattle.abnf_token.specs.Classes.{Text}
use Rattle.abnf_token.specs.declared.token.Kind.{Kind}
use Rattle.abnf_syntax.specs.declared.block.Block.{Block}
use Rattle.abnf_syntax.specs.declared.block.Head.{Head}
use Rattle.abnf_syntax.specs.declared.ends.Headed.{Headed}
use Rattle.abnf_syntax.specs.declared.item.Item.{Item}
use Rattle.abnf_syntax.specs.Blocks.{AreBlocksUpTo, IsNextBlock, IsSeam, begins_at, line_texts}
use Rattle.abnf_syntax.specs.Bounds.{bounds}
use Rattle.abnf_syntax.specs.Faults.{last_of}
use Rattle.abnf_syntax.specs.Grammar.{kind_of}
use Rattle.abnf_syntax.specs.Kinds.{is_name_kind, is_defined_as, is_adds}
use Rattle.abnf_syntax.specs.Heads.{headed_items, headed_view}
use Rattle.abnf_syntax.specs.Items.{AreItems}
use Rattle.abnf_syntax.proofs.BlockLaws.{All_none, All_snoc, all_found, end_seam, found_more, none_found, text_blocks}
use Rattle.abnf_syntax.proofs.Exist.{HasTokens, block_items, text_has_tokens}
use Rattle.ls_answers.specs.Outline.{IsOutline, as_list, symbol_with, symbol_of, token_range}
use Rattle.ls_answers.specs.own.Outline.{headed_symbol}
use Rattle.ls_answers.specs.declared.answer.Symbol.{Symbol}

module _ (encoding : Encoding) where
  -- the symbols of blocks
  abbrev pub outline : List ℕ → List Block → List Symbol
  outline text = filter_map (λ (block : Block). symbol_of encoding text block.items)

  one : (text : List ℕ) (block : Block) (o : Option Symbol) → symbol_of encoding text block.items ≡ o → outline text (block ∷ []) ≡ as_list o
  one text block None e = rw e refl
  one text block (Some symbol) e = rw e refl

  -- the next block's symbol comes behind
  outline_more : (text : List ℕ) (blocks : List Block) (block : Block) → outline text (blocks ++ block ∷ []) ≡ outline text blocks ++ as_list (symbol_of encoding text block.items)
  outline_more text blocks block =
      filter_map-append (λ (block : Block). symbol_of encoding text block.items) blocks (block ∷ [])
      ∙ ap (λ l. outline text blocks ++ l) (one text block (symbol_of encoding text block.items) refl)

  -- ---- a block's symbol, by its head and its last item

  abbrev View : Type 0
  View = Kind × Text × ℕ × ℕ

  abbrev view_range : List ℕ → View → Range
  view_range text v = let place : Place = record { line = v.2; start = v.3; end = v.3 + length v.1 } in place_range (units encoding) text place

  -- A symbol doesn't depend on where texts lie in memory.
  abbrev view_symbol : List ℕ → View × View × Bool → Symbol
  view_symbol text v = record { name = v.0.1; range = record { start = (view_range text v.0).start; end = (view_range text v.1).end }; name_range = view_range text v.0 }

  by_view : (text : List ℕ) (o : Option Headed) → option_map (headed_symbol encoding text) o ≡ option_map (view_symbol text) (option_map headed_view o)
  by_view text None = refl
  by_view text (Some block) = refl

  symbol_items : (text : List ℕ) (items : List Item) → symbol_of encoding text items ≡ option_map (headed_symbol encoding text) (headed_items items)
  symbol_items text [] = refl
  symbol_items text (x ∷ []) = refl
  symbol_items text (x ∷ y ∷ xs) = by (is_name_kind (kind_of x) && is_defined_as (kind_of y)) (record { name = x.token; adds = is_adds (kind_of y) }) refl
    where
      by : (b : Bool) (head : Head) → head.name ≡ x.token → option_map (symbol_with encoding text x (last_of y xs)) (if b then Some head else None)
          ≡ option_map (headed_symbol encoding text) (option_map (λ (head : Head). record { head = head; last = (last_of y xs).token }) (if b then Some head else None))
      by true head e = ap Some (λ i. record { name = head.name.text.now; range = record { start = (token_range encoding text (sym e i)).start; end = (token_range encoding text (last_of y xs).token).end }; name_range = token_range encoding text head.name })
      by false head e = refl

  -- the symbol of items, by what is shown of them
  symbol_shown : (text : List ℕ) (items : List Item) (shown : Option Headed) → option_map headed_view shown ≡ option_map headed_view (headed_items items) → symbol_of encoding text items ≡ option_map (headed_symbol encoding text) shown
  symbol_shown text items shown e = symbol_items text items ∙ by_view text (headed_items items) ∙ ap (option_map (view_symbol text)) (sym e) ∙ sym (by_view text shown)

  pub one_shown : (text : List ℕ) (old new : List Symbol) (block : Headed) (shown : Option Headed) (symbol : Symbol) → shown ≡ Some block → symbol ≡ headed_symbol encoding text block → new ≡ old ++ symbol ∷ [] →
      new ≡ old ++ as_list (option_map (headed_symbol encoding text) shown)
  one_shown text old new block shown symbol shown_is symbol_is new_is =
      new_is ∙ ap (λ (s : Symbol). old ++ s ∷ []) symbol_is ∙ ap (λ (o : Option Headed). old ++ as_list (option_map (headed_symbol encoding text) o)) (sym shown_is)

  pub none_shown : (text : List ℕ) (symbols : List Symbol) (shown : Option Headed) → shown ≡ None → symbols ≡ symbols ++ as_list (option_map (headed_symbol encoding text) shown)
  none_shown text symbols shown none = sym (append-nil symbols) ∙ ap (λ (o : Option Headed). symbols ++ as_list (option_map (headed_symbol encoding text) o)) (sym none)

  -- ---- block by block

  -- These are the symbols of the blocks before a line, which the blocks from there on complete.
  pub record HasSymbols (text : List ℕ) (ls : List Text) (count first : ℕ) (symbols : List Symbol) : Type 0 where
    pub within : first ≤ count
    pub begins : first < count → begins_at ls first ≡ true
    pub blocks : List Block
    pub all : (bs : List (ℕ × ℕ)) → AreBlocksUpTo ls first count bs → AreBlocksUpTo ls 0 count (map bounds blocks ++ bs)
    pub items : All (λ (b : Block). AreItems ls b.first b.end b.items) blocks
    pub symbols_are : symbols ≡ outline text blocks

  pub none_yet : (text : List ℕ) (ls : List Text) (count first : ℕ) (symbols : List Symbol) → IsNextBlock ls 0 count first → symbols ≡ [] → HasSymbols text ls count first symbols
  none_yet text ls count first symbols next none = record {
    within = next.within;
    begins = next.begins;
    blocks = [];
    all = none_found ls 0 count first [] refl next;
    items = All_none (λ (b : Block). AreItems ls b.first b.end b.items) [] refl;
    symbols_are = none;
  }

  -- what `Headed` shows of the block of these lines
  abbrev pub IsShown : List Text → ℕ → ℕ → Option Headed → Type 0
  IsShown ls first end shown = (items : List Item) → AreItems ls first end items → option_map headed_view shown ≡ option_map headed_view (headed_items items)

  module _ (text : List ℕ) (ls : List Text) (count first end : ℕ) (small : length text < 2 ^ 62) (lines_are : ls ≡ line_texts text) (count_is : count ≡ length ls) where
    seam : IsSeam ls count
    seam = subst (IsSeam ls) (sym count_is) (end_seam ls)

    -- one block more
    pub block_more : (old new : List Symbol) (shown : Option Headed) → HasSymbols text ls count first old → first < count → IsNextBlock ls (first + 1) count end → IsShown ls first end shown →
        new ≡ old ++ as_list (option_map (headed_symbol encoding text) shown) → HasSymbols text ls count end new
    block_more old new shown has less next is new_is =
        let tokens : HasTokens ls = subst HasTokens (sym lines_are) (text_has_tokens text small) in
        let found = block_items ls tokens first end (omega (arith, next.reached)) in
        let block : Block = record { first = first; end = end; items = found.0 } in
        record {
          within = next.within;
          begins = next.begins;
          blocks = has.blocks ++ block ∷ [];
          all = found_more ls 0 count has.blocks block (has.blocks ++ block ∷ []) refl seam (has.begins less) next has.all;
          items = All_snoc (λ (b : Block). AreItems ls b.first b.end b.items) has.blocks block (has.blocks ++ block ∷ []) refl has.items found.1;
          symbols_are =
              new_is ∙ (λ i. has.symbols_are i ++ as_list (sym (symbol_shown text found.0 shown (is found.0 found.1)) i))
              ∙ sym (outline_more text has.blocks block);
        }

  -- no block is left
  pub all_symbols : (text : List ℕ) (ls : List Text) (count first : ℕ) (symbols : List Symbol) → ls ≡ line_texts text → count ≡ length ls → count ≤ first → HasSymbols text ls count first symbols → IsOutline encoding text symbols
  all_symbols text ls count first symbols lines_are count_is le has = record {
    blocks = has.blocks;
    all = text_blocks ls (line_texts text) count lines_are count_is (map bounds has.blocks) (all_found ls 0 count first has.blocks le has.all);
    items = subst (λ (ls : List Text). All (λ (b : Block). AreItems ls b.first b.end b.items) has.blocks) lines_are has.items;
    symbols_are = has.symbols_are;
  }
