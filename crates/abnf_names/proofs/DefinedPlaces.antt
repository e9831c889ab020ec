-- A text defines a name exactly where a place of the name defines it.
use Rattle.std.proofs.Common.{◌≡◌, ℕ, Bool, true, false, List, [], ◌∷◌, ◌++◌, Option, Some, None, option_map, refl, sym, ap, ◌∙◌}
use Rattle.std.specs.Prelude.{◌&&◌, ◌||◌, filter, if◌then◌else◌}
use Rattle.std.specs.List.{filter_map, cons_option, list_any}
use Rattle.std.specs.Option.{is_some}
use Rattle.std.specs.Str.{bytes_eq}
use Rattle.std.proofs.lemmas.List.Folds.{list_any-append}
use Rattle.std.proofs.Math.Bool.{or-false}
use Rattle.abnf_token.proofs.Language.{and_false, and_true}
use Rattle.abnf_token.specs.Folded.{lowercase}
use Rattle.abnf_token.specs.declared.token.Kind.{Kind}
use Rattle.abnf_syntax.specs.declared.block.Head.{Head}
use Rattle.abnf_syntax.specs.declared.item.Item.{Item}
use Rattle.abnf_syntax.specs.Grammar.{kind_of}
use Rattle.abnf_syntax.specs.Heads.{head_of}
use Rattle.abnf_syntax.specs.Kinds.{is_adds, is_name_kind, is_defined_as}
use Rattle.abnf_parts.specs.Names.{Name, rule_number}
use Rattle.abnf_parts.proofs.NameLaws.{position_any}
use Rattle.abnf_parts.proofs.NeededLaws.{any_folded}
use Rattle.abnf_names.specs.Said.{Block, AreSaid, name_of}
use Rattle.abnf_names.specs.Places.{Named, is_touched, named, places_in, places_of, places_of_name, use_after, uses_after}
use Rattle.abnf_names.specs.Rules.{Grammar, IsGrammar, defined, head_name}

module _ (name : Name) where
  abbrev is_called : Named → Bool
  is_called n = bytes_eq name (lowercase n.text)

  -- the place defines the name
  abbrev is_its_head : Named → Bool
  is_its_head n = is_called n && n.defines

  among_by : (n : Named) (ns : List Named) (b : Bool) → is_called n ≡ b → list_any (λ n. n.defines) (filter is_called ns) ≡ list_any is_its_head ns
      → list_any (λ n. n.defines) (filter is_called (n ∷ ns)) ≡ list_any is_its_head (n ∷ ns)
  among_by n ns true e rest = rw e (ap (λ b. n.defines || b) rest)
  among_by n ns false e rest = rw e rest

  among : (ns : List Named) → list_any (λ n. n.defines) (filter is_called ns) ≡ list_any is_its_head ns
  among [] = refl
  among (n ∷ ns) = among_by n ns (is_called n) refl (among ns)

  -- ---- the places of a block

  no_use : (item : Item) (b : Bool) → is_name_kind (kind_of item) ≡ b → list_any is_its_head (named false item) ≡ false
  no_use item true e = rw e (or-false (bytes_eq name (lowercase item.token.text.now) && false) ∙ and_false (bytes_eq name (lowercase item.token.text.now)))
  no_use item false e = rw e refl

  unless_touched : (b : Bool) (item : Item) → list_any is_its_head (if b then [] else named false item) ≡ false
  unless_touched true item = refl
  unless_touched false item = no_use item (is_name_kind (kind_of item)) refl

  no_uses : (before : Kind) (items : List Item) → list_any is_its_head (uses_after before items) ≡ false
  no_uses before [] = refl
  no_uses before (item ∷ items) =
      list_any-append is_its_head (use_after before item) (uses_after (kind_of item) items)
      ∙ (λ i. unless_touched (is_touched before item) item i || no_uses (kind_of item) items i)

  of_first : (item : Item) (items : List Item) → list_any is_its_head (named false item ++ uses_after (kind_of item) items) ≡ false
  of_first item items =
      list_any-append is_its_head (named false item) (uses_after (kind_of item) items)
      ∙ (λ i. no_use item (is_name_kind (kind_of item)) refl i || no_uses (kind_of item) items i)

  of_head : (item : Item) (items : List Item) → is_name_kind (kind_of item) ≡ true
      → list_any is_its_head (named true item ++ uses_after (kind_of item) items) ≡ bytes_eq name (lowercase item.token.text.now)
  of_head item items e =
      list_any-append is_its_head (named true item) (uses_after (kind_of item) items)
      ∙ (ap (λ b. list_any is_its_head (named true item) || b) (no_uses (kind_of item) items)
      ∙ (or-false (list_any is_its_head (named true item))
      ∙ rw e (or-false (bytes_eq name (lowercase item.token.text.now) && true) ∙ and_true (bytes_eq name (lowercase item.token.text.now)))))

  abbrev is_that : Option Name → Bool
  is_that None = false
  is_that (Some other) = bytes_eq name other

  head_by : (first second : Item) (head : Head) (b c : Bool) → (if b && c then Some (record { name = first.token; adds = is_adds (kind_of second) }) else None) ≡ Some head
      → (b ≡ true) × (lowercase first.token.text.now ≡ name_of head)
  head_by first second head true true e = let same : record { name = first.token; adds = is_adds (kind_of second) } ≡ head = cc in (refl, ap name_of same)
  head_by first second head true false e = absurd (cc)
  head_by first second head false c e = absurd (cc)

  head_is : (first : Item) (items : List Item) (head : Head) → head_of (first ∷ items) ≡ Some head → (is_name_kind (kind_of first) ≡ true) × (lowercase first.token.text.now ≡ name_of head)
  head_is first [] head e = absurd (cc)
  head_is first (second ∷ items) head e = head_by first second head (is_name_kind (kind_of first)) (is_defined_as (kind_of second)) e

  by_head : (first : Item) (items : List Item) (o : Option Head) → head_of (first ∷ items) ≡ o → list_any is_its_head (named (is_some o) first ++ uses_after (kind_of first) items) ≡ is_that (option_map name_of o)
  by_head first items None e = of_first first items
  by_head first items (Some head) e = let h = head_is first items head e in of_head first items h.0 ∙ ap (bytes_eq name) h.1

  of_items : (items : List Item) → list_any is_its_head (places_in items) ≡ is_that (option_map name_of (head_of items))
  of_items [] = refl
  of_items (first ∷ items) = by_head first items (head_of (first ∷ items)) refl

  -- ---- all blocks

  one_more : (o : Option Name) (names : List Name) → list_any (bytes_eq name) (cons_option o names) ≡ (is_that o || list_any (bytes_eq name) names)
  one_more None names = refl
  one_more (Some other) names = refl

  of_blocks : (blocks : List Block) → list_any (bytes_eq name) (filter_map head_name blocks) ≡ list_any is_its_head (places_of blocks)
  of_blocks [] = refl
  of_blocks (block ∷ blocks) =
      one_more (head_name block) (filter_map head_name blocks)
      ∙ ((λ i. sym (of_items block.items) i || of_blocks blocks i)
      ∙ sym (list_any-append is_its_head (places_in block.items) (places_of blocks)))

  is_defined : (blocks : List Block) → is_some (rule_number (defined blocks) name) ≡ list_any (λ n. n.defines) (places_of_name name (places_of blocks))
  is_defined blocks =
      sym (position_any name (defined blocks))
      ∙ (any_folded (bytes_eq name) [] (filter_map head_name blocks) ∙ (of_blocks blocks ∙ sym (among (places_of blocks))))

-- so a name is among those that the text defines
pub own_is_defined : (g k : Grammar) → g ≡ k → IsGrammar g → (name : Name) (own given : List Name) (rule : Option ℕ) → ((blocks : List Block) → AreSaid g.text blocks → own ≡ defined blocks)
    → given ≡ own → rule ≡ rule_number given name → is_some rule ≡ list_any (λ n. n.defines) (places_of_name name k.places)
own_is_defined g k same h name own given rule own_is given_is is =
    ap is_some (is ∙ ap (λ l. rule_number l name) (given_is ∙ own_is h.blocks h.of_text))
    ∙ (is_defined name h.blocks ∙ ap (λ (k : Grammar). list_any (λ n. n.defines) (places_of_name name k.places)) (sym h.is ∙ same))
