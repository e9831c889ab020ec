-- A row of a block stands on one of the block's lines.
use Rattle.std.proofs.Common.{◌≡◌, ℕ, zero, suc, ◌+◌, ◌<◌, ◌≤◌, Bool, true, false, ◌&&◌, List, [], ◌∷◌, ◌++◌, length, map, Option, Some, None, Result, Err, sym, subst, arith}
use Rattle.std.specs.Prelude.{if◌then◌else◌, slice_index_or, Contains}
use Rattle.std.specs.List.{AllByRecursion, flat_map}
use Rattle.std.specs.Option.{is_some}
use Rattle.std.proofs.lemmas.Option.{none-some, same_Some}
use Rattle.ls_text.specs.declared.position.Place.{Place}
use Rattle.abnf_token.specs.declared.token.Kind.{Kind}
use Rattle.abnf_token.specs.declared.token.Token.{Token}
use Rattle.abnf_token.specs.Classes.{Text}
use Rattle.abnf_token.specs.Tokens.{TokensOf}
use Rattle.abnf_syntax.specs.declared.block.Head.{Head}
use Rattle.abnf_syntax.specs.declared.fault.SyntaxFault.{SyntaxFault}
use Rattle.abnf_syntax.specs.declared.fault.SyntaxFault.TheVariants as f
use Rattle.abnf_syntax.specs.declared.item.Item.{Item}
use Rattle.abnf_syntax.specs.declared.tree.Rule.{Rule}
use Rattle.abnf_syntax.specs.Grammar.{kind_of}
use Rattle.abnf_syntax.specs.Heads.{head_of}
use Rattle.abnf_syntax.specs.Items.{with_line_end, items_behind, items_of, AreTokens, AreItems, view}
use Rattle.abnf_syntax.specs.Kinds.{is_item, is_name_kind, is_defined_as, is_adds}
use Rattle.abnf_names.specs.Said.{Block, BlockSays, IsWithin}
use Rattle.abnf_names.specs.Places.{Named, named, is_touched, use_after, uses_after, places_in}
use Rattle.abnf_lint.specs.declared.finding.Code.{Code}
use Rattle.abnf_lint.specs.declared.finding.Code.TheVariants as c
use Rattle.abnf_lint.specs.Rows.{syntax_place, HasItem, HasHead, RowHolds}
use Rattle.abnf_lint.proofs.FaultLines.{IsAtLine, TokenWithin, ItemWithin, FaultWithin, fault_within}

module _ {A : Type 0} (P : A → Type 0) where
  one_of : (xs : List A) (x : A) (n : ℕ) → n < length xs → slice_index_or xs n x ≡ x → AllByRecursion P xs → P x
  one_of [] x n lt e all = absurd (omega (arith, lt))
  one_of (y ∷ xs) x zero lt e all = subst P e all.0
  one_of (y ∷ xs) x (suc n) lt e all = one_of xs x n (omega (arith, lt)) e all.1

  pub one_among : (xs : List A) (x : A) → AllByRecursion P xs → Contains xs x → P x
  one_among xs x all h = one_of xs x h.0 h.1 h.2 all

  all_joined : (xs ys : List A) → AllByRecursion P xs → AllByRecursion P ys → AllByRecursion P (xs ++ ys)
  all_joined [] ys p q = q
  all_joined (x ∷ xs) ys p q = (p.0, all_joined xs ys p.1 q)

module _ (low high : ℕ) where
  -- ---- items

  abbrev OneWithin : Option Token → Type 0
  OneWithin None = Unit {0}
  OneWithin (Some t) = TokenWithin low high t

  abbrev PairWithin : Token × Bool → Type 0
  PairWithin p = TokenWithin low high p.0

  line_within : (at start : ℕ) (left : Text) (ts : List Token) → low ≤ at → at < high → TokensOf at start left ts → AllByRecursion OneWithin (with_line_end ts)
  line_within at start left [] from to h = (tt, tt)
  line_within at start left (t ∷ ts) from to h =
      ((omega (arith, from, h.0.line), omega (arith, to, h.0.line)), line_within at (start + length t.text.now) _ ts from to h.1)

  lines_within : (ls : List Text) (at : ℕ) (tss : List (List Token)) → low ≤ at → at + length tss ≤ high → AreTokens ls at tss
      → AllByRecursion OneWithin (flat_map with_line_end tss)
  lines_within ls at [] from to h = tt
  lines_within ls at (ts ∷ tss) from to h =
      all_joined OneWithin (with_line_end ts) (flat_map with_line_end tss)
      (line_within at 0 (slice_index_or ls at []) ts from (omega (arith, to)) h.0)
      (lines_within ls (suc at) tss (omega (arith, from)) (omega (arith, to)) h.1)

  pairs_if : (b : Bool) (x : Token × Bool) (xs ys : List (Token × Bool))
      → PairWithin x → AllByRecursion PairWithin xs → AllByRecursion PairWithin ys → AllByRecursion PairWithin (if b then x ∷ xs else ys)
  pairs_if true x xs ys h p q = (h, p)
  pairs_if false x xs ys h p q = q

  behind_within : (apart : Bool) (os : List (Option Token)) → AllByRecursion OneWithin os → AllByRecursion PairWithin (items_behind apart os)
  behind_within apart [] h = tt
  behind_within apart (None ∷ os) h = behind_within true os h.1
  behind_within apart (Some t ∷ os) h =
      pairs_if (is_item t.kind) (t, apart) (items_behind false os) (items_behind true os) h.0 (behind_within false os h.1) (behind_within true os h.1)

  first_within : (os : List (Option Token)) → AllByRecursion OneWithin os → AllByRecursion PairWithin (items_of os)
  first_within [] h = tt
  first_within (None ∷ os) h = first_within os h.1
  first_within (Some t ∷ os) h =
      pairs_if (is_item t.kind) (t, false) (items_behind false os) (items_of os) h.0 (behind_within false os h.1) (first_within os h.1)

  viewed_within : (xs : List Item) → AllByRecursion PairWithin (map view xs) → AllByRecursion (ItemWithin low high) xs
  viewed_within [] h = tt
  viewed_within (x ∷ xs) h = (h.0, viewed_within xs h.1)

  -- ---- names and heads

  abbrev NamedWithin : Named → Type 0
  NamedWithin n = IsAtLine low high n.place.line

  named_if : (b : Bool) (n : Named) → NamedWithin n → AllByRecursion NamedWithin (if b then n ∷ [] else [])
  named_if true n h = (h, tt)
  named_if false n h = tt

  named_within : (defines : Bool) (x : Item) → ItemWithin low high x → AllByRecursion NamedWithin (named defines x)
  named_within defines x h = named_if (is_name_kind (kind_of x)) _ h

  use_if : (b : Bool) (ns : List Named) → AllByRecursion NamedWithin ns → AllByRecursion NamedWithin (if b then [] else ns)
  use_if true ns h = tt
  use_if false ns h = h

  uses_within : (before : Kind) (xs : List Item) → AllByRecursion (ItemWithin low high) xs → AllByRecursion NamedWithin (uses_after before xs)
  uses_within before [] h = tt
  uses_within before (x ∷ xs) h =
      all_joined NamedWithin (use_after before x) (uses_after (kind_of x) xs)
      (use_if (is_touched before x) (named false x) (named_within false x h.0))
      (uses_within (kind_of x) xs h.1)

  names_within : (xs : List Item) → AllByRecursion (ItemWithin low high) xs → AllByRecursion NamedWithin (places_in xs)
  names_within [] h = tt
  names_within (x ∷ xs) h =
      let defines = is_some (head_of (x ∷ xs)) in
      all_joined NamedWithin (named defines x) (uses_after (kind_of x) xs) (named_within defines x h.0) (uses_within (kind_of x) xs h.1)

  head_within : (xs : List Item) (head : Head) → AllByRecursion (ItemWithin low high) xs → head_of xs ≡ Some head → IsAtLine low high head.name.line
  head_within [] head all is = absurd (none-some head is)
  head_within (x ∷ []) head all is = absurd (none-some head is)
  head_within (x ∷ y ∷ xs) head all is = by (is_name_kind (kind_of x) && is_defined_as (kind_of y)) is
    where
      by : (b : Bool) → (if b then Some (record { name = x.token; adds = is_adds (kind_of y) }) else None) ≡ Some head → IsAtLine low high head.name.line
      by true e = subst (λ (h : Head). IsAtLine low high h.name.line) (same_Some (record { name = x.token; adds = is_adds (kind_of y) }) head e) all.0
      by false e = absurd (none-some head e)

  -- ---- faults

  abbrev AtPlace : Place → Type 0
  AtPlace place = IsAtLine low high place.line

  syntax_within : (fault : SyntaxFault) (place : Place) → FaultWithin low high fault → syntax_place fault ≡ Some place → AtPlace place
  syntax_within (f.NoName p) place h e = subst AtPlace (same_Some p place e) h
  syntax_within (f.NoDefinedAs p) place h e = subst AtPlace (same_Some p place e) h
  syntax_within (f.BadToken p) place h e = subst AtPlace (same_Some p place e) h
  syntax_within (f.ElementExpected p) place h e = subst AtPlace (same_Some p place e) h
  syntax_within (f.BlankExpected p) place h e = subst AtPlace (same_Some p place e) h
  syntax_within (f.Unclosed p) place h e = subst AtPlace (same_Some p place e) h
  syntax_within (f.NumberTooLarge p) place h e = absurd (none-some place e)
  syntax_within (f.TooDeep p) place h e = absurd (none-some place e)
  syntax_within f.Memory place h e = absurd (none-some place e)

  said_within : (xs : List Item) (said : Result Rule SyntaxFault) (fault : SyntaxFault)
      → AllByRecursion (ItemWithin low high) xs → BlockSays xs said → said ≡ Err fault → FaultWithin low high fault
  said_within xs said fault all says e = fault_within low high xs fault all (subst (BlockSays xs) e says)

  -- ---- rows

  headed : (block : Block) (place : Place) (name : List ℕ) (head : Head) → AllByRecursion (ItemWithin low high) block.items → HasHead block place name head → AtPlace place
  headed block place name head all h = subst AtPlace (sym h.at) (head_within block.items head all h.heads)

  itemed : (block : Block) (place : Place) (Holds : Item → Type 0) → AllByRecursion (ItemWithin low high) block.items → HasItem block place Holds → AtPlace place
  itemed block place Holds all h = subst AtPlace (sym h.at) (one_among (ItemWithin low high) block.items h.item all h.among)

  holds_within : (blocks before : List Block) (block : Block) → AllByRecursion (ItemWithin low high) block.items → BlockSays block.items block.said
      → (place : Place) (name : List ℕ) (code : Code) → RowHolds blocks before block place name code → AtPlace place
  holds_within blocks before block all says place name (c.Syntax fault) h = syntax_within fault place (said_within block.items block.said fault all says h.0) h.1
  holds_within blocks before block all says place name c.NumberTooLarge h = said_within block.items block.said (f.NumberTooLarge place) all says h.0
  holds_within blocks before block all says place name c.TooDeep h = said_within block.items block.said (f.TooDeep place) all says h.0
  holds_within blocks before block all says place name c.Undefined h = one_among NamedWithin (places_in block.items) _ (names_within block.items all) h.1
  holds_within blocks before block all says place name c.Duplicate h = headed block place name h.0 all h.1
  holds_within blocks before block all says place name c.NoBase h = headed block place name h.0 all h.1
  holds_within blocks before block all says place name c.EmptyRepeat h = itemed block place _ all h.1
  holds_within blocks before block all says place name c.EmptyRange h = itemed block place _ all h.1
  holds_within blocks before block all says place name c.Unproductive h = headed block place name h.0 all h.1

pub items_within : (ls : List Text) (first end : ℕ) (xs : List Item) → AreItems ls first end xs → AllByRecursion (ItemWithin first end) xs
items_within ls first end xs h =
    viewed_within first end xs
    (subst (AllByRecursion (PairWithin first end)) (sym h.items_are)
    (first_within first end (flat_map with_line_end h.tokens) (lines_within first end ls first h.tokens (omega arith) (omega (arith, h.all)) h.tokens_are)))

pub row_within : (ls : List Text) (bounds : ℕ × ℕ) (blocks before : List Block) (block : Block) → IsWithin ls bounds block
    → (place : Place) (name : List ℕ) (code : Code) → RowHolds blocks before block place name code → (bounds.0 ≤ place.line) × (place.line < bounds.1)
row_within ls bounds blocks before block within place name code h =
    holds_within bounds.0 bounds.1 blocks before block (items_within ls bounds.0 bounds.1 block.items within.items) within.says place name code h
