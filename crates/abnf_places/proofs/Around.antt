-- The places on a line are those of the block that holds it.
use Rattle.std.proofs.Common.{◌≡◌, ℕ, suc, ◌+◌, ◌<◌, ◌≤◌, ◌^◌, Bool, true, false, List, [], ◌∷◌, ◌++◌, length, map, Option, Some, option_map, refl, sym, ap, subst, ◌∙◌, arith, inl, inr, if◌then◌else◌}
use Rattle.std.specs.Prelude.{◌⊎◌, ◌&&◌, find, nat_eq, nat_le, nat_lt}
use Rattle.std.specs.Borrow.{Bor}
use Rattle.std.specs.Option.{option_or}
use Rattle.std.proofs.lemmas.Bool.{cases_lt}
use Rattle.std.proofs.lemmas.Bool.Decides.{nat_tests}
use Rattle.std.proofs.lemmas.List.{append-nil}
use Rattle.std.proofs.lemmas.List.Elements.{All-head, All-tail, filter-append}
use Rattle.abnf_token.specs.Classes.{Text}
use Rattle.ls_text.specs.Positions.{place_at}
use Rattle.ls_text.specs.declared.position.Place.{Place}
use Rattle.abnf_syntax.specs.declared.block.Block.{Block}
use Rattle.abnf_syntax.specs.declared.item.Item.{Item}
use Rattle.abnf_syntax.specs.Blocks.{IsBlock, IsNextBlock, NoneBegins, line_texts}
use Rattle.abnf_syntax.specs.Items.{AreItems}
use Rattle.abnf_syntax.proofs.BlockLaws.{none_both}
use Rattle.abnf_syntax.proofs.Exist.{some_blocks}
use Rattle.abnf_names.specs.declared.place.Spot.{Spot}
use Rattle.abnf_names.specs.Places.{Named, found_at, named_at, place_and_text, places_in, spot_at}
use Rattle.abnf_names.proofs.Ascending.{Ahead, Point, Run, ahead_behind, ahead_trans, behind, block_run, name_point, name_points, places_run}
use Rattle.abnf_names.proofs.Exist.{has_places}
use Rattle.abnf_names.proofs.SpotLaws.{told}
use Rattle.abnf_places.specs.Found.{IsNameAt}
use Rattle.abnf_places.specs.own.Blocks.{AreBlocksFrom, IsStartBefore, places_of_all, places_on}
use Rattle.abnf_places.proofs.OneBlock.{both, next_ends, not_among, one_end}

-- ---- blocks from a line on

pub blocks_behind : (ls : List Text) (from : ℕ) (b : Block) (bs : List Block) → AreBlocksFrom ls from (b ∷ bs) → AreBlocksFrom ls b.end bs
blocks_behind ls from b bs h = record { all = h.all.3; items = All-tail (λ (x : Block). AreItems ls x.first x.end x.items) b bs h.items }

pub first_items : (ls : List Text) (from : ℕ) (b : Block) (bs : List Block) → AreBlocksFrom ls from (b ∷ bs) → AreItems ls b.first b.end b.items
first_items ls from b bs h = All-head (λ (x : Block). AreItems ls x.first x.end x.items) b bs h.items

-- the same blocks, from a later line on before which none begins
pub from_later : (ls : List Text) (from to : ℕ) → from ≤ to → NoneBegins ls from to → (blocks : List Block) → AreBlocksFrom ls from blocks → AreBlocksFrom ls to blocks
from_later ls from to less none [] h = record { all = λ at reached before. h.all at (omega (arith, less)) before; items = h.items }
from_later ls from to less none (b ∷ bs) h = record {
  all = (not_among ls from to b.first none h.all.2.begins h.all.0, (λ at reached before. h.all.1 at (omega (arith, less)) before), h.all.2, h.all.3);
  items = h.items;
}

-- the same blocks, from an earlier line on behind which none begins before them
pub from_earlier : (ls : List Text) (from to : ℕ) → from ≤ to → NoneBegins ls from to → (blocks : List Block) → AreBlocksFrom ls to blocks → AreBlocksFrom ls from blocks
from_earlier ls from to less none [] h = record { all = none_both ls from to (length ls) none h.all; items = h.items }
from_earlier ls from to less none (b ∷ bs) h = record {
  all = (omega (arith, less, h.all.0), none_both ls from to b.first none h.all.1, h.all.2, h.all.3);
  items = h.items;
}

-- ---- places on other lines

off : (line : ℕ) (n : Named) (ns : List Named) → (n.place.line ≡ line → ⊥) → places_on line (n ∷ ns) ≡ places_on line ns
off line n ns other = let e : nat_eq n.place.line line ≡ false = grind (arith, nat_tests) in rw e refl

ahead_line : (p q : Point) → Ahead p q → p.0 ≤ q.0
ahead_line p q (inl less) = omega (arith, less)
ahead_line p q (inr same) = omega (arith, same.0)

ahead_start : (p : Point) (end : ℕ) → Ahead (behind p) (end, 0) → p.0 < end
ahead_start p end (inl less) = less
ahead_start p end (inr same) = absurd (omega (arith, same.1))

run_ahead : (p q : Point) (xs : List Point) → Run p xs q → Ahead p q
run_ahead p q [] h = h
run_ahead p q (x ∷ xs) h = ahead_trans p x q h.0 (ahead_trans x (behind x) q (ahead_behind x) (run_ahead (behind x) q xs h.1))

none_before : (line : ℕ) (p q : Point) (ns : List Named) → Run p (name_points ns) q → line < p.0 → places_on line ns ≡ []
none_before line p q [] h less = refl
none_before line p q (n ∷ ns) h less =
    let later : p.0 ≤ n.place.line = ahead_line p (name_point n) h.0 in
    off line n ns (λ e. omega (arith, e, later, less)) ∙ none_before line (behind (name_point n)) q ns h.1 (omega (arith, later, less))

none_behind : (line end : ℕ) (p : Point) (ns : List Named) → Run p (name_points ns) (end, 0) → end ≤ line → places_on line ns ≡ []
none_behind line end p [] h le = refl
none_behind line end p (n ∷ ns) h le =
    let earlier : n.place.line < end = ahead_start (name_point n) end (run_ahead (behind (name_point n)) (end, 0) (name_points ns) h.1) in
    off line n ns (λ e. omega (arith, e, earlier, le)) ∙ none_behind line end (behind (name_point n)) ns h.1 le

module _ (ls : List Text) (line : ℕ) where
  places_of_block : (first end : ℕ) (items : List Item) → AreItems ls first end items → Run (first, 0) (name_points (places_in items)) (end, 0)
  places_of_block first end items are = places_run (first, 0) (end, 0) items (block_run ls first end items are)

  on_both : (xs ys : List Named) (here there : List Named) → places_on line xs ≡ here → places_on line ys ≡ there → places_on line (xs ++ ys) ≡ here ++ there
  on_both xs ys here there h k = filter-append (λ (n : Named). nat_eq n.place.line line) xs ys ∙ (λ i. h i ++ k i)

  -- blocks behind the line
  later : (from : ℕ) (blocks : List Block) → AreBlocksFrom ls from blocks → line < from → places_on line (places_of_all blocks) ≡ []
  later from [] h less = refl
  later from (b ∷ bs) h less =
      let here : line < b.first = omega (arith, less, h.all.0) in
      on_both (places_in b.items) (places_of_all bs) [] []
      (none_before line (b.first, 0) (b.end, 0) (places_in b.items) (places_of_block b.first b.end b.items (first_items ls from b bs h)) here)
      (later b.end bs (blocks_behind ls from b bs h) (omega (arith, here, h.all.2.some)))

  pub none_there : NoneBegins ls 0 (suc line) → (blocks : List Block) → AreBlocksFrom ls 0 blocks → places_on line (places_of_all blocks) ≡ []
  none_there none blocks h = later (suc line) blocks (from_later ls 0 (suc line) (omega arith) none blocks h) (omega arith)

  -- blocks behind one that ends behind the line, or at the end
  behind_it : (end : ℕ) → (end < length ls → line < end) → (blocks : List Block) → AreBlocksFrom ls end blocks → places_on line (places_of_all blocks) ≡ []
  behind_it end held [] h = refl
  behind_it end held (b ∷ bs) h = later end (b ∷ bs) h (held (omega (arith, h.all.0, h.all.2.some, h.all.2.within)))

  module _ (first end : ℕ) (block : IsBlock ls first end) (reached : first ≤ line) (held : end < length ls → line < end) (spots : List Named) (are : (items : List Item) → AreItems ls first end items → spots ≡ places_in items) where
    around : (from : ℕ) (blocks : List Block) → from ≤ first → AreBlocksFrom ls from blocks → places_on line (places_of_all blocks) ≡ places_on line spots
    around from [] le h = both ls first block.begins (h.all first le (omega (arith, block.some, block.within)))
    around from (b ∷ bs) le h = by (cases_lt b.first first) (λ ends. around b.end bs ends (blocks_behind ls from b bs h))
      where
        by : (b.first < first) ⊎ (first ≤ b.first) → (b.end ≤ first → places_on line (places_of_all bs) ≡ places_on line spots) → places_on line (places_of_all (b ∷ bs)) ≡ places_on line spots
        by (inl less) rest =
            let ends : b.end ≤ first = not_among ls (suc b.first) b.end first h.all.2.rest block.begins less in
            on_both (places_in b.items) (places_of_all bs) [] (places_on line spots)
            (none_behind line b.end (b.first, 0) (places_in b.items) (places_of_block b.first b.end b.items (first_items ls from b bs h)) (omega (arith, ends, reached)))
            (rest ends)
        by (inr more) rest =
            let begins : b.first ≡ first = omega (arith, more, not_among ls from b.first first h.all.1 block.begins le) in
            let own : IsBlock ls first b.end = subst (λ n. IsBlock ls n b.end) begins h.all.2 in
            let ends : b.end ≡ end = one_end ls first b.end end own block in
            let has : AreItems ls first end b.items = subst (λ n. AreItems ls first n b.items) ends (subst (λ n. AreItems ls n b.end b.items) begins (first_items ls from b bs h)) in
            on_both (places_in b.items) (places_of_all bs) (places_on line spots) []
            (ap (places_on line) (sym (are b.items has)))
            (behind_it end held bs (subst (λ n. AreBlocksFrom ls n bs) ends (blocks_behind ls from b bs h)))
            ∙ append-nil (places_on line spots)

  -- the places of the block that holds the line
  pub block_there : (first end : ℕ) → IsStartBefore ls line first → IsNextBlock ls (first + 1) (length ls) end → (spots : List Named) →
      ((items : List Item) → AreItems ls first end items → spots ≡ places_in items) → (blocks : List Block) → AreBlocksFrom ls 0 blocks → places_on line spots ≡ places_on line (places_of_all blocks)
  block_there first end start next spots are blocks h =
      let block = next_ends ls first end start.begins next in
      let held : end < length ls → line < end = λ less. not_among ls (suc first) (suc line) end start.rest (next.begins less) (omega (arith, next.reached)) in
      sym (around first end block start.reached held spots are 0 blocks (omega arith) h)

-- ---- what is found at a point stands on its line

find_on : (line : ℕ) (rest : Named → Bool) (ns : List Named) → find (λ n. nat_eq n.place.line line && rest n) ns ≡ find (λ n. nat_eq n.place.line line && rest n) (places_on line ns)
find_on line rest [] = refl
find_on line rest (n ∷ ns) = by (nat_eq n.place.line line) refl (find_on line rest ns)
  where
    by : (b : Bool) → nat_eq n.place.line line ≡ b → find (λ m. nat_eq m.place.line line && rest m) ns ≡ find (λ m. nat_eq m.place.line line && rest m) (places_on line ns) →
        find (λ m. nat_eq m.place.line line && rest m) (n ∷ ns) ≡ find (λ m. nat_eq m.place.line line && rest m) (if b then n ∷ places_on line ns else places_on line ns)
    by true e h = ap (λ (o : Option Named). if (nat_eq n.place.line line && rest n) then Some n else o) h
    by false e h = rw e h

found_on : (at : Place) (ns : List Named) → found_at at ns ≡ found_at at (places_on at.line ns)
found_on at ns = (λ i. option_or (find_on at.line (λ n. nat_le n.place.start at.start && nat_lt at.start n.place.end) ns i) (find_on at.line (λ n. nat_eq n.place.end at.start) ns i))

same_found : (at : Place) (ns ms : List Named) → places_on at.line ns ≡ places_on at.line ms → found_at at ns ≡ found_at at ms
same_found at ns ms e = found_on at ns ∙ (ap (found_at at) e ∙ sym (found_on at ms))

abbrev seen : Bor Spot → Spot
seen spot = spot.now

-- The spot that is found among those of the block is the name at the offset.
pub name_found : (text : List ℕ) (offset : ℕ) (ls : List Text) (spots given : List Spot) (at : Place) (o p : Option (Bor Spot)) → length text < 2 ^ 62 → ls ≡ line_texts text → at ≡ place_at text offset →
    ((blocks : List Block) → AreBlocksFrom ls 0 blocks → places_on at.line (map named_at spots) ≡ places_on at.line (places_of_all blocks)) → given ≡ spots → option_map seen o ≡ spot_at at given → o ≡ p →
    IsNameAt text offset (option_map place_and_text (option_map named_at (option_map seen p)))
name_found text offset ls spots given at o p small lines is_at there given_is found is =
    let blocks = some_blocks text small in
    let places : List Named = places_of_all blocks.0 in
    let from : AreBlocksFrom (line_texts text) 0 blocks.0 = record { all = blocks.1; items = λ k d lt. (blocks.2 k d lt).0 } in
    let same : places_on at.line (map named_at spots) ≡ places_on at.line places = there blocks.0 (subst (λ (l : List Text). AreBlocksFrom l 0 blocks.0) (sym lines) from) in
    record {
      places = places;
      of_text = has_places text blocks.0 places blocks.1 blocks.2 refl;
      is =
          told text (map named_at spots) text spots given at offset o p refl refl given_is is_at found is
          ∙ ap (option_map place_and_text) (ap (λ (x : Place). found_at x (map named_at spots)) (sym is_at) ∙ (same_found at (map named_at spots) places same ∙ ap (λ (x : Place). found_at x places) is_at));
    }
