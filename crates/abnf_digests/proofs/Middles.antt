-- Where lines have the same bare items, and their blocks say rules in the one text, the blocks of the other text have the same digests.
use Rattle.std.proofs.Common.{◌≡◌, ℕ, List, [], ◌∷◌, map, None, refl, sym, ap, ◌∙◌}
use Rattle.std.specs.List.{AllByRecursion}
use Rattle.abnf_token.specs.Classes.{Text}
use Rattle.abnf_syntax.specs.declared.item.Item.{Item}
use Rattle.abnf_syntax.specs.Items.{view}
use Rattle.abnf_syntax.proofs.Cons.{cons_same}
use Rattle.abnf_names.specs.Said.{Block, BlockSays, AreWithin}
use Rattle.abnf_names.specs.Shown.{fault_shown}
use Rattle.abnf_rename.proofs.ItemShapes.{Shape}
use Rattle.abnf_digests.specs.Digests.{digest_of}
use Rattle.abnf_digests.specs.BareItems.{BareItem, AreBareItems}
use Rattle.abnf_digests.specs.Quiet.{has_own_findings}
use Rattle.abnf_digests.specs.Replaced.{AreBetween}
use Rattle.abnf_digests.proofs.AlikeTrees.{told_shape, blocks_alike}
use Rattle.abnf_digests.proofs.Groups.{more_bare_items, seen_bare_items, block_bare_items, groups_are}

abbrev bare_item_shape : BareItem → Shape
bare_item_shape x = (x.kind, x.text, x.apart)

shapes_behind : (xs : List Item) → map bare_item_shape (more_bare_items (map view xs)) ≡ map told_shape xs
shapes_behind [] = refl
shapes_behind (x ∷ xs) = ap (λ l. told_shape x ∷ l) (shapes_behind xs)

shapes_of : (xs : List Item) → map bare_item_shape (seen_bare_items (map view xs)) ≡ map told_shape xs
shapes_of [] = refl
shapes_of (x ∷ xs) = ap (λ l. told_shape x ∷ l) (shapes_behind xs)

shapes_alike : (block other : Block) → block_bare_items block ≡ block_bare_items other → map told_shape block.items ≡ map told_shape other.items
shapes_alike block other e = sym (shapes_of block.items) ∙ (ap (map bare_item_shape) e ∙ shapes_of other.items)

abbrev SaysRule : Block → Type 0
SaysRule block = fault_shown block.said ≡ None

abbrev Says : Block → Type 0
Says block = BlockSays block.items block.said

each_says : (ls : List Text) (bs : List (ℕ × ℕ)) (blocks : List Block) → AreWithin ls bs blocks → AllByRecursion Says blocks
each_says ls [] [] w = tt
each_says ls [] (block ∷ blocks) w = absurd w
each_says ls (b ∷ bs) [] w = tt
each_says ls (b ∷ bs) (block ∷ blocks) w = (w.0.says, each_says ls bs blocks w.1)

abbrev ListsAlike : List Block → List Block → Type 0
ListsAlike gone come = (map digest_of gone ≡ map digest_of come) × AllByRecursion SaysRule come × (map has_own_findings gone ≡ map has_own_findings come)

lists_alike : (gone come : List Block)
    → map block_bare_items gone ≡ map block_bare_items come → AllByRecursion Says gone → AllByRecursion Says come → AllByRecursion SaysRule gone
    → ListsAlike gone come
lists_alike [] [] e p q n = (refl, tt, refl)
lists_alike [] (c ∷ come) e p q n = absurd (cc (e))
lists_alike (g ∷ gone) [] e p q n = absurd (cc (e))
lists_alike (g ∷ gone) (c ∷ come) e p q n =
    let h = cons_same e in
    let one = blocks_alike g c p.0 q.0 (shapes_alike g c h.0) n.0 in
    let rest = lists_alike gone come h.1 p.1 q.1 n.1 in
    ((λ i. one.0 i ∷ rest.0 i), (one.1, rest.1), (λ i. one.2 i ∷ rest.2 i))

pub middles_alike : (ls others : List Text) (from to there end : ℕ) (gone come : List Block) (bare_items : List BareItem)
    → AreBetween ls from to gone → AreBetween others there end come → AreBareItems ls from to bare_items → AreBareItems others there end bare_items
    → AllByRecursion (λ (b : Block). fault_shown b.said ≡ None) gone
    → (map digest_of gone ≡ map digest_of come) × AllByRecursion (λ (b : Block). fault_shown b.said ≡ None) come
    × (map has_own_findings gone ≡ map has_own_findings come)
middles_alike ls others from to there end gone come bare_items p q a b n =
    lists_alike gone come (sym (groups_are ls from to gone bare_items p a) ∙ groups_are others there end come bare_items q b)
    (each_says ls p.bounds gone p.each) (each_says others q.bounds come q.each) n
