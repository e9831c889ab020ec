-- Items of the same lines are the same but for their places.
use Rattle.std.proofs.Common.{◌≡◌, ℕ, List, [], ◌∷◌, map, refl, sym, ap, ◌∙◌}
use Rattle.abnf_token.specs.Classes.{Text}
use Rattle.abnf_syntax.specs.declared.item.Item.{Item}
use Rattle.abnf_syntax.specs.Items.{AreItems}
use Rattle.abnf_rename.proofs.ItemShapes.{Shape, shape}
use Rattle.abnf_digests.specs.SameLines.{AreSameLines}
use Rattle.abnf_digests.proofs.MovedItems.{same_placed}
use Rattle.abnf_digests.proofs.Placed.{Placed, same, placed}

-- each line has the same number
abbrev all_first : ℕ → ℕ
all_first n = 0

abbrev shape_of : Placed → Shape
shape_of p = (p.0, p.1, p.2)

shapes_are : (xs : List Item) → map shape xs ≡ map shape_of (map (placed all_first same) xs)
shapes_are [] = refl
shapes_are (x ∷ xs) = ap (λ l. shape x ∷ l) (shapes_are xs)

pub same_shapes : (ls others : List Text) (bounds there : ℕ × ℕ) (xs ys : List Item) → AreSameLines ls others bounds there
    → AreItems ls bounds.0 bounds.1 xs → AreItems others there.0 there.1 ys → map shape xs ≡ map shape ys
same_shapes ls others bounds there xs ys s p q =
    shapes_are xs ∙ (ap (map shape_of) (same_placed all_first all_first ls others bounds there xs ys s (λ n less. refl) p q) ∙ sym (shapes_are ys))
