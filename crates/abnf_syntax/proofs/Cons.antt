-- Lists that are the same have the same first item and the same rest.
use Rattle.std.proofs.Common.{◌≡◌, List, ◌∷◌}

pub cons_same : {A : Type 0} {x y : A} {xs ys : List A} → x ∷ xs ≡ y ∷ ys → (x ≡ y) × (xs ≡ ys)
cons_same h = (cc, cc)
