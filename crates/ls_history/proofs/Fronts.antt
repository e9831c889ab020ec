-- Beginnings of one list.
use Rattle.std.proofs.Common.{◌≡◌, ◌≤◌, List, [], ◌∷◌, ◌⊎◌, inl, inr, length, refl, sym, ◌∙◌, append-nil, arith}
use mathlib.Core.List.{IsPrefix}

-- a beginning as long as the whole is the whole
pub prefix_whole : {A : Type 0} (xs ys : List A) → IsPrefix xs ys → length ys ≤ length xs → xs ≡ ys
prefix_whole [] [] p le = refl
prefix_whole [] (y ∷ ys) p le = absurd (omega arith)
prefix_whole (x ∷ xs) [] p le = absurd (cc (p.1))
prefix_whole (x ∷ xs) (y ∷ ys) p le =
    let rest = prefix_whole xs ys (p.0, cc (p.1)) (omega arith) in cc (p.1, rest)

-- of two lists one of which begins the other the shorter one does
pub shorter_begins : {A : Type 0} (xs ys : List A) → IsPrefix xs ys ⊎ IsPrefix ys xs → length xs ≤ length ys → IsPrefix xs ys
shorter_begins xs ys beside le = elim beside [ inl p ↦ p | inr q ↦ ([], append-nil xs ∙ sym (prefix_whole ys xs q le)) ]

-- of two beginnings of one list one begins the other
pub prefix_either : {A : Type 0} (xs ys zs : List A) → IsPrefix xs zs → IsPrefix ys zs → IsPrefix ys xs ⊎ IsPrefix xs ys
prefix_either [] ys zs p q = inr (ys, refl)
prefix_either (x ∷ xs) [] zs p q = inl (x ∷ xs, refl)
prefix_either (x ∷ xs) (y ∷ ys) [] p q = absurd (cc (p.1))
prefix_either (x ∷ xs) (y ∷ ys) (z ∷ zs) p q =
    let heads : x ≡ y = cc (p.1, q.1) in
    elim (prefix_either xs ys zs (p.0, cc (p.1)) (q.0, cc (q.1))) [ inl rest ↦ inl (rest.0, cc (heads, rest.1)) | inr rest ↦ inr (rest.0, cc (heads, rest.1)) ]
