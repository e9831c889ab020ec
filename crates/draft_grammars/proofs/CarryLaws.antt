-- Laws of lists that are written anew, item by item.
use Rattle.std.proofs.Common.{◌≡◌, ℕ, zero, suc, ◌+◌, ◌<◌, List, [], ◌∷◌, ◌++◌, length, map, take, drop, set, refl, sym, ap, ◌∙◌, get_or, append_assoc, encode_utf8_all}
use Rattle.std.specs.Prelude.{encode_utf8}
use Rattle.std.proofs.lemmas.List.{append-nil}
use Rattle.std.proofs.lemmas.List.Edits.{map_over_more}
use Rattle.std.proofs.lemmas.Str.{encodes-append}

-- an item for its own default
pub get_or_self : {X : Type 0} (xs : List X) (i : ℕ) (d : X) → get_or xs i d ≡ get_or xs i (get_or xs i d)
get_or_self [] i d = refl
get_or_self (x ∷ xs) zero d = refl
get_or_self (x ∷ xs) (suc i) d = get_or_self xs i d

-- one item of a list has been changed, and those before it
pub written_over : {X : Type 0} (f : X → X) (xs ys : List X) (i : ℕ) (d new : X) → i < length xs → ys ≡ map f (take i xs) ++ drop i xs → new ≡ f (get_or ys i d)
    → set ys i new ≡ map f (take (i + 1) xs) ++ drop (i + 1) xs
written_over f xs ys i d new lt h e = ap (set ys i) e ∙ map_over_more f xs ys i (get_or ys i d) lt h (get_or_self ys i d)

-- one character more has been written
pub pushed : (base old new front : List ℕ) (c : ℕ) → new ≡ old ++ encode_utf8 c → old ≡ base ++ encode_utf8_all front → new ≡ base ++ encode_utf8_all (front ++ c ∷ [])
pushed base old new front c e h =
    e ∙ ap (λ b. b ++ encode_utf8 c) h ∙ append_assoc base (encode_utf8_all front) (encode_utf8 c)
    ∙ ap (λ x. base ++ x) (sym (encodes-append front (c ∷ []) ∙ ap (λ x. encode_utf8_all front ++ x) (append-nil (encode_utf8 c))))
