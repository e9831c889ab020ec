-- Items that are compared one by one.
use Rattle.std.proofs.Common.{◌≡◌, false, List, [], ◌∷◌, length, map, arith, refl}
use Rattle.std.proofs.lemmas.Bool.{and_right}
use Rattle.abnf_syntax.specs.declared.item.Item.{Item}
use Rattle.joined_grammars.specs.Repeats.{is_same_word, same_words, word_of}

-- more of the one than of the other
pub other_lengths : (xs ys : List Item) → (length xs ≡ length ys → ⊥) → same_words (map word_of xs) (map word_of ys) ≡ false
other_lengths [] [] ne = absurd (ne refl)
other_lengths [] (y ∷ ys) ne = refl
other_lengths (x ∷ xs) [] ne = refl
other_lengths (x ∷ xs) (y ∷ ys) ne =
    and_right (is_same_word (word_of x) (word_of y)) (same_words (map word_of xs) (map word_of ys)) (other_lengths xs ys (λ e. ne (omega (arith, e))))
