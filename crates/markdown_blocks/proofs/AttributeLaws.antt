-- Texts that are read from the front on.
use Rattle.std.proofs.Common.{◌≡◌, ◌∙◌, ℕ, suc, ◌+◌, ◌-◌, ◌<◌, false, List, [], ◌∷◌, length, drop, drop-cons, get_or, take, refl, sym, ap, arith}
use Rattle.std.specs.Prelude.{◌||◌, ◌==◌}
use Rattle.std.specs.Char.{to_ascii_lowercase}
use Rattle.std.proofs.lemmas.Bool.{and_right}
use Rattle.markdown_blocks.specs.Fences.{begins, has_end}
use Rattle.markdown_blocks.proofs.FenceLaws.{rest_all}

-- a text that is shorter than a word doesn't begin with it
pub short : (word text : List ℕ) → length text < length word → begins word text ≡ false
short [] text less = absurd (omega (arith, less))
short (w ∷ ws) [] less = refl
short (w ∷ ws) (c ∷ t) less = and_right (to_ascii_lowercase c == w) (begins ws t) (short ws t (omega (arith, less)))

-- the end of a comment doesn't begin at a place
pub end_on : (t : List ℕ) (n : ℕ) → n < length t → begins (45 ∷ 45 ∷ 62 ∷ []) (take (length t - n) (drop n t)) ≡ false → has_end (drop n t) ≡ has_end (drop (n + 1) t)
end_on t n less none =
    let split : drop n t ≡ get_or t n 0 ∷ drop (n + 1) t = drop-cons t n 0 less ∙ ap (λ k. get_or t n 0 ∷ drop k t) (let e : suc n ≡ n + 1 = omega arith in e) in
    ap has_end split ∙ ap (λ b. b || has_end (drop (n + 1) t)) (ap (begins (45 ∷ 45 ∷ 62 ∷ [])) (sym split ∙ sym (rest_all t n)) ∙ none)
