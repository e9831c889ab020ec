-- Lines that are read from the front on.
use Rattle.std.proofs.Common.{◌≡◌, ◌∙◌, ℕ, suc, ◌+◌, ◌-◌, ◌<◌, false, ◌∷◌, length, drop, drop-cons, get_or, take, sym, ap, arith, length-drop}
use Rattle.std.specs.Prelude.{◌||◌}
use Rattle.std.proofs.lemmas.List.{take_all}
use Rattle.abnf_token.specs.Classes.{Text}
use Rattle.published_blocks.specs.Lines.{is_footer, is_page_mark}

-- what stands from a place on
pub at_place : (t : Text) (n : ℕ) → n < length t → drop n t ≡ get_or t n 0 ∷ drop (n + 1) t
at_place t n less = drop-cons t n 0 less ∙ ap (λ k. get_or t n 0 ∷ drop k t) (let e : suc n ≡ n + 1 = omega arith in e)

-- all that is left
pub rest_all : (t : Text) (n : ℕ) → take (length t - n) (drop n t) ≡ drop n t
rest_all t n = take_all (length t - n) (drop n t) (omega (arith, length-drop n t))

-- no footer begins at a place
pub footer_on : (t : Text) (n : ℕ) → n < length t → is_page_mark (take (length t - n) (drop n t)) ≡ false → is_footer (drop n t) ≡ is_footer (drop (n + 1) t)
footer_on t n less none =
    let split = at_place t n less in
    ap is_footer split ∙ ap (λ b. b || is_footer (drop (n + 1) t)) (ap is_page_mark (sym split ∙ sym (rest_all t n)) ∙ none)
