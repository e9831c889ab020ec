-- Each text is cut into lines.
use Rattle.std.proofs.Common.{◌≡◌, ◌==◌, ℕ, Bool, true, false, not, ◌&&◌, ◌||◌, List, [], ◌∷◌, ◌++◌, refl, sym, ap, subst, ◌∙◌}
use Rattle.std.specs.List.{list_any}
use Rattle.std.proofs.lemmas.Bool.{eqb-true}
use Rattle.abnf_token.proofs.Language.{and_false}
use Rattle.ls_text.specs.Lines.{starts_with_lf, is_break}
use Rattle.ls_text.specs.Cut.{Row, row, end_text, is_end_before, IsCut}
use Rattle.ls_text.specs.declared.line_end.LineEnd.{LineEnd}
use Rattle.ls_text.specs.declared.line_end.LineEnd.TheVariants.{Eof, Lf, Cr, CrLf}

abbrev pub Rows : List ℕ → Type 0
Rows t = (rows : List Row) × IsCut t rows

more_plain : (c : ℕ) (t : List ℕ) → is_break c ≡ false → list_any is_break t ≡ false → list_any is_break (c ∷ t) ≡ false
more_plain c t e p = ap (λ b. b || list_any is_break t) e ∙ p

with_plain : (c : ℕ) (t : List ℕ) → is_break c ≡ false → Rows t → Rows (c ∷ t)
with_plain c t e ([], h) = absurd h.0
with_plain c t e (r ∷ [], h) = (row (c ∷ r.text) r.end ∷ [], ((more_plain c r.text e h.0.0, h.0.1), ap (λ l. c ∷ l) h.1))
with_plain c t e (r ∷ m ∷ rows, h) = (row (c ∷ r.text) r.end ∷ m ∷ rows, ((more_plain c r.text e h.0.0, h.0.1, h.0.2), ap (λ l. c ∷ l) h.1))

with_end : (e : LineEnd) (t : List ℕ) → is_end_before e t ≡ true → Rows t → Rows (end_text e ++ t)
with_end e t ends ([], h) = absurd h.0
with_end e t ends (m ∷ rows, h) = (row [] e ∷ m ∷ rows, ((refl, ap (is_end_before e) h.1 ∙ ends, h.0), ap (λ l. end_text e ++ l) h.1))

-- one character more, unless it is the CR of a CRLF
one_more : (c : ℕ) (t : List ℕ) → (c == 13) && starts_with_lf t ≡ false → Rows t → Rows (c ∷ t)
one_more c t apart rows = by (c == 10) (c == 13) refl refl
  where
    by : (x y : Bool) → (c == 10) ≡ x → (c == 13) ≡ y → Rows (c ∷ t)
    by true y e f = subst (λ n. Rows (n ∷ t)) (sym (eqb-true c 10 e)) (with_end Lf t refl rows)
    by false true e f = subst (λ n. Rows (n ∷ t)) (sym (eqb-true c 13 f)) (with_end Cr t (ap not (ap (λ b. b && starts_with_lf t) (sym f) ∙ apart)) rows)
    by false false e f = with_plain c t (λ i. e i || f i) rows

pub each_text : (t : List ℕ) → Rows t
each_text [] = (row [] Eof ∷ [], ((refl, refl), refl))
each_text (c ∷ []) = one_more c [] (and_false (c == 13)) (row [] Eof ∷ [], ((refl, refl), refl))
each_text (c ∷ d ∷ t) = by (c == 13) (d == 10) refl refl (each_text (d ∷ t)) (each_text t)
  where
    by : (x y : Bool) → (c == 13) ≡ x → (d == 10) ≡ y → Rows (d ∷ t) → Rows t → Rows (c ∷ d ∷ t)
    by true true e f after rest = subst (λ n. Rows (n ∷ d ∷ t)) (sym (eqb-true c 13 e)) (subst (λ n. Rows (13 ∷ n ∷ t)) (sym (eqb-true d 10 f)) (with_end CrLf t refl rest))
    by true false e f after rest = one_more c (d ∷ t) (λ i. e i && f i) after
    by false y e f after rest = one_more c (d ∷ t) (ap (λ b. b && (d == 10)) e) after
