-- Laws of lines and line ends.
use Rattle.std.proofs.Common.{◌≡◌, ℕ, ◌+◌, ◌<◌, Bool, true, false, not, cond, ◌&&◌, ◌||◌, eqb, List, [], ◌∷◌, ◌++◌, length, refl, arith}
use Rattle.std.specs.List.{list_any}
use Rattle.ls_text.specs.Lines.{is_break, starts_with_lf, ends_line, line_ends, put_first, lines}

-- of the tests that a plain character and what follows it fail
pub or_false : (a b s r : Bool) → ((a || b) || r) ≡ false → ((a || (b && s)) ≡ false) × (b ≡ false) × (r ≡ false)
or_false false false s false e = (refl, refl, refl)
or_false false false s true e = cc
or_false false true s r e = cc
or_false true b s r e = cc

pub plain_parts : (c : ℕ) (t s : List ℕ) → list_any is_break (c ∷ t) ≡ false → (ends_line c s ≡ false) × (eqb c 13 ≡ false) × (list_any is_break t ≡ false)
plain_parts c t s e = or_false (eqb c 10) (eqb c 13) (not (starts_with_lf s)) (list_any is_break t) e

-- a plain text has no line end
pub line_ends_plain : (t : List ℕ) → list_any is_break t ≡ false → line_ends t ≡ 0
unfolding line_ends
line_ends_plain [] e = refl
line_ends_plain (c ∷ t) e =
    let h = plain_parts c t t e in
    rw (h.0) (omega (arith, line_ends_plain t h.2))

-- a plain text is one line
pub lines_plain : (t : List ℕ) → list_any is_break t ≡ false → lines t ≡ t ∷ []
unfolding lines
lines_plain [] e = refl
lines_plain (c ∷ t) e =
    let h = plain_parts c t t e in
    rw (h.0, h.1, lines_plain t h.2) refl

-- the lines of a plain text before another text
pub lines_plain_append : (p t l : List ℕ) (ls : List (List ℕ)) → list_any is_break p ≡ false → lines t ≡ l ∷ ls → lines (p ++ t) ≡ (p ++ l) ∷ ls
unfolding lines
lines_plain_append [] t l ls e h = h
lines_plain_append (c ∷ p) t l ls e h =
    let k = plain_parts c p (p ++ t) e in
    rw (k.0, k.1, lines_plain_append p t l ls k.2 h) refl

-- a text has one line more than it has line ends
pub length_put_first : (c : ℕ) (ls : List (List ℕ)) → 0 < length ls → length (put_first c ls) ≡ length ls
length_put_first c [] h = absurd (omega (arith, h))
length_put_first c (l ∷ ls) h = refl

length_lines_by : (n : ℕ) (c : ℕ) (ls : List (List ℕ)) (a b : Bool) → length ls ≡ n + 1 → length (cond a ([] ∷ ls) (cond b ls (put_first c ls))) ≡ (cond a 1 0 + n) + 1
length_lines_by n c ls true b h = omega arith
length_lines_by n c ls false true h = omega arith
length_lines_by n c ls false false h = omega (arith, length_put_first c ls (omega arith))

pub length_lines : (t : List ℕ) → length (lines t) ≡ line_ends t + 1
unfolding lines line_ends
length_lines [] = refl
length_lines (c ∷ t) = length_lines_by (line_ends t) c (lines t) (ends_line c t) (eqb c 13) (length_lines t)
