-- Laws of offsets and positions, over the lines that a snapshot holds.
use Rattle.std.proofs.Common.{◌≡◌, ℕ, zero, suc, ◌+◌, ◌-◌, ◌<◌, ◌≤◌, Bool, true, false, not, cond, ◌&&◌, eqb, leb, List, [], ◌∷◌, ◌++◌, length, take, drop, get_or, refl, sym, ap, subst, ◌∙◌, ◌⊎◌, inl, inr, ⊎_elim, arith, length-append, zero-add}
use Rattle.std.specs.Prelude.{Option, Some, None, sum_by, unwrap_or}
use Rattle.std.specs.List.{list_any}
use Rattle.std.proofs.lemmas.List.Sums.{sum_by-cons}
use Rattle.std.proofs.Math.Seq.{take-append-add, drop-append-add}
use Rattle.std.proofs.lemmas.List.{append-nil, take-append-le, get_or_append_left, get_or_push}
use Rattle.std.proofs.lemmas.Bool.{cases_lt, and_parts, not-true, and_from, false_from_ne_true, or_parts, or_from}
use Rattle.std.proofs.lemmas.Bool.Decides.{nat_tests}
use Rattle.ls_text.specs.Lines.{is_break, starts_with_lf, ends_with_cr, line_ends, last_line, splits_crlf, is_offset, line_at, units_at, greatest, is_within, offset_of, fitting}
use Rattle.ls_text.specs.Cut.{end_text, line_text, text_of, IsPlain, is_end_before, AreLines, start_of, text_at, IsIndex}
use Rattle.ls_text.specs.declared.line_end.LineEnd.{LineEnd}
use Rattle.ls_text.specs.declared.line_end.LineEnd.TheVariants.{Eof, Lf, Cr, CrLf}
use Rattle.ls_text.specs.own.Chunks.{IsLineAt}
use Rattle.ls_text.specs.Cut.{Row}
use Rattle.ls_text.proofs.LineLaws.{plain_parts, line_ends_plain}

-- ---- the greatest number that passes
eq_or_below : (j n : ℕ) → j ≤ suc n → (j ≡ suc n) ⊎ (j ≤ n)
eq_or_below j n h = ⊎_elim (λ lt. inr (omega arith)) (λ ge. inl (omega arith)) (cases_lt j (suc n))

cond_some : (b : Bool) (n : ℕ) (o : Option ℕ) → b ≡ true → cond b (Some n) o ≡ Some n
cond_some true n o e = refl
cond_some false n o e = cc

cond_none : (b : Bool) (n : ℕ) (o : Option ℕ) → b ≡ false → cond b (Some n) o ≡ o
cond_none false n o e = refl
cond_none true n o e = cc

pub greatest_is : (p : ℕ → Bool) (n o : ℕ) → o ≤ n → p o ≡ true → ((j : ℕ) → o < j → j ≤ n → p j ≡ false) → greatest p n ≡ Some o
unfolding greatest
greatest_is p zero o le passes above = let e : o ≡ 0 = omega (arith, le) in subst (λ x. cond (p 0) (Some 0) None ≡ Some x) (sym e) (cond_some (p 0) 0 None (ap p (sym e) ∙ passes))
greatest_is p (suc n) o le passes above =
    ⊎_elim (λ e. subst (λ x. cond (p (suc n)) (Some (suc n)) (greatest p n) ≡ Some x) (sym e) (cond_some (p (suc n)) (suc n) (greatest p n) (ap p (sym e) ∙ passes)))
    (λ lower. cond_none (p (suc n)) (suc n) (greatest p n) (above (suc n) (omega (arith, lower)) (omega arith)) ∙ greatest_is p n o lower passes (λ j gt lj. above j gt (omega (arith, lj))))
    (eq_or_below o n le)

pub greatest_none : (p : ℕ → Bool) (n : ℕ) → ((j : ℕ) → j ≤ n → p j ≡ false) → greatest p n ≡ None
unfolding greatest
greatest_none p zero fails = cond_none (p 0) 0 None (fails 0 (omega arith))
greatest_none p (suc n) fails = cond_none (p (suc n)) (suc n) (greatest p n) (fails (suc n) (omega arith)) ∙ greatest_none p n (λ j le. fails j (omega (arith, le)))

-- ---- a text after a whole line

pub line_ends_end : (e : LineEnd) (t : List ℕ) → is_end_before e t ≡ true → line_ends (end_text e ++ t) ≡ 1 + line_ends t
unfolding line_ends
line_ends_end Eof t h = cc
line_ends_end Lf t h = refl
line_ends_end Cr t h = rw h refl
line_ends_end CrLf t h = omega arith

pub line_ends_plain_append : (p t : List ℕ) → IsPlain p → line_ends (p ++ t) ≡ line_ends t
unfolding line_ends
line_ends_plain_append [] t h = refl
line_ends_plain_append (c ∷ p) t h =
    let k = plain_parts c p (p ++ t) h in
    rw (k.0) (omega (arith, line_ends_plain_append p t k.2))

pub line_ends_cut : (p : List ℕ) (e : LineEnd) (t : List ℕ) → IsPlain p → is_end_before e t ≡ true → line_ends (p ++ (end_text e ++ t)) ≡ 1 + line_ends t
line_ends_cut p e t h k = line_ends_plain_append p (end_text e ++ t) h ∙ line_ends_end e t k

-- the last line of a plain text is the text
last_line_none : (t : List ℕ) → line_ends t ≡ 0 → last_line t ≡ t
unfolding last_line
last_line_none [] e = refl
last_line_none (c ∷ t) e = rw e refl

pub last_line_plain : (t : List ℕ) → IsPlain t → last_line t ≡ t
last_line_plain t h = last_line_none t (line_ends_plain t h)

-- what comes before a line end does not matter
last_line_more : (c : ℕ) (t : List ℕ) (n : ℕ) → line_ends (c ∷ t) ≡ 1 + n → last_line (c ∷ t) ≡ last_line t
unfolding last_line
last_line_more c t n e = rw (e, one_add_not n) refl
  where
    one_add_not : (n : ℕ) → eqb (1 + n) 0 ≡ false
    one_add_not n = grind (arith, nat_tests)

pub last_line_end : (e : LineEnd) (t : List ℕ) → is_end_before e t ≡ true → last_line (end_text e ++ t) ≡ last_line t
last_line_end Eof t h = cc
last_line_end Lf t h = last_line_more 10 t (line_ends t) (line_ends_end Lf t h)
last_line_end Cr t h = last_line_more 13 t (line_ends t) (line_ends_end Cr t h)
last_line_end CrLf t h = last_line_more 13 (10 ∷ t) (line_ends t) (line_ends_end CrLf t h) ∙ last_line_more 10 t (line_ends t) (line_ends_end Lf t refl)

pub last_line_cut : (p : List ℕ) (e : LineEnd) (t : List ℕ) → IsPlain p → is_end_before e t ≡ true → last_line (p ++ (end_text e ++ t)) ≡ last_line t
last_line_cut [] e t h k = last_line_end e t k
last_line_cut (c ∷ p) e t h k =
    last_line_more c (p ++ (end_text e ++ t)) (line_ends t) (line_ends_cut (c ∷ p) e t h k) ∙ last_line_cut p e t (plain_parts c p p h).2 k

-- a line end before a text is one before each front of it
pub is_end_before_take : (e : LineEnd) (t : List ℕ) (n : ℕ) → is_end_before e t ≡ true → is_end_before e (take n t) ≡ true
is_end_before_take Eof t n h = h
is_end_before_take Lf t n h = refl
is_end_before_take CrLf t n h = refl
is_end_before_take Cr [] zero h = refl
is_end_before_take Cr [] (suc n) h = refl
is_end_before_take Cr (c ∷ t) zero h = refl
is_end_before_take Cr (c ∷ t) (suc n) h = h

-- ---- the offset at which a line starts
pub take_past : (p e t : List ℕ) (x : ℕ) → take (length p + (length e + x)) (p ++ (e ++ t)) ≡ p ++ (e ++ take x t)
take_past p e t x = take-append-add p (e ++ t) (length e + x) ∙ ap (λ y. p ++ y) (take-append-add e t x)

pub drop_past : (p e t : List ℕ) (x : ℕ) → drop (length p + (length e + x)) (p ++ (e ++ t)) ≡ drop x t
drop_past p e t x = drop-append-add p (e ++ t) (length e + x) ∙ drop-append-add e t x

plain_take : (t : List ℕ) (k : ℕ) → IsPlain t → IsPlain (take k t)
plain_take [] zero h = refl
plain_take [] (suc k) h = refl
plain_take (c ∷ t) zero h = refl
plain_take (c ∷ t) (suc k) h = let p = or_parts (is_break c) (list_any is_break t) h in or_from (is_break c) (list_any is_break (take k t)) p.0 (plain_take t k p.1)

-- line m at k characters, as the text has it
pub record IsAt (t : List ℕ) (o m : ℕ) (before : List ℕ) : Type 0 where
  pub line_is : line_at t o ≡ m
  pub before_is : last_line (take o t) ≡ before

at_front : (l : Row) (r : List ℕ) (k : ℕ) → IsPlain (line_text l) → k ≤ length (line_text l) → IsAt (line_text l ++ (end_text l.end ++ r)) (0 + k) 0 (take k (line_text l))
at_front l r k p le =
    let front : take (0 + k) (line_text l ++ (end_text l.end ++ r)) ≡ take k (line_text l) = ap (λ x. take x (line_text l ++ (end_text l.end ++ r))) (zero-add k) ∙ take-append-le k (line_text l) (end_text l.end ++ r) le in
    record {
      line_is = ap line_ends front ∙ line_ends_plain (take k (line_text l)) (plain_take (line_text l) k p);
      before_is = ap last_line front ∙ last_line_plain (take k (line_text l)) (plain_take (line_text l) k p);
    }

pub at_line : (ls : List Row) → AreLines ls → (m k : ℕ) → m < length ls → k ≤ length (text_at ls m) → IsAt (text_of ls) (start_of ls m + k) m (take k (text_at ls m))
at_line [] h m k lt le = absurd h
at_line (l ∷ []) h zero k lt le = at_front l [] k h.0 le
at_line (l ∷ []) h (suc m) k lt le = absurd (omega (arith, lt))
at_line (l ∷ n ∷ ls) h zero k lt le = at_front l (text_of (n ∷ ls)) k h.0 le
at_line (l ∷ n ∷ ls) h (suc m) k lt le =
    let rest = at_line (n ∷ ls) h.2 m k (omega (arith, lt)) le in
    let o = start_of (n ∷ ls) m + k in
    let sum : start_of (l ∷ n ∷ ls) (suc m) + k ≡ length (line_text l) + (length (end_text l.end) + (start_of (n ∷ ls) m + k)) = omega arith in
    let front : take (start_of (l ∷ n ∷ ls) (suc m) + k) (text_of (l ∷ n ∷ ls)) ≡ line_text l ++ (end_text l.end ++ take (start_of (n ∷ ls) m + k) (text_of (n ∷ ls))) = ap (λ x. take x (text_of (l ∷ n ∷ ls))) sum ∙ take_past (line_text l) (end_text l.end) (text_of (n ∷ ls)) (start_of (n ∷ ls) m + k) in
    let seam = is_end_before_take l.end (text_of (n ∷ ls)) (start_of (n ∷ ls) m + k) h.1 in
    record {
      line_is = ap line_ends front ∙ line_ends_cut (line_text l) l.end _ h.0 seam ∙ ap (λ x. 1 + x) rest.line_is ∙ omega arith;
      before_is = ap last_line front ∙ last_line_cut (line_text l) l.end _ h.0 seam ∙ rest.before_is;
    }

-- ---- each offset stands in a line, before its line end
pub record IsLocated (ls : List Row) (o : ℕ) : Type 0 where
  pub line : ℕ
  pub at : ℕ
  pub line_in_range : line < length ls
  pub at_in_range : at ≤ length (text_at ls line)
  pub sum : o ≡ start_of ls line + at

and_not : (a b : Bool) → (a && not b) ≡ true → (a ≡ true) × (b ≡ false)
and_not true false e = (refl, refl)
and_not true true e = cc
and_not false b e = cc

pub ends_with_cr_append : (x y : List ℕ) → 0 < length y → ends_with_cr (x ++ y) ≡ ends_with_cr y
ends_with_cr_append [] y h = refl
ends_with_cr_append (c ∷ []) [] h = absurd (omega (arith, h))
ends_with_cr_append (c ∷ []) (d ∷ y) h = refl
ends_with_cr_append (c ∷ d ∷ x) y h = ends_with_cr_append (d ∷ x) y h

-- an offset after a whole line is one in the text after it
offset_after : (p e t : List ℕ) (x : ℕ) → x ≤ length t → splits_crlf (p ++ (e ++ t)) (length p + (length e + x)) ≡ false → splits_crlf t x ≡ false
offset_after p e t zero le h = refl
offset_after p e [] (suc x) le h = absurd (omega (arith, le))
offset_after p e (c ∷ t) (suc x) le h =
    let front : ends_with_cr (take (length p + (length e + suc x)) (p ++ (e ++ (c ∷ t)))) ≡ ends_with_cr (take (suc x) (c ∷ t)) = ap ends_with_cr (take_past p e (c ∷ t) (suc x)) ∙ ends_with_cr_append p (e ++ take (suc x) (c ∷ t)) (omega (arith, length-append e (take (suc x) (c ∷ t)))) ∙ ends_with_cr_append e (take (suc x) (c ∷ t)) (omega arith) in
    let back : starts_with_lf (drop (length p + (length e + suc x)) (p ++ (e ++ (c ∷ t)))) ≡ starts_with_lf (drop (suc x) (c ∷ t)) = ap starts_with_lf (drop_past p e (c ∷ t) (suc x)) in
    (λ i. sym front i && sym back i) ∙ h

-- no offset stands in a line end
inside_end : (p : List ℕ) (e : LineEnd) (t : List ℕ) (o : ℕ) → length p < o → o < length p + length (end_text e) → splits_crlf (p ++ (end_text e ++ t)) o ≡ false → ⊥
inside_end p Eof t o gt lt h = omega (arith, gt, lt)
inside_end p Lf t o gt lt h = omega (arith, gt, lt)
inside_end p Cr t o gt lt h = omega (arith, gt, lt)
inside_end p CrLf t o gt lt h =
    let at : o ≡ length p + 1 = omega (arith, gt, lt) in
    let front : ends_with_cr (take (length p + 1) (p ++ (13 ∷ 10 ∷ t))) ≡ true = ap ends_with_cr (take-append-add p (13 ∷ 10 ∷ t) 1) ∙ ends_with_cr_append p (13 ∷ []) (omega arith) in
    let back : starts_with_lf (drop (length p + 1) (p ++ (13 ∷ 10 ∷ t))) ≡ true = ap starts_with_lf (drop-append-add p (13 ∷ 10 ∷ t) 1) in
    let both : splits_crlf (p ++ (13 ∷ 10 ∷ t)) o ≡ true = ap (splits_crlf (p ++ (13 ∷ 10 ∷ t))) at ∙ (λ i. front i && back i) in
    cc

deeper : (l : Row) (ls : List Row) (o x : ℕ) → o ≡ length (line_text l) + (length (end_text l.end) + x) → IsLocated ls x → IsLocated (l ∷ ls) o
deeper l ls o x e at = record { line = suc at.line; at = at.at; line_in_range = omega (arith, at.line_in_range); at_in_range = at.at_in_range; sum = omega (arith, e, at.sum) }

locate_step : (l : Row) (ls : List Row) → ((x : ℕ) → x ≤ length (text_of ls) → splits_crlf (text_of ls) x ≡ false → IsLocated ls x) → (o : ℕ) → o ≤ length (text_of (l ∷ ls)) → splits_crlf (text_of (l ∷ ls)) o ≡ false → IsLocated (l ∷ ls) o
locate_step l ls rest o le off =
    ⊎_elim (λ past. ⊎_elim (λ inside. absurd (inside_end (line_text l) l.end (text_of ls) o past inside off)) later (cases_lt o (length (line_text l) + length (end_text l.end))))
    (λ within. record { line = 0; at = o; line_in_range = omega arith; at_in_range = within; sum = sym (zero-add o) })
    (cases_lt (length (line_text l)) o)
  where
    later : length (line_text l) + length (end_text l.end) ≤ o → IsLocated (l ∷ ls) o
    later after =
        let x = o - (length (line_text l) + length (end_text l.end)) in
        let e : o ≡ length (line_text l) + (length (end_text l.end) + (o - (length (line_text l) + length (end_text l.end)))) = omega (arith, after) in
        let x_le : o - (length (line_text l) + length (end_text l.end)) ≤ length (text_of ls) = omega (arith, le, length-append (line_text l) (end_text l.end ++ text_of ls), length-append (end_text l.end) (text_of ls)) in
        deeper l ls o (o - (length (line_text l) + length (end_text l.end))) e (rest (o - (length (line_text l) + length (end_text l.end))) x_le (offset_after (line_text l) (end_text l.end) (text_of ls) (o - (length (line_text l) + length (end_text l.end))) x_le (ap (splits_crlf (text_of (l ∷ ls))) (sym e) ∙ off)))

pub located : (ls : List Row) → AreLines ls → (o : ℕ) → o ≤ length (text_of ls) → splits_crlf (text_of ls) o ≡ false → IsLocated ls o
located [] h o le off = absurd h
located (l ∷ []) h o le off =
    let short : length (line_text l ++ (end_text l.end ++ [])) ≡ length (line_text l) = ap (λ e. length (line_text l ++ (end_text e ++ []))) h.1 ∙ ap length (append-nil (line_text l)) in
    record { line = 0; at = o; line_in_range = omega arith; at_in_range = omega (arith, le, short); sum = sym (zero-add o) }
located (l ∷ n ∷ ls) h o le off = locate_step l (n ∷ ls) (λ x x_le x_off. located (n ∷ ls) h.2 x x_le x_off) o le off

-- ---- how many of the characters fit into c units
fitting_le_step : (n m : ℕ) (b : Bool) → n ≤ m → cond b (suc n) 0 ≤ suc m
fitting_le_step n m true h = omega arith
fitting_le_step n m false h = omega arith

pub fitting_le : (w : ℕ → ℕ) (xs : List ℕ) (c : ℕ) → fitting w xs c ≤ length xs
unfolding fitting
fitting_le w [] c = omega arith
fitting_le w (x ∷ xs) c = fitting_le_step (fitting w xs (c - w x)) (length xs) (leb (w x) c) (fitting_le w xs (c - w x))

le_from : (a b : ℕ) → leb a b ≡ true → a ≤ b
le_from a b e = grind (arith, nat_tests)

lt_from : (a b : ℕ) → leb a b ≡ false → b < a
lt_from a b e = grind (arith, nat_tests)

le_to : (a b : ℕ) → a ≤ b → leb a b ≡ true
le_to a b h = grind (arith, nat_tests)

eq_from : (a b : ℕ) → eqb a b ≡ true → a ≡ b
eq_from a b e = grind (arith, nat_tests)

eq_to : (a b : ℕ) → a ≡ b → eqb a b ≡ true
eq_to a b e = grind (arith, nat_tests)

-- what fits, fits; and no more does
pub record Fits (w : ℕ → ℕ) (xs : List ℕ) (c k : ℕ) : Type 0 where
  pub within : sum_by w (take k xs) ≤ c
  pub most : (j : ℕ) → k < j → j ≤ length xs → c < sum_by w (take j xs)

fits_step : (w : ℕ → ℕ) (x : ℕ) (xs : List ℕ) (c k : ℕ) (b : Bool) → leb (w x) c ≡ b → Fits w xs (c - w x) k → Fits w (x ∷ xs) c (cond b (suc k) 0)
fits_step w x xs c k true e h = record { within = omega (arith, h.within, le_from (w x) c e, sum_by-cons w x (take k xs)); most = next }
  where
    next : (j : ℕ) → suc k < j → j ≤ suc (length xs) → c < sum_by w (take j (x ∷ xs))
    next zero gt le = absurd (omega (arith, gt))
    next (suc j) gt le = omega (arith, h.most j (omega (arith, gt)) (omega (arith, le)), le_from (w x) c e, sum_by-cons w x (take j xs))
fits_step w x xs c k false e h = record { within = omega arith; most = next }
  where
    next : (j : ℕ) → 0 < j → j ≤ suc (length xs) → c < sum_by w (take j (x ∷ xs))
    next zero gt le = absurd (omega (arith, gt))
    next (suc j) gt le =
        let more : sum_by w (x ∷ take j xs) ≡ w x + sum_by w (take j xs) = sum_by-cons w x (take j xs) in
        let over = lt_from (w x) c e in
        omega arith

pub fits : (w : ℕ → ℕ) (xs : List ℕ) (c : ℕ) → Fits w xs c (fitting w xs c)
unfolding fitting
fits w [] c = record { within = omega arith; most = λ j gt le. absurd (omega (arith, gt, le)) }
fits w (x ∷ xs) c = fits_step w x xs c (fitting w xs (c - w x)) (leb (w x) c) refl (fits w xs (c - w x))

-- ---- a place in a line is an offset
plain_no_cr : (t : List ℕ) → IsPlain t → ends_with_cr t ≡ false
plain_no_cr [] h = refl
plain_no_cr (c ∷ []) h = (plain_parts c [] [] h).1
plain_no_cr (c ∷ d ∷ t) h = plain_no_cr (d ∷ t) (plain_parts c (d ∷ t) (d ∷ t) h).2

end_seam : (p : List ℕ) (e : LineEnd) (t : List ℕ) → IsPlain p → is_end_before e t ≡ true → (ends_with_cr (p ++ end_text e) && starts_with_lf t) ≡ false
end_seam p Eof t h k = cc
end_seam p Lf t h k = rw (ends_with_cr_append p (10 ∷ []) (omega arith)) refl
end_seam p Cr t h k = rw (ends_with_cr_append p (13 ∷ []) (omega arith)) (not-true (starts_with_lf t) k)
end_seam p CrLf t h k = rw (ends_with_cr_append p (13 ∷ 10 ∷ []) (omega arith)) refl

after_whole : (p : List ℕ) (e : LineEnd) (t : List ℕ) (x : ℕ) → IsPlain p → is_end_before e t ≡ true → splits_crlf t x ≡ false → splits_crlf (p ++ (end_text e ++ t)) (length p + (length (end_text e) + x)) ≡ false
after_whole p e t zero h k off =
    let front : ends_with_cr (take (length p + (length (end_text e) + 0)) (p ++ (end_text e ++ t))) ≡ ends_with_cr (p ++ end_text e) = ap ends_with_cr (take_past p (end_text e) t 0 ∙ ap (λ y. p ++ y) (append-nil (end_text e))) in
    let back : starts_with_lf (drop (length p + (length (end_text e) + 0)) (p ++ (end_text e ++ t))) ≡ starts_with_lf t = ap starts_with_lf (drop_past p (end_text e) t 0) in
    (λ i. front i && back i) ∙ end_seam p e t h k
after_whole p e [] (suc x) h k off =
    let back : starts_with_lf (drop (length p + (length (end_text e) + suc x)) (p ++ (end_text e ++ []))) ≡ false = ap starts_with_lf (drop_past p (end_text e) [] (suc x)) in
    (λ i. ends_with_cr (take (length p + (length (end_text e) + suc x)) (p ++ (end_text e ++ []))) && back i) ∙ and_no (ends_with_cr (take (length p + (length (end_text e) + suc x)) (p ++ (end_text e ++ []))))
  where
    and_no : (b : Bool) → (b && false) ≡ false
    and_no true = refl
    and_no false = refl
after_whole p e (c ∷ t) (suc x) h k off =
    let front : ends_with_cr (take (length p + (length (end_text e) + suc x)) (p ++ (end_text e ++ (c ∷ t)))) ≡ ends_with_cr (take (suc x) (c ∷ t)) = ap ends_with_cr (take_past p (end_text e) (c ∷ t) (suc x)) ∙ ends_with_cr_append p (end_text e ++ take (suc x) (c ∷ t)) (omega (arith, length-append (end_text e) (take (suc x) (c ∷ t)))) ∙ ends_with_cr_append (end_text e) (take (suc x) (c ∷ t)) (omega arith) in
    let back : starts_with_lf (drop (length p + (length (end_text e) + suc x)) (p ++ (end_text e ++ (c ∷ t)))) ≡ starts_with_lf (drop (suc x) (c ∷ t)) = ap starts_with_lf (drop_past p (end_text e) (c ∷ t) (suc x)) in
    (λ i. front i && back i) ∙ off

front_off : (p r : List ℕ) (k : ℕ) → IsPlain p → k ≤ length p → splits_crlf (p ++ r) (0 + k) ≡ false
front_off p r k h le =
    let front : ends_with_cr (take (0 + k) (p ++ r)) ≡ false = ap ends_with_cr (ap (λ x. take x (p ++ r)) (zero-add k) ∙ take-append-le k p r le) ∙ plain_no_cr (take k p) (plain_take p k h) in
    (λ i. front i && starts_with_lf (drop (0 + k) (p ++ r)))

pub is_apart : (ls : List Row) → AreLines ls → (m k : ℕ) → m < length ls → k ≤ length (text_at ls m) → splits_crlf (text_of ls) (start_of ls m + k) ≡ false
is_apart [] h m k lt le = absurd h
is_apart (l ∷ []) h zero k lt le = front_off (line_text l) (end_text l.end ++ []) k h.0 le
is_apart (l ∷ []) h (suc m) k lt le = absurd (omega (arith, lt))
is_apart (l ∷ n ∷ ls) h zero k lt le = front_off (line_text l) (end_text l.end ++ text_of (n ∷ ls)) k h.0 le
is_apart (l ∷ n ∷ ls) h (suc m) k lt le =
    let sum : start_of (l ∷ n ∷ ls) (suc m) + k ≡ length (line_text l) + (length (end_text l.end) + (start_of (n ∷ ls) m + k)) = omega arith in
    ap (splits_crlf (text_of (l ∷ n ∷ ls))) sum ∙ after_whole (line_text l) l.end (text_of (n ∷ ls)) (start_of (n ∷ ls) m + k) h.0 h.1 (is_apart (n ∷ ls) h.2 m k (omega (arith, lt)) le)

pub start_le : (ls : List Row) (m : ℕ) → m < length ls → start_of ls m + length (text_at ls m) ≤ length (text_of ls)
start_le [] m lt = absurd (omega (arith, lt))
start_le (l ∷ ls) zero lt = omega (arith, length-append (line_text l) (end_text l.end ++ text_of ls))
start_le (l ∷ ls) (suc m) lt = omega (arith, start_le ls m (omega (arith, lt)), length-append (line_text l) (end_text l.end ++ text_of ls), length-append (end_text l.end) (text_of ls))

-- ---- the offset of a position

module _ (w : ℕ → ℕ) (ls : List Row) (h : AreLines ls) (m c : ℕ) where
  -- an offset of the line m with at most c units, by its place in the line
  within_place : (j : ℕ) → is_within w (text_of ls) m c j ≡ true → (k : ℕ) × (m < length ls) × (k ≤ length (text_at ls m)) × (j ≡ start_of ls m + k) × (sum_by w (take k (text_at ls m)) ≤ c)
  within_place j e =
      let p = and_parts (is_offset (text_of ls) j) (eqb (line_at (text_of ls) j) m && leb (units_at w (text_of ls) j) c) e in
      let q = and_parts (eqb (line_at (text_of ls) j) m) (leb (units_at w (text_of ls) j) c) p.1 in
      let off = and_not (leb j (length (text_of ls))) (splits_crlf (text_of ls) j) p.0 in
      place (located ls h j (le_from j (length (text_of ls)) off.0) off.1) (eq_from (line_at (text_of ls) j) m q.0) (le_from (units_at w (text_of ls) j) c q.1)
    where
      place : IsLocated ls j → line_at (text_of ls) j ≡ m → units_at w (text_of ls) j ≤ c → (k : ℕ) × (m < length ls) × (k ≤ length (text_at ls m)) × (j ≡ start_of ls m + k) × (sum_by w (take k (text_at ls m)) ≤ c)
      place at line_is units_le =
          let here = at_line ls h at.line at.at at.line_in_range at.at_in_range in
          let same : at.line ≡ m = sym here.line_is ∙ ap (line_at (text_of ls)) (sym at.sum) ∙ line_is in
          let few : sum_by w (take at.at (text_at ls at.line)) ≤ c = subst (λ x. x ≤ c) (ap (units_at w (text_of ls)) at.sum ∙ ap (sum_by w) here.before_is) units_le in
          (at.at, subst (λ x. x < length ls) same at.line_in_range, subst (λ x. at.at ≤ length (text_at ls x)) same at.at_in_range, at.sum ∙ ap (λ x. start_of ls x + at.at) same, subst (λ x. sum_by w (take at.at (text_at ls x)) ≤ c) same few)

  pub offset_of_line : m < length ls → offset_of w (text_of ls) m c ≡ start_of ls m + fitting w (text_at ls m) c
  unfolding offset_of
  offset_of_line lt =
      let f = fits w (text_at ls m) c in
      let in_line = fitting_le w (text_at ls m) c in
      let here = at_line ls h m (fitting w (text_at ls m) c) lt in_line in
      let le : start_of ls m + fitting w (text_at ls m) c ≤ length (text_of ls) = omega (arith, start_le ls m lt, in_line) in
      let passes : is_within w (text_of ls) m c (start_of ls m + fitting w (text_at ls m) c) ≡ true =
      and_from _ _ (and_from _ _ (le_to _ _ le) (ap not (is_apart ls h m (fitting w (text_at ls m) c) lt in_line))) (and_from _ _ (eq_to _ _ here.line_is) (le_to _ _ (subst (λ x. x ≤ c) (sym (ap (sum_by w) here.before_is)) f.within))) in
      ap (λ o. unwrap_or o (length (text_of ls))) (greatest_is (is_within w (text_of ls) m c) (length (text_of ls)) (start_of ls m + fitting w (text_at ls m) c) le passes (λ j gt j_le. false_from_ne_true (is_within w (text_of ls) m c j) (λ e. too_far j gt (within_place j e))))
    where
      too_far : (j : ℕ) → start_of ls m + fitting w (text_at ls m) c < j → (k : ℕ) × (m < length ls) × (k ≤ length (text_at ls m)) × (j ≡ start_of ls m + k) × (sum_by w (take k (text_at ls m)) ≤ c) → ⊥
      too_far j gt at = omega (arith, (fits w (text_at ls m) c).most at.0 (omega (arith, at.3, gt)) at.2, at.4)

  pub offset_of_past : length ls ≤ m → offset_of w (text_of ls) m c ≡ length (text_of ls)
  unfolding offset_of
  offset_of_past le =
      ap (λ o. unwrap_or o (length (text_of ls))) (greatest_none (is_within w (text_of ls) m c) (length (text_of ls)) (λ j j_le. false_from_ne_true (is_within w (text_of ls) m c j) (λ e. let at = within_place j e in omega (arith, at.1, le))))

-- ---- the index
start_of_push : (ls : List Row) (l : Row) (m : ℕ) → m < length ls → start_of (ls ++ l ∷ []) m ≡ start_of ls m
start_of_push [] l m lt = absurd (omega (arith, lt))
start_of_push (n ∷ ls) l zero lt = refl
start_of_push (n ∷ ls) l (suc m) lt = ap (λ x. length (line_text n) + (length (end_text n.end) + x)) (start_of_push ls l m (omega (arith, lt)))

start_of_last : (ls : List Row) (l : Row) → start_of (ls ++ l ∷ []) (length ls) ≡ length (text_of ls)
start_of_last [] l = refl
start_of_last (n ∷ ls) l = omega (arith, start_of_last ls l, length-append (line_text n) (end_text n.end ++ text_of ls), length-append (end_text n.end) (text_of ls))

length_text_of_push : (ls : List Row) (l : Row) → length (text_of (ls ++ l ∷ [])) ≡ length (text_of ls) + (length (line_text l) + length (end_text l.end))
length_text_of_push [] l = omega (arith, length-append (line_text l) (end_text l.end ++ []), length-append (end_text l.end) [])
length_text_of_push (n ∷ ls) l = omega (arith, length_text_of_push ls l, length-append (line_text n) (end_text n.end ++ text_of ls), length-append (end_text n.end) (text_of ls), length-append (line_text n) (end_text n.end ++ text_of (ls ++ l ∷ [])), length-append (end_text n.end) (text_of (ls ++ l ∷ [])))

pub index_push : (starts : List ℕ) (len : ℕ) (ls : List Row) (l : Row) (more : ℕ) → IsIndex starts len ls → more ≡ length (line_text l) + length (end_text l.end) → IsIndex (starts ++ len ∷ []) (len + more) (ls ++ l ∷ [])
index_push starts len ls l more index more_is = record {
  count = omega (arith, length-append starts (len ∷ []), length-append ls (l ∷ []), index.count);
  starts_are = λ m lt. ⊎_elim (λ below. get_or_append_left starts (len ∷ []) 0 m (omega (arith, below, index.count)) ∙ index.starts_are m below ∙ sym (start_of_push ls l m below))
      (λ above. let e : m ≡ length ls = omega (arith, above, lt, length-append ls (l ∷ [])) in subst (λ x. get_or (starts ++ len ∷ []) x 0 ≡ start_of (ls ++ l ∷ []) x) (sym e) (get_or_push starts len 0 (length ls) index.count ∙ index.len_is ∙ sym (start_of_last ls l))) (cases_lt m (length ls));
  len_is = omega (arith, length_text_of_push ls l, index.len_is, more_is);
}

pub text_found : (ls : List Row) (m : ℕ) (x : Row) → m < length ls → x ≡ get_or ls m x → text_at ls m ≡ line_text x
text_found [] m x lt e = absurd (omega (arith, lt))
text_found (l ∷ ls) zero x lt e = ap line_text (sym e)
text_found (l ∷ ls) (suc m) x lt e = text_found ls m x (omega (arith, lt)) e

-- what `offset_of` computes
module _ (w : ℕ → ℕ) (ls : List Row) (m c : ℕ) (t : List ℕ) (h : AreLines ls) (view_is : text_of ls ≡ t) where
  pub offset_found : (x : Row) (start fit : ℕ) → IsLineAt ls m x start → fit ≡ fitting w (line_text x) c → start + fit ≡ offset_of w t m c
  offset_found x start fit at fit_is =
      (λ i. at.start_is i + (fit_is ∙ ap (λ y. fitting w y c) (sym (text_found ls m x at.in_range at.line_is))) i) ∙ sym (offset_of_line w ls h m c at.in_range) ∙ ap (λ y. offset_of w y m c) view_is

  pub offset_past : (len : ℕ) → len ≡ length (text_of ls) → length ls ≤ m → len ≡ offset_of w t m c
  offset_past len len_is le = len_is ∙ sym (offset_of_past w ls h m c le) ∙ ap (λ y. offset_of w y m c) view_is

pub offset_bound : (w : ℕ → ℕ) (ls : List Row) (m c : ℕ) (x : Row) (start fit : ℕ) → IsLineAt ls m x start → fit ≡ fitting w (line_text x) c → start + fit ≤ length (text_of ls)
offset_bound w ls m c x start fit at fit_is =
    omega (arith, at.start_is, fit_is ∙ ap (λ y. fitting w y c) (sym (text_found ls m x at.in_range at.line_is)), fitting_le w (text_at ls m) c, start_le ls m at.in_range)
