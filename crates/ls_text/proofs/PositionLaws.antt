-- Laws of the position of an offset, over the lines that a snapshot holds.
use Rattle.std.proofs.Common.{◌≡◌, ℕ, zero, suc, ◌+◌, ◌-◌, ◌<◌, ◌≤◌, min, true, cond, ◌&&◌, List, [], ◌∷◌, ◌++◌, length, take, drop, refl, sym, ap, subst, ◌∙◌, ⊎_elim, arith, length-append}
use Rattle.std.specs.Prelude.{sum_by}
use Rattle.std.specs.Str.{encode_utf8_all as encodes}
use Rattle.std.proofs.lemmas.Str.{encodes-append, length-le-encodes}
use Rattle.std.proofs.Math.Seq.{take-append-add, drop-append-add}
use Rattle.std.proofs.lemmas.List.{take_all}
use Rattle.std.proofs.lemmas.Bool.{cases_lt, cond-false, cond-true}
use Rattle.ls_text.specs.Lines.{starts_with_lf, ends_with_cr, splits_crlf, line_at, units_at, lowered}
use Rattle.ls_text.specs.Cut.{end_text, line_text, text_of, is_end_before, AreLines, start_of, text_at, end_at, IsKeptText}
use Rattle.ls_text.specs.own.Chunks.{IsLineAt}
use Rattle.ls_text.specs.Positions.{position_of}
use Rattle.ls_text.specs.declared.position.Position.{Position}
use Rattle.ls_text.specs.declared.line_end.LineEnd.{LineEnd}
use Rattle.ls_text.specs.declared.line_end.LineEnd.TheVariants.{Eof, Lf, Cr, CrLf}
use Rattle.ls_text.specs.Cut.{Row}
use Rattle.ls_text.proofs.OffsetLaws.{take_past, drop_past, ends_with_cr_append, at_line, is_apart, start_le, text_found}

-- between CR and LF
splits_front : (p : List ℕ) (e : LineEnd) (t : List ℕ) (o : ℕ) → length p < o → o < length p + length (end_text e) → splits_crlf (p ++ (end_text e ++ t)) o ≡ true
splits_front p Eof t o gt lt = absurd (omega (arith, gt, lt))
splits_front p Lf t o gt lt = absurd (omega (arith, gt, lt))
splits_front p Cr t o gt lt = absurd (omega (arith, gt, lt))
splits_front p CrLf t o gt lt =
    let at : o ≡ length p + 1 = omega (arith, gt, lt) in
    let front : ends_with_cr (take (length p + 1) (p ++ (13 ∷ 10 ∷ t))) ≡ true = ap ends_with_cr (take-append-add p (13 ∷ 10 ∷ t) 1) ∙ ends_with_cr_append p (13 ∷ []) (omega arith) in
    let back : starts_with_lf (drop (length p + 1) (p ++ (13 ∷ 10 ∷ t))) ≡ true = ap starts_with_lf (drop-append-add p (13 ∷ 10 ∷ t) 1) in
    ap (splits_crlf (p ++ (13 ∷ 10 ∷ t))) at ∙ (λ i. front i && back i)

splits_after : (p e t : List ℕ) (x : ℕ) → splits_crlf t x ≡ true → splits_crlf (p ++ (e ++ t)) (length p + (length e + x)) ≡ true
splits_after p e t zero h = cc
splits_after p e [] (suc x) h = cc
splits_after p e (c ∷ t) (suc x) h =
    let front : ends_with_cr (take (length p + (length e + suc x)) (p ++ (e ++ (c ∷ t)))) ≡ ends_with_cr (take (suc x) (c ∷ t)) = ap ends_with_cr (take_past p e (c ∷ t) (suc x)) ∙ ends_with_cr_append p (e ++ take (suc x) (c ∷ t)) (omega (arith, length-append e (take (suc x) (c ∷ t)))) ∙ ends_with_cr_append e (take (suc x) (c ∷ t)) (omega arith) in
    let back : starts_with_lf (drop (length p + (length e + suc x)) (p ++ (e ++ (c ∷ t)))) ≡ starts_with_lf (drop (suc x) (c ∷ t)) = ap starts_with_lf (drop_past p e (c ∷ t) (suc x)) in
    (λ i. front i && back i) ∙ h

-- past the end of a line, and before the next
pub splits_in : (ls : List Row) (m o : ℕ) → suc m < length ls → start_of ls m + length (text_at ls m) < o → o < start_of ls (suc m) → splits_crlf (text_of ls) o ≡ true
splits_in [] m o lt gt below = absurd (omega (arith, lt))
splits_in (l ∷ ls) zero o lt gt below = splits_front (line_text l) l.end (text_of ls) o (omega (arith, gt)) (omega (arith, below, start_zero ls))
  where
    start_zero : (ls : List Row) → start_of ls 0 ≡ 0
    start_zero [] = refl
    start_zero (l ∷ ls) = refl
splits_in (l ∷ ls) (suc m) o lt gt below =
    let x = o - (length (line_text l) + length (end_text l.end)) in
    let e : o ≡ length (line_text l) + (length (end_text l.end) + (o - (length (line_text l) + length (end_text l.end)))) = omega (arith, gt) in
    ap (splits_crlf (text_of (l ∷ ls))) e ∙ splits_after (line_text l) (end_text l.end) (text_of ls) (o - (length (line_text l) + length (end_text l.end))) (splits_in ls m (o - (length (line_text l) + length (end_text l.end))) (omega (arith, lt)) (omega (arith, gt)) (omega (arith, below, gt)))

-- the end of a line but the last is two characters at most
end_short : (e : LineEnd) → length (end_text e) ≤ 2
end_short Eof = omega arith
end_short Lf = omega arith
end_short Cr = omega arith
end_short CrLf = omega arith

start_next : (ls : List Row) (m : ℕ) → m < length ls → start_of ls (suc m) ≡ start_of ls m + (length (text_at ls m) + length (end_text (end_at ls m)))
start_next [] m lt = absurd (omega (arith, lt))
start_next (l ∷ []) zero lt = omega arith
start_next (l ∷ n ∷ ls) zero lt = omega arith
start_next (l ∷ ls) (suc m) lt = omega (arith, start_next ls m (omega (arith, lt)))

pub last_full : (ls : List Row) → AreLines ls → (m : ℕ) → suc m ≡ length ls → start_of ls m + length (text_at ls m) ≡ length (text_of ls)
last_full [] h m e = absurd h
last_full (l ∷ []) h zero e = omega (arith, length-append (line_text l) (end_text l.end ++ []), ap (λ x. length (end_text x ++ [])) h.1)
last_full (l ∷ []) h (suc m) e = absurd (omega (arith, e))
last_full (l ∷ n ∷ ls) h zero e = absurd (omega (arith, e))
last_full (l ∷ n ∷ ls) h (suc m) e = omega (arith, last_full (n ∷ ls) h.2 m (omega (arith, e)), length-append (line_text l) (end_text l.end ++ text_of (n ∷ ls)), length-append (end_text l.end) (text_of (n ∷ ls)))

-- the offset, lowered, stands in its line after so many characters
module _ (ls : List Row) (h : AreLines ls) (m o : ℕ) (lt : m < length ls) (starts : start_of ls m ≤ o) (last : suc m < length ls → o < start_of ls (suc m)) where
  pub lowered_in : lowered (text_of ls) o ≡ start_of ls m + min (o - start_of ls m) (length (text_at ls m))
  unfolding lowered
  lowered_in = ⊎_elim after within (cases_lt (start_of ls m + length (text_at ls m)) o)
    where
      within : o ≤ start_of ls m + length (text_at ls m) → cond (splits_crlf (text_of ls) (min o (length (text_of ls)))) (min o (length (text_of ls)) - 1) (min o (length (text_of ls))) ≡ start_of ls m + min (o - start_of ls m) (length (text_at ls m))
      within le =
          let is : min o (length (text_of ls)) ≡ start_of ls m + (o - start_of ls m) = omega (arith, le, start_le ls m lt, starts) in
          cond-false _ _ _ (ap (splits_crlf (text_of ls)) is ∙ is_apart ls h m (o - start_of ls m) lt (omega (arith, le))) ∙ omega (arith, is, le)

      after : start_of ls m + length (text_at ls m) < o → cond (splits_crlf (text_of ls) (min o (length (text_of ls)))) (min o (length (text_of ls)) - 1) (min o (length (text_of ls))) ≡ start_of ls m + min (o - start_of ls m) (length (text_at ls m))
      after gt = ⊎_elim inner at_last (cases_lt (suc m) (length ls))
        where
          at_last : length ls ≤ suc m → cond (splits_crlf (text_of ls) (min o (length (text_of ls)))) (min o (length (text_of ls)) - 1) (min o (length (text_of ls))) ≡ start_of ls m + min (o - start_of ls m) (length (text_at ls m))
          at_last le =
              let full = last_full ls h m (omega (arith, le, lt)) in
              let is : min o (length (text_of ls)) ≡ start_of ls m + length (text_at ls m) = omega (arith, gt, full) in
              cond-false _ _ _ (ap (splits_crlf (text_of ls)) is ∙ is_apart ls h m (length (text_at ls m)) lt (omega arith)) ∙ omega (arith, is, gt)

          inner : suc m < length ls → cond (splits_crlf (text_of ls) (min o (length (text_of ls)))) (min o (length (text_of ls)) - 1) (min o (length (text_of ls))) ≡ start_of ls m + min (o - start_of ls m) (length (text_at ls m))
          inner more =
              let below = last more in
              let next = start_next ls m lt in
              let short = end_short (end_at ls m) in
              let fits : o < length (text_of ls) = omega (arith, below, start_le ls (suc m) more) in
              let is : min o (length (text_of ls)) ≡ o = omega (arith, fits) in
              cond-true _ _ _ (ap (splits_crlf (text_of ls)) is ∙ splits_in ls m o more gt below) ∙ omega (arith, is, gt, below, next, short)

  pub position_in : (w : ℕ → ℕ) (units : ℕ) → units ≡ sum_by w (take (o - start_of ls m) (text_at ls m)) → (line_at (text_of ls) (lowered (text_of ls) o) ≡ m) × (units_at w (text_of ls) (lowered (text_of ls) o) ≡ units)
  position_in w units units_is =
      let here = at_line ls h m (min (o - start_of ls m) (length (text_at ls m))) lt (omega arith) in (
        ap (line_at (text_of ls)) lowered_in ∙ here.line_is,
        ap (units_at w (text_of ls)) lowered_in ∙ ap (sum_by w) (here.before_is ∙ taken (text_at ls m) (o - start_of ls m)) ∙ sym units_is,
      )
    where
      taken : (xs : List ℕ) (k : ℕ) → take (min k (length xs)) xs ≡ take k xs
      taken xs k = ⊎_elim (λ below. ap (λ x. take x xs) (omega_min below)) (λ past. ap (λ x. take x xs) (omega_past past) ∙ take_all (length xs) xs (omega arith) ∙ sym (take_all k xs past)) (cases_lt k (length xs))
        where
          omega_min : k < length xs → min k (length xs) ≡ k
          omega_min lt = omega (arith, lt)

          omega_past : length xs ≤ k → min k (length xs) ≡ length xs
          omega_past le = omega (arith, le)

-- a text has no fewer characters than lines but one
pub few_lines : (ls : List Row) → AreLines ls → length ls ≤ length (text_of ls) + 1
few_lines [] h = absurd h
few_lines (l ∷ []) h = omega arith
few_lines (l ∷ n ∷ ls) h = omega (arith, few_lines (n ∷ ls) h.2, length-append (line_text l) (end_text l.end ++ text_of (n ∷ ls)), length-append (end_text l.end) (text_of (n ∷ ls)), some l.end _ h.1)
  where
    some : (e : LineEnd) (t : List ℕ) → is_end_before e t ≡ true → 0 < length (end_text e)
    some Eof t h = cc
    some Lf t h = omega arith
    some Cr t h = omega arith
    some CrLf t h = omega arith

-- ---- what `position_of` computes, over the lines and their index
pub lines_some : (ls : List Row) → AreLines ls → 0 < length ls
lines_some [] h = absurd h
lines_some (l ∷ ls) h = omega arith

-- the bytes of a line are no more than those of the text
bytes_le : (x y z : List ℕ) → (length (encodes x) ≤ length (encodes (x ++ (y ++ z)))) × (length (encodes z) ≤ length (encodes (x ++ (y ++ z))))
bytes_le x y z =
    let whole = ap length (encodes-append x (y ++ z)) in
    let whole_length = length-append (encodes x) (encodes (y ++ z)) in
    let back = ap length (encodes-append y z) in
    let back_length = length-append (encodes y) (encodes z) in
    (omega arith, omega arith)

pub text_bytes_le : (ls : List Row) (m : ℕ) → length (encodes (text_at ls m)) ≤ length (encodes (text_of ls))
text_bytes_le [] m = omega arith
text_bytes_le (l ∷ ls) zero = (bytes_le (line_text l) (end_text l.end) (text_of ls)).0
text_bytes_le (l ∷ ls) (suc m) = omega (arith, text_bytes_le ls m, (bytes_le (line_text l) (end_text l.end) (text_of ls)).1)

pub same_position : (a b c d : ℕ) → a ≡ c → b ≡ d → ◌≡◌ {A = Position} (record { line = a; character = b }) (record { line = c; character = d })
same_position a b c d e f = λ i. record { line = e i; character = f i }

module _ (ls : List Row) (kept : IsKeptText ls) where
  pub line_small : (m : ℕ) → m < length ls → m < 4_294_967_296
  line_small m lt = omega (arith, lt, few_lines ls kept.lines, length-le-encodes (text_of ls), kept.small)

  pub bytes_small : (m : ℕ) (x : Row) (start : ℕ) → IsLineAt ls m x start → length (encodes (line_text x)) ≤ 4_194_304
  bytes_small m x start at = omega (arith, ap (λ z. length (encodes z)) (text_found ls m x at.in_range at.line_is), text_bytes_le ls m, kept.small)

  pub position_found : (w : ℕ → ℕ) (t : List ℕ) → text_of ls ≡ t → (m o : ℕ) (x : Row) (start : ℕ) → IsLineAt ls m x start → start ≤ o → (m + 1 < length ls → o < start_of ls (m + 1)) → (units : ℕ) → units ≡ sum_by w (take (o - start) (line_text x)) → ◌≡◌ {A = Position} (record { line = m; character = units }) (position_of w t o)
  position_found w t view_is m o x start at at_start before_next units units_is =
      let from_start : start_of ls m ≤ o = omega (arith, at_start, at.start_is) in
      let after : m + 1 ≡ suc m = omega arith in
      let next : suc m < length ls → o < start_of ls (suc m) = subst (λ k. k < length ls → o < start_of ls k) after before_next in
      let found = position_in ls kept.lines m o at.in_range from_start next w units (units_is ∙ (λ i. sum_by w (take (o - at.start_is i) (sym (text_found ls m x at.in_range at.line_is) i)))) in
      same_position m units _ _ (sym found.0) (sym found.1) ∙ ap (λ y. position_of w y o) view_is
