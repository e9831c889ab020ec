-- An offset between two characters of a line, and its position.
use Rattle.std.proofs.Common.{◌≡◌, ℕ, zero, suc, ◌+◌, ◌-◌, ◌<◌, ◌≤◌, inl, inr, List, [], ◌∷◌, ◌++◌, length, take, ap, ◌∙◌, arith, length-append}
use Rattle.std.specs.Prelude.{sum_by}
use Rattle.std.proofs.Math.Seq.{take-append_seam, take-append-add}
use Rattle.std.proofs.lemmas.List.Sums.{sum_by-cons, sum_by-append}
use Rattle.std.proofs.lemmas.Bool.{cases_order}
use Rattle.ls_text.specs.Lines.{offset_of, fitting, lowered, line_at, units_at}
use Rattle.ls_text.specs.Positions.{position_of}
use Rattle.ls_text.specs.Cut.{text_of, AreLines, start_of, text_at}
use Rattle.ls_text.specs.Cut.{Row}
use Rattle.ls_text.proofs.OffsetLaws.{at_line, is_apart, start_le, offset_of_line, fits, fitting_le}
use Rattle.ls_text.proofs.PlaceLaws.{lowered_at}

module _ (w : ℕ → ℕ) (some : (c : ℕ) → 1 ≤ w c) where
  sum_some : (xs : List ℕ) (d : ℕ) → 0 < d → d ≤ length xs → 0 < sum_by w (take d xs)
  sum_some [] d lt le = absurd (omega (arith, lt, le))
  sum_some (x ∷ xs) zero lt le = absurd (omega arith)
  sum_some (x ∷ xs) (suc d) lt le = omega (arith, sum_by-cons w x (take d xs), some x)

  -- as many characters fit as have these units
  fitting_sum : (front back : List ℕ) → fitting w (front ++ back) (sum_by w front) ≡ length front
  fitting_sum front back =
      let k = fitting w (front ++ back) (sum_by w front) in
      let f = fits w (front ++ back) (sum_by w front) in
      let all = length-append front back in
      elim (cases_order k (length front)) [
        | inl same ↦ same
        | inr order ↦ elim order [
          | inl less ↦ absurd (let c : sum_by w front < sum_by w (take (length front) (front ++ back)) = f.most (length front) less (omega (arith, all)) in omega (arith, c, ap (sum_by w) (take-append_seam front back)))
          | inr more ↦
              let d = k - length front in
              let sum : k ≡ length front + d = omega (arith, more) in
              let cut : sum_by w (take k (front ++ back)) ≡ sum_by w front + sum_by w (take d back) =
              ap (λ n. sum_by w (take n (front ++ back))) sum ∙ (ap (sum_by w) (take-append-add front back d) ∙ sum_by-append w front (take d back))
              in
              absurd (omega (arith, f.within, cut, sum_some back d (omega (arith, more)) (omega (arith, all, more, fitting_le w (front ++ back) (sum_by w front)))))
        ]
      ]

  module _ (ls : List Row) (h : AreLines ls) (m : ℕ) (lt : m < length ls) (front back : List ℕ) (cut : text_at ls m ≡ front ++ back) where
    -- the offset behind so many units of a line
    pub offset_behind : offset_of w (text_of ls) m (sum_by w front) ≡ start_of ls m + length front
    offset_behind =
        offset_of_line w ls h m (sum_by w front) lt
        ∙ ap (λ n. start_of ls m + n) (ap (λ l. fitting w l (sum_by w front)) cut ∙ fitting_sum front back)

    -- the position of that offset
    pub position_behind : position_of w (text_of ls) (start_of ls m + length front) ≡ record { line = m; character = sum_by w front }
    position_behind =
        let within : length front ≤ length (text_at ls m) = omega (arith, ap length cut, length-append front back) in
        let o = start_of ls m + length front in
        let here = at_line ls h m (length front) lt within in
        let same : lowered (text_of ls) o ≡ o = lowered_at (text_of ls) o (omega (arith, start_le ls m lt, within)) (is_apart ls h m (length front) lt within) in
        let line : line_at (text_of ls) (lowered (text_of ls) o) ≡ m = ap (line_at (text_of ls)) same ∙ here.line_is in
        let units : units_at w (text_of ls) (lowered (text_of ls) o) ≡ sum_by w front =
        ap (units_at w (text_of ls)) same ∙ (ap (sum_by w) (here.before_is ∙ (ap (take (length front)) cut ∙ take-append_seam front back)))
        in
        (λ i. record { line = line i; character = units i })
