-- Laws of the position of so many bytes in a line.
use Rattle.std.proofs.Common.{◌≡◌, ℕ, suc, ◌+◌, ◌-◌, ◌<◌, ◌≤◌, min, false, cond, leb, List, [], ◌∷◌, ◌++◌, length, length-append, take, drop, take-append-drop, refl, sym, ap, ◌∙◌, arith}
use Rattle.std.specs.Prelude.{sum_by}
use Rattle.std.specs.Char.{len_utf8}
use Rattle.std.specs.Str.{chars, IsUtf8, IsCharBoundary, encode_utf8_all as encodes}
use Rattle.std.proofs.Math.Seq.{take-append_seam}
use Rattle.std.proofs.lemmas.List.{append-nil, length-take-le}
use Rattle.std.proofs.lemmas.Bool.Decides.{nat_tests}
use Rattle.std.proofs.lemmas.Str.{chars-append, encodes-append, encodes-chars, length-encode, len_utf8_bounds, IsUtf8-take}
use Rattle.std.proofs.lemmas.Bool.{cond-false}
use Rattle.ls_text.specs.Lines.{splits_crlf, line_at, units_at, lowered, offset_of, fitting}
use Rattle.ls_text.specs.Cut.{text_of, AreLines, start_of, text_at}
use Rattle.ls_text.specs.Positions.{position_of, position_in}
use Rattle.ls_text.specs.declared.position.Position.{Position}
use Rattle.ls_text.specs.Cut.{Row}
use Rattle.ls_text.proofs.OffsetLaws.{at_line, is_apart, start_le, fitting_le, offset_of_line}
use Rattle.ls_text.proofs.PositionLaws.{same_position}
use Rattle.ls_text.proofs.UnitLaws.{units_utf8}

pub lowered_at : (t : List ℕ) (o : ℕ) → o ≤ length t → splits_crlf t o ≡ false → lowered t o ≡ o
unfolding lowered
lowered_at t o le apart =
    let is : min o (length t) ≡ o = omega (arith, le) in
    cond-false _ _ _ (ap (splits_crlf t) is ∙ apart) ∙ is

-- the offset of so many bytes in a line of the text stands in that line, after the characters that fit
module _ (ls : List Row) (h : AreLines ls) (w : ℕ → ℕ) (l bytes : ℕ) (lt : l < length ls) where
  inside : fitting len_utf8 (text_at ls l) bytes ≤ length (text_at ls l)
  inside = fitting_le len_utf8 (text_at ls l) bytes

  lowered_is : lowered (text_of ls) (offset_of len_utf8 (text_of ls) l bytes) ≡ start_of ls l + fitting len_utf8 (text_at ls l) bytes
  lowered_is =
      ap (lowered (text_of ls)) (offset_of_line len_utf8 ls h l bytes lt)
      ∙ lowered_at (text_of ls) (start_of ls l + fitting len_utf8 (text_at ls l) bytes) (omega (arith, inside, start_le ls l lt)) (is_apart ls h l (fitting len_utf8 (text_at ls l) bytes) lt inside)

  pub place_in_line : (t : List ℕ) → text_of ls ≡ t → position_in w l (text_at ls l) bytes ≡ position_of w t (offset_of len_utf8 t l bytes)
  place_in_line t view_is =
      let at = at_line ls h l (fitting len_utf8 (text_at ls l) bytes) lt inside in
      same_position _ _ _ _ (sym (ap (line_at (text_of ls)) lowered_is ∙ at.line_is)) (sym (ap (units_at w (text_of ls)) lowered_is ∙ ap (sum_by w) at.before_is))
      ∙ ap (λ x. position_of w x (offset_of len_utf8 x l bytes)) view_is

-- ---- for callers: at a character bound, a position counts the characters of the bytes before it
le_test : (x y f : ℕ) → x ≤ y → cond (leb x y) (suc f) 0 ≡ suc f
le_test x y f le = grind (arith, nat_tests)

fitting_seam : (xs ys : List ℕ) → fitting len_utf8 (xs ++ ys) (length (encodes xs)) ≡ length xs
unfolding fitting
fitting_seam [] [] = refl
fitting_seam [] (y ∷ ys) =
    let some = len_utf8_bounds y in
    none (len_utf8 y) (fitting len_utf8 ys (0 - len_utf8 y)) (omega arith)
  where
    none : (x f : ℕ) → 0 < x → cond (leb x 0) (suc f) 0 ≡ 0
    none x f some = grind (arith, nat_tests)
fitting_seam (x ∷ xs) ys =
    let first : length (encodes (x ∷ [])) ≡ len_utf8 x = ap length (append-nil _) ∙ length-encode x in
    let all : length (encodes (x ∷ xs)) ≡ len_utf8 x + length (encodes xs) = omega (arith, ap length (encodes-append (x ∷ []) xs), length-append (encodes (x ∷ [])) (encodes xs)) in
    let left : length (encodes (x ∷ xs)) - len_utf8 x ≡ length (encodes xs) = omega (arith, all) in
    le_test (len_utf8 x) (length (encodes (x ∷ xs))) (fitting len_utf8 (xs ++ ys) (length (encodes (x ∷ xs)) - len_utf8 x)) (omega (arith, all))
    ∙ ap (λ k. suc (fitting len_utf8 (xs ++ ys) k)) left ∙ ap suc (fitting_seam xs ys)

pub position_at_boundary : (width : ℕ → ℕ) (l : ℕ) (bs : List ℕ) → IsUtf8 bs → (b : ℕ) → IsCharBoundary bs b → ◌≡◌ {A = Position} (position_in width l (chars bs) b) (record { line = l; character = sum_by width (chars (take b bs)) })
position_at_boundary width l bs u b at =
    let front = IsUtf8-take bs b u at in
    let seam : chars bs ≡ chars (take b bs) ++ chars (drop b bs) = ap chars (sym (take-append-drop b bs)) ∙ chars-append (take b bs) (drop b bs) front in
    let length_is : b ≡ length (encodes (chars (take b bs))) = sym (length-take-le b bs at.0) ∙ ap length (sym (encodes-chars (take b bs) front)) in
    let count : fitting len_utf8 (chars bs) b ≡ length (chars (take b bs)) = (λ i. fitting len_utf8 (seam i) (length_is i)) ∙ fitting_seam (chars (take b bs)) (chars (drop b bs)) in
    same_position _ _ _ _ refl (ap (sum_by width) ((λ i. take (count i) (seam i)) ∙ take-append_seam (chars (take b bs)) (chars (drop b bs))))

-- and in UTF-8 those bytes
pub bytes_at_boundary : (bs : List ℕ) → IsUtf8 bs → (b : ℕ) → IsCharBoundary bs b → b ≡ sum_by len_utf8 (take (fitting len_utf8 (chars bs) b) (chars bs))
bytes_at_boundary bs u b at =
    let front = IsUtf8-take bs b u at in
    let all : length (encodes (chars (take b bs))) ≡ b = ap length (encodes-chars (take b bs) front) ∙ length-take-le b bs at.0 in
    sym all ∙ sym (units_utf8 (chars (take b bs))) ∙ sym (ap (λ (p : Position). p.character) (position_at_boundary len_utf8 0 bs u b at))
