-- Laws of spots, over lines held behind pointers.
use Rattle.std.proofs.Common.{true, ◌≡◌, ℕ, zero, suc, ◌+◌, ◌-◌, ◌<◌, List, [], ◌∷◌, ◌++◌, length, take, drop, get_or, refl, sym, ap, subst, ◌∙◌, arith, append_assoc, take-append-drop}
use Rattle.std.specs.Str.{chars, IsUtf8, IsCharBoundary, encode_utf8_all as encodes}
use Rattle.std.proofs.Math.Seq.{take-append_seam}
use Rattle.std.proofs.Math.Utf8.{scalars, scalar}
use Rattle.std.proofs.lemmas.Str.{encodes-append, encodes-chars, scalars-chars, chars-append, chars_from_encodes, IsCharBoundary-at_seam, IsCharBoundary-end}
use Rattle.std.proofs.lemmas.List.{length-take-le, take_all}
use Rattle.std.proofs.lemmas.Bool.{and_parts}
use Rattle.ls_text.specs.Lines.{offset_of, fitting}
use Rattle.ls_text.specs.own.Spots.{IsSpot}
use Rattle.ls_text.proofs.OffsetLaws.{fitting_le, offset_found, text_found}
use Rattle.ls_text.proofs.PositionLaws.{last_full}
use Rattle.ls_text.specs.own.Chunks.{IsLineAt}
use Rattle.ls_text.specs.Cut.{line_text, text_of, text_at, end_at, start_of, AreLines}
use Rattle.ls_text.specs.own.Spots.{bytes_at}
use Rattle.ls_text.specs.Cut.{Row}

pub bytes_found : (ls : List Row) (m : ℕ) (x : Row) → m < length ls → x ≡ get_or ls m x → bytes_at ls m ≡ encodes (line_text x)
bytes_found [] m x lt e = absurd (omega (arith, lt))
bytes_found (l ∷ ls) zero x lt e = ap (λ (y : Row). encodes (line_text y)) (sym e)
bytes_found (l ∷ ls) (suc m) x lt e = bytes_found ls m x (omega (arith, lt)) e

pub end_found : (ls : List Row) (m : ℕ) (x : Row) → m < length ls → x ≡ get_or ls m x → end_at ls m ≡ x.end
end_found [] m x lt e = absurd (omega (arith, lt))
end_found (l ∷ ls) zero x lt e = ap (λ (y : Row). y.end) (sym e)
end_found (l ∷ ls) (suc m) x lt e = end_found ls m x (omega (arith, lt)) e

-- the five pieces of the middle
pub middle_chars : (bs front new back end : List ℕ) → IsUtf8 bs → IsUtf8 front → IsUtf8 new → IsUtf8 back → chars ((((bs ++ front) ++ new) ++ back) ++ end) ≡ chars bs ++ (chars front ++ (chars new ++ (chars back ++ chars end)))
middle_chars bs front new back end u v w x =
    ap chars (regroup bs front new back end) ∙ chars-append bs (front ++ (new ++ (back ++ end))) u
    ∙ ap (λ z. chars bs ++ z) (chars-append front (new ++ (back ++ end)) v ∙ ap (λ z. chars front ++ z) (chars-append new (back ++ end) w ∙ ap (λ z. chars new ++ z) (chars-append back end x)))
  where
    regroup : (a b c d e : List ℕ) → (((a ++ b) ++ c) ++ d) ++ e ≡ a ++ (b ++ (c ++ (d ++ e)))
    regroup a b c d e = simp append_assoc refl

-- ---- a text cut after some of its characters
scalars_take : (k : ℕ) (cs : List ℕ) → scalars cs ≡ true → scalars (take k cs) ≡ true
scalars_take zero cs e = refl
scalars_take (suc k) [] e = refl
scalars_take (suc k) (c ∷ cs) e =
    let parts = and_parts (scalar c) (scalars cs) e in
    rw (parts.0, scalars_take k cs parts.1) refl

scalars_drop : (k : ℕ) (cs : List ℕ) → scalars cs ≡ true → scalars (drop k cs) ≡ true
scalars_drop zero cs e = e
scalars_drop (suc k) [] e = e
scalars_drop (suc k) (c ∷ cs) e = scalars_drop k cs (and_parts (scalar c) (scalars cs) e).1

module _ (bs : List ℕ) (u : IsUtf8 bs) (k : ℕ) where
  seam : bs ≡ encodes (take k (chars bs)) ++ encodes (drop k (chars bs))
  seam = sym (encodes-chars bs u) ∙ ap encodes (sym (take-append-drop k (chars bs))) ∙ encodes-append (take k (chars bs)) (drop k (chars bs))

  -- the bytes of so many characters end at a boundary
  pub boundary_after : IsCharBoundary bs (length (encodes (take k (chars bs))))
  boundary_after = IsCharBoundary-at_seam bs (encodes (take k (chars bs))) (encodes (drop k (chars bs))) seam (drop k (chars bs), (scalars_drop k (chars bs) (scalars-chars bs u), refl))

  -- and before that boundary are these characters
  pub chars_before : chars (take (length (encodes (take k (chars bs)))) bs) ≡ take k (chars bs)
  chars_before =
      ap (λ x. chars (take (length (encodes (take k (chars bs)))) x)) seam
      ∙ ap chars (take-append_seam (encodes (take k (chars bs))) (encodes (drop k (chars bs))))
      ∙ sym (chars_from_encodes (take k (chars bs)) (encodes (take k (chars bs))) (take k (chars bs), (scalars_take k (chars bs) (scalars-chars bs u), refl)) refl)

-- ---- what `spot_of` finds
module _ (ls : List Row) (m : ℕ) (x : Row) (start : ℕ) (at : IsLineAt ls m x start) (bs : List ℕ) (u : IsUtf8 bs) (bs_is : bs ≡ encodes (line_text x)) (chars_are : chars bs ≡ line_text x) where
  bytes_are : bytes_at ls m ≡ bs
  bytes_are = bytes_found ls m x at.in_range at.line_is ∙ sym bs_is

  text_is : text_at ls m ≡ chars bs
  text_is = text_found ls m x at.in_range at.line_is ∙ sym chars_are

  pub spot_some : (w : ℕ → ℕ) (c offset count bytes : ℕ) → count ≡ fitting w (chars bs) c → bytes ≡ length (encodes (take count (chars bs))) → offset ≡ start + count → IsSpot ls (record { line = m; bytes = bytes; offset = offset })
  spot_some w c offset count bytes count_is bytes_is offset_is =
      let front : length (chars (take bytes (bytes_at ls m))) ≡ count = (λ i. length (chars (take (bytes_is i) (bytes_are i)))) ∙ ap length (chars_before bs u count) ∙ length-take-le count (chars bs) (omega (arith, count_is, fitting_le w (chars bs) c)) in
      record {
        line_in_range = at.in_range;
        utf8 = subst IsUtf8 (sym bytes_are) u;
        characters = ap chars bytes_are ∙ sym text_is;
        boundary = subst (λ b. IsCharBoundary b bytes) (sym bytes_are) (subst (IsCharBoundary bs) (sym bytes_is) (boundary_after bs u count));
        offset_is = offset_is ∙ (λ i. at.start_is i + sym front i);
      }

  pub offset_some : (w : ℕ → ℕ) (c offset count : ℕ) → count ≡ fitting w (chars bs) c → offset ≡ start + count → AreLines ls → offset ≡ offset_of w (text_of ls) m c
  offset_some w c offset count count_is offset_is h = offset_is ∙ offset_found w ls m c (text_of ls) h refl x start count at (count_is ∙ ap (λ t. fitting w t c) chars_are)

  -- the spot after the last line
  pub spot_none : AreLines ls → (count : ℕ) → count ≡ length (text_of ls) → m ≡ length ls - 1 → (bytes : ℕ) → bytes ≡ length bs → IsSpot ls (record { line = m; bytes = bytes; offset = count })
  spot_none h count count_is last_is bytes bytes_is =
      let full : length (bytes_at ls m) ≡ bytes = ap length bytes_are ∙ sym bytes_is in
      let all : take bytes (bytes_at ls m) ≡ bs = take_all bytes (bytes_at ls m) (omega (arith, full)) ∙ bytes_are in
      record {
        line_in_range = at.in_range;
        utf8 = subst IsUtf8 (sym bytes_are) u;
        characters = ap chars bytes_are ∙ sym text_is;
        boundary = subst (IsCharBoundary (bytes_at ls m)) full (IsCharBoundary-end (bytes_at ls m));
        offset_is = count_is ∙ sym (last_full ls h m (omega (arith, last_is, at.in_range))) ∙ ap (λ t. start_of ls m + length t) (text_is ∙ ap chars (sym all));
      }
