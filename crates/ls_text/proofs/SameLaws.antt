-- Laws of lines that make the same text.
use Rattle.std.proofs.Common.{◌≡◌, ℕ, zero, suc, ◌+◌, ◌<◌, true, false, not, List, [], ◌∷◌, ◌++◌, length, get_or, drop, refl, sym, ap, ◌∙◌, arith, map}
use Rattle.std.proofs.lemmas.List.{append_cancel_left}
use Rattle.ls_text.specs.Lines.{starts_with_lf, lines, line_ends}
use Rattle.ls_text.specs.Cut.{end_text, line_text, text_of, row, is_end_before, AreLines, text_at, end_at}
use Rattle.ls_text.specs.declared.line_end.LineEnd.{LineEnd}
use Rattle.ls_text.specs.declared.line_end.LineEnd.TheVariants.{Eof, Lf, Cr, CrLf}
use Rattle.ls_text.specs.Cut.{Row}
use Rattle.ls_text.proofs.CutLaws.{lines_text_of, line_ends_text_of}
use Rattle.ls_text.proofs.OffsetLaws.{text_found}
use Rattle.ls_text.specs.own.Alike.{IsSameFront}
use Rattle.ls_text.specs.own.Chunks.{IsLineAt}
use Rattle.ls_text.proofs.SpotLaws.{end_found}

-- two line ends, each before what follows it
record AreSame (a b : LineEnd) (s t : List ℕ) : Type 0 where
  ends : a ≡ b
  rests : s ≡ t

lf_not_cr : {s t : List ℕ} → ◌≡◌ {A = List ℕ} (10 ∷ s) (13 ∷ t) → ⊥
lf_not_cr {s} {t} e =
    let heads : ◌≡◌ {A = ℕ} 10 13 = cc in
    omega (arith, heads)

cr_not_crlf : (s t : List ℕ) → not (starts_with_lf s) ≡ true → 13 ∷ s ≡ 13 ∷ 10 ∷ t → ⊥
cr_not_crlf s t h e =
    let rest : s ≡ 10 ∷ t = cc in
    let two : false ≡ true = sym (ap (λ x. not (starts_with_lf x)) rest) ∙ h in
    cc

ends_same : (a b : LineEnd) (s t : List ℕ) → is_end_before a s ≡ true → is_end_before b t ≡ true → end_text a ++ s ≡ end_text b ++ t → AreSame a b s t
ends_same Eof b s t h k e = cc
ends_same Lf Eof s t h k e = cc
ends_same Lf Lf s t h k e = record { ends = refl; rests = cc }
ends_same Lf Cr s t h k e = absurd (lf_not_cr e)
ends_same Lf CrLf s t h k e = absurd (lf_not_cr e)
ends_same Cr Eof s t h k e = cc
ends_same Cr Lf s t h k e = absurd (lf_not_cr (sym e))
ends_same Cr Cr s t h k e = record { ends = refl; rests = cc }
ends_same Cr CrLf s t h k e = absurd (cr_not_crlf s t h e)
ends_same CrLf Eof s t h k e = cc
ends_same CrLf Lf s t h k e = absurd (lf_not_cr (sym e))
ends_same CrLf Cr s t h k e = absurd (cr_not_crlf t s k (sym e))
ends_same CrLf CrLf s t h k e = record { ends = refl; rests = cc }

-- ---- the same text has the same lines
pub length_same : (ls ms : List Row) → AreLines ls → AreLines ms → text_of ls ≡ text_of ms → length ls ≡ length ms
length_same ls ms h k e = sym (line_ends_text_of ls h) ∙ ap (λ t. line_ends t + 1) e ∙ line_ends_text_of ms k

texts_same : (ls ms : List Row) → AreLines ls → AreLines ms → text_of ls ≡ text_of ms → map line_text ls ≡ map line_text ms
texts_same ls ms h k e = sym (lines_text_of ls h) ∙ ap lines e ∙ lines_text_of ms k

-- line i is the same in both
pub record IsSameAt (ls ms : List Row) (i : ℕ) : Type 0 where
  pub text : text_at ls i ≡ text_at ms i
  pub end : end_at ls i ≡ end_at ms i

pub same_at : (ls ms : List Row) → AreLines ls → AreLines ms → text_of ls ≡ text_of ms → (i : ℕ) → i < length ls → IsSameAt ls ms i
same_at [] ms h k e i lt = absurd h
same_at (l ∷ []) [] h k e i lt = absurd k
same_at (l ∷ n ∷ ls) [] h k e i lt = absurd k
same_at (l ∷ []) (m ∷ []) h k e zero lt =
    let both = texts_same (l ∷ []) (m ∷ []) h k e in
    let text_is : line_text l ≡ line_text m = cc in
    record { text = text_is; end = h.1 ∙ sym k.1 }
same_at (l ∷ []) (m ∷ []) h k e (suc i) lt = absurd (omega (arith, lt))
same_at (l ∷ []) (m ∷ o ∷ ms) h k e i lt = absurd (omega (arith, length_same (l ∷ []) (m ∷ o ∷ ms) h k e))
same_at (l ∷ n ∷ ls) (m ∷ []) h k e i lt = absurd (omega (arith, length_same (l ∷ n ∷ ls) (m ∷ []) h k e))
same_at (l ∷ n ∷ ls) (m ∷ o ∷ ms) h k e i lt =
    let both = texts_same (l ∷ n ∷ ls) (m ∷ o ∷ ms) h k e in
    let text_is : line_text l ≡ line_text m = cc in
    let after : end_text l.end ++ text_of (n ∷ ls) ≡ end_text m.end ++ text_of (o ∷ ms) = append_cancel_left (line_text l) _ _ (e ∙ ap (λ x. x ++ (end_text m.end ++ text_of (o ∷ ms))) (sym text_is)) in
    let ends = ends_same l.end m.end (text_of (n ∷ ls)) (text_of (o ∷ ms)) h.1 k.1 after in
    at i lt text_is ends.ends (λ j below. same_at (n ∷ ls) (o ∷ ms) h.2 k.2 ends.rests j below)
  where
    at : (i : ℕ) → i < length (l ∷ n ∷ ls) → line_text l ≡ line_text m → l.end ≡ m.end → ((j : ℕ) → j < length (n ∷ ls) → IsSameAt (n ∷ ls) (o ∷ ms) j) → IsSameAt (l ∷ n ∷ ls) (m ∷ o ∷ ms) i
    at zero lt text_is end_is rest = record { text = text_is; end = end_is }
    at (suc j) lt text_is end_is rest =
        let there = rest j (omega (arith, lt)) in
        record { text = there.text; end = there.end }

-- ---- the same lines make the same text
pub text_same : (ls ms : List Row) → length ls ≡ length ms → ((i : ℕ) → i < length ls → IsSameAt ls ms i) → text_of ls ≡ text_of ms
text_same [] [] e same = refl
text_same [] (m ∷ ms) e same = absurd (omega (arith, e))
text_same (l ∷ ls) [] e same = absurd (omega (arith, e))
text_same (l ∷ ls) (m ∷ ms) e same =
    let first = same 0 (omega arith) in
    let rest = text_same ls ms (omega (arith, e)) (λ i lt. let there = same (suc i) (omega (arith, lt)) in record { text = there.text; end = there.end }) in
    λ i. first.text i ++ (end_text (first.end i) ++ rest i)

-- ---- the same lines at the front are the same
pub front_same : (n : ℕ) (ls ms : List Row) → IsSameFront ls ms n → (i : ℕ) → i < n → IsSameAt ls ms i
front_same zero ls ms front i lt = absurd (omega (arith, lt))
front_same (suc n) [] ms front i lt = absurd (omega (arith, front.ours))
front_same (suc n) (l ∷ ls) [] front i lt = absurd (omega (arith, front.theirs))
front_same (suc n) (l ∷ ls) (m ∷ ms) front zero lt =
    let first : l ≡ m = ap (λ rows. get_or rows 0 l) front.same in
    record { text = ap line_text first; end = ap (λ (r : Row). r.end) first }
front_same (suc n) (l ∷ ls) (m ∷ ms) front (suc i) lt =
    let rest = front_same n ls ms (record { ours = omega (arith, front.ours); theirs = omega (arith, front.theirs); same = ap (drop 1) front.same }) i (omega (arith, lt)) in
    record { text = rest.text; end = rest.end }

-- ---- lines found
module _ (xs ys : List Row) (i : ℕ) (x y : Row) (x_start y_start : ℕ) (x_at : IsLineAt xs i x x_start) (y_at : IsLineAt ys i y y_start) where
  pub same_held : x ≡ y → IsSameAt xs ys i
  same_held same = record {
    text = text_found xs i x x_at.in_range x_at.line_is ∙ ap line_text same ∙ sym (text_found ys i y y_at.in_range y_at.line_is);
    end = end_found xs i x x_at.in_range x_at.line_is ∙ ap (λ (r : Row). r.end) same ∙ sym (end_found ys i y y_at.in_range y_at.line_is);
  }

  pub held_same : IsSameAt xs ys i → x ≡ y
  held_same same =
      let texts : line_text x ≡ line_text y = sym (text_found xs i x x_at.in_range x_at.line_is) ∙ same.text ∙ text_found ys i y y_at.in_range y_at.line_is in
      let ends : x.end ≡ y.end = sym (end_found xs i x x_at.in_range x_at.line_is) ∙ same.end ∙ end_found ys i y y_at.in_range y_at.line_is in
      λ j. row (texts j) (ends j)
