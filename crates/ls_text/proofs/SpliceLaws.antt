-- Laws of lines of which a part is replaced.
use Rattle.std.proofs.Common.{◌≡◌, ℕ, zero, suc, ◌+◌, ◌-◌, ◌<◌, ◌≤◌, Bool, true, false, not, ◌&&◌, ◌||◌, List, [], ◌∷◌, ◌++◌, length, take, drop, refl, sym, ap, subst, ◌∙◌, arith, append_assoc, length-append, zero-add, take-append-drop, length-drop}
use Rattle.std.specs.Str.{chars, encode_utf8_all as encodes}
use Rattle.std.proofs.Math.Seq.{take-append_seam}
use Rattle.std.proofs.lemmas.List.{append-nil, take-append-le, drop-append-le}
use Rattle.std.proofs.lemmas.Str.{chars-append, encodes-append, IsUtf8-take}
use Rattle.std.proofs.lemmas.Bool.{not-true, both_ways}
use Rattle.ls_text.specs.Lines.{is_break, starts_with_lf, ends_with_cr}
use Rattle.ls_text.specs.Cut.{end_text, line_text, text_of, IsPlain, is_end_before, AreLines, AreLinesBefore, IsCut, IsCutOnto, IsPushedLine, start_of, text_at, end_at}
use Rattle.ls_text.specs.own.Spots.{bytes_at, IsSpot, front_of, back_of}
use Rattle.ls_text.specs.declared.line_end.LineEnd.{LineEnd}
use Rattle.ls_text.specs.declared.line_end.LineEnd.TheVariants.{Eof, Lf, Cr, CrLf}
use Rattle.ls_text.specs.Cut.{Row}
use Rattle.ls_text.specs.declared.edit.Spot.{Spot}
use Rattle.ls_text.proofs.LineLaws.{plain_parts}
use Rattle.ls_text.proofs.CutLaws.{lines_end}
use Rattle.ls_text.proofs.OffsetLaws.{take_past, drop_past, ends_with_cr_append}
use Rattle.ls_text.proofs.HeldLaws.{text_of_append, text_of_one}

-- ---- lines before a text
pub lines_split : (xs ys : List Row) → 0 < length ys → AreLines (xs ++ ys) → AreLinesBefore xs (text_of ys) × AreLines ys
lines_split xs [] lt h = absurd (omega (arith, lt))
lines_split [] (y ∷ ys) lt h = (tt, h)
lines_split (x ∷ []) (y ∷ ys) lt h = ((h.0, h.1, tt), h.2)
lines_split (x ∷ z ∷ xs) (y ∷ ys) lt h =
    let rest = lines_split (z ∷ xs) (y ∷ ys) lt h.2 in
    ((h.0, ap (is_end_before x.end) (sym (text_of_append (z ∷ xs) (y ∷ ys))) ∙ h.1, rest.0), rest.1)

pub lines_join : (xs ys : List Row) → AreLinesBefore xs (text_of ys) → AreLines ys → AreLines (xs ++ ys)
lines_join xs [] h k = absurd k
lines_join [] (y ∷ ys) h k = k
lines_join (x ∷ []) (y ∷ ys) h k = (h.0, h.1, k)
lines_join (x ∷ z ∷ xs) (y ∷ ys) h k = (h.0, ap (is_end_before x.end) (text_of_append (z ∷ xs) (y ∷ ys)) ∙ h.1, lines_join (z ∷ xs) (y ∷ ys) h.2 k)

-- a line end before a text sees only whether it begins with LF
end_same : (e : LineEnd) (s t : List ℕ) → starts_with_lf s ≡ starts_with_lf t → is_end_before e s ≡ true → is_end_before e t ≡ true
end_same Eof s t same h = h
end_same Lf s t same h = refl
end_same Cr s t same h = ap not (sym same) ∙ h
end_same CrLf s t same h = refl

lf_after : (p s t : List ℕ) → starts_with_lf s ≡ starts_with_lf t → starts_with_lf (p ++ s) ≡ starts_with_lf (p ++ t)
lf_after [] s t same = same
lf_after (c ∷ p) s t same = refl

pub before_same : (xs : List Row) (s t : List ℕ) → starts_with_lf s ≡ starts_with_lf t → AreLinesBefore xs s → AreLinesBefore xs t
before_same [] s t same h = tt
before_same (x ∷ xs) s t same h = (h.0, end_same x.end _ _ (lf_after (text_of xs) s t same) h.1, before_same xs s t same h.2)

end_some : (e : LineEnd) (t : List ℕ) → is_end_before e t ≡ true → 0 < length (end_text e)
end_some Eof t h = cc
end_some Lf t h = omega arith
end_some Cr t h = omega arith
end_some CrLf t h = omega arith

lf_front : (p s t : List ℕ) → 0 < length p → starts_with_lf (p ++ s) ≡ starts_with_lf (p ++ t)
lf_front [] s t lt = absurd (omega (arith, lt))
lf_front (c ∷ p) s t lt = refl

line_some_text : (l : Row) (ls : List Row) (t : List ℕ) → is_end_before l.end t ≡ true → 0 < length (text_of (l ∷ ls))
line_some_text l ls t h = omega (arith, end_some l.end t h, length-append (line_text l) (end_text l.end ++ text_of ls), length-append (end_text l.end) (text_of ls))

-- whole lines, before a text that the last of their line ends may stand before
last_end : (p : List ℕ) (e : LineEnd) (t : List ℕ) → is_end_before e [] ≡ true → (ends_with_cr (p ++ (end_text e ++ [])) && starts_with_lf t) ≡ false → is_end_before e t ≡ true
last_end p Eof t h seam = cc
last_end p Lf t h seam = refl
last_end p CrLf t h seam = refl
last_end p Cr t h seam = to_not (starts_with_lf t) (ap (λ b. b && starts_with_lf t) (sym (ends_with_cr_append p (13 ∷ []) (omega arith))) ∙ seam)
  where
    to_not : (b : Bool) → (true && b) ≡ false → not b ≡ true
    to_not false e = refl
    to_not true e = cc

pub before_more : (ls : List Row) (t : List ℕ) → AreLinesBefore ls [] → (ends_with_cr (text_of ls) && starts_with_lf t) ≡ false → AreLinesBefore ls t
before_more [] t h seam = tt
before_more (l ∷ []) t h seam = (h.0, last_end (line_text l) l.end t h.1 seam, tt)
before_more (l ∷ n ∷ ls) t h seam =
    let some = line_some_text n ls _ h.2.1 in
    let same : ends_with_cr (text_of (l ∷ n ∷ ls)) ≡ ends_with_cr (text_of (n ∷ ls)) = ends_with_cr_append (line_text l) (end_text l.end ++ text_of (n ∷ ls)) (omega (arith, some, length-append (end_text l.end) (text_of (n ∷ ls)))) ∙ ends_with_cr_append (end_text l.end) (text_of (n ∷ ls)) some in
    (h.0, end_same l.end _ _ (lf_front (text_of (n ∷ ls)) [] t some) h.1, before_more (n ∷ ls) t h.2 (ap (λ b. b && starts_with_lf t) (sym same) ∙ seam))

-- ---- the lines kept before the one before the edit
front_lf : (p e s t : List ℕ) → 0 < length e → starts_with_lf (p ++ (e ++ s)) ≡ starts_with_lf ((p ++ (e ++ [])) ++ t)
front_lf [] [] s t lt = absurd (omega (arith, lt))
front_lf [] (c ∷ e) s t lt = refl
front_lf (c ∷ p) e s t lt = refl

one_line_lf : (ds : List Row) → AreLines ds → 1 < length ds → (t : List ℕ) → starts_with_lf (text_of ds) ≡ starts_with_lf (text_of (take 1 ds) ++ t)
one_line_lf [] h lt t = absurd h
one_line_lf (l ∷ []) h lt t = absurd (omega (arith, lt))
one_line_lf (l ∷ n ∷ ls) h lt t = front_lf (line_text l) (end_text l.end) (text_of (n ∷ ls)) t (end_some l.end _ h.1)

pub kept_before : (ls : List Row) → AreLines ls → (m kept : ℕ) → m < length ls → kept ≡ m - 1 → (t : List ℕ) → AreLinesBefore (take kept ls) (text_of (take (m - kept) (drop kept ls)) ++ t)
kept_before ls h zero kept lt e t = subst (λ k. AreLinesBefore (take k ls) (text_of (take (0 - k) (drop k ls)) ++ t)) (sym (is_zero e)) tt
  where
    is_zero : kept ≡ 0 - 1 → kept ≡ 0
    is_zero e = omega (arith, e)
kept_before ls h (suc n) kept lt e t =
    let is : kept ≡ n = omega (arith, e) in
    let one : suc n - n ≡ 1 = omega arith in
    let whole = lines_split (take n ls) (drop n ls) (omega (arith, length-drop n ls, lt)) (subst AreLines (sym (take-append-drop n ls)) h) in
    let there : AreLinesBefore (take n ls) (text_of (take 1 (drop n ls)) ++ t) = before_same (take n ls) _ _ (one_line_lf (drop n ls) whole.1 (omega (arith, length-drop n ls, lt)) t) whole.0 in
    subst (λ k. AreLinesBefore (take k ls) (text_of (take (suc n - k) (drop k ls)) ++ t)) (sym is) (subst (λ k. AreLinesBefore (take n ls) (text_of (take k (drop n ls)) ++ t)) (sym one) there)

-- ---- the last character
abbrev final : List ℕ → ℕ
final [] = 0
final (c ∷ []) = c
final (c ∷ d ∷ t) = final (d ∷ t)

final_append : (x y : List ℕ) → 0 < length y → final (x ++ y) ≡ final y
final_append [] y lt = refl
final_append (c ∷ []) [] lt = absurd (omega (arith, lt))
final_append (c ∷ []) (d ∷ y) lt = refl
final_append (c ∷ d ∷ x) y lt = final_append (d ∷ x) y lt

or_left : (a b : Bool) → (a || b) ≡ false → a ≡ false
or_left false b e = refl
or_left true b e = cc

final_plain : (c : ℕ) (t : List ℕ) → IsPlain (c ∷ t) → is_break (final (c ∷ t)) ≡ false
final_plain c [] h = or_left (is_break c) false h
final_plain c (d ∷ t) h = final_plain d t (plain_parts c (d ∷ t) (d ∷ t) h).2

final_end : (e : LineEnd) → 0 < length (end_text e) → is_break (final (end_text e)) ≡ true
final_end Eof lt = absurd (omega (arith, lt))
final_end Lf lt = refl
final_end Cr lt = refl
final_end CrLf lt = refl

-- a plain rest of a text that ends with a line end is empty
pub rest_empty : (x p r : List ℕ) (e : LineEnd) → 0 < length (end_text e) → x ++ r ≡ p ++ end_text e → IsPlain r → r ≡ []
rest_empty x p [] e some same h = refl
rest_empty x p (c ∷ r) e some same h =
    absurd (both_ways (is_break (final (c ∷ r))) (final_plain c r h) (ap is_break (sym (final_append x (c ∷ r) (omega arith)) ∙ ap final same ∙ final_append p (end_text e) some) ∙ final_end e some))

-- ---- the text before and after a place in a line
pub take_at : (ls : List Row) (m k : ℕ) → m < length ls → k ≤ length (text_at ls m) → take (start_of ls m + k) (text_of ls) ≡ text_of (take m ls) ++ take k (text_at ls m)
take_at [] m k lt le = absurd (omega (arith, lt))
take_at (l ∷ ls) zero k lt le = ap (λ x. take x (text_of (l ∷ ls))) (zero-add k) ∙ take-append-le k (line_text l) (end_text l.end ++ text_of ls) le
take_at (l ∷ ls) (suc m) k lt le =
    let sum : start_of (l ∷ ls) (suc m) + k ≡ length (line_text l) + (length (end_text l.end) + (start_of ls m + k)) = omega arith in
    ap (λ x. take x (text_of (l ∷ ls))) sum ∙ take_past (line_text l) (end_text l.end) (text_of ls) (start_of ls m + k)
    ∙ ap (λ x. line_text l ++ (end_text l.end ++ x)) (take_at ls m k (omega (arith, lt)) le)
    ∙ ap (λ x. line_text l ++ x) (sym (append_assoc (end_text l.end) (text_of (take m ls)) (take k (text_at ls m))))
    ∙ sym (append_assoc (line_text l) (end_text l.end ++ text_of (take m ls)) (take k (text_at ls m)))

pub drop_at : (ls : List Row) (m k : ℕ) → m < length ls → k ≤ length (text_at ls m) → drop (start_of ls m + k) (text_of ls) ≡ drop k (text_at ls m) ++ (end_text (end_at ls m) ++ text_of (drop (suc m) ls))
drop_at [] m k lt le = absurd (omega (arith, lt))
drop_at (l ∷ ls) zero k lt le = ap (λ x. drop x (text_of (l ∷ ls))) (zero-add k) ∙ drop-append-le k (line_text l) (end_text l.end ++ text_of ls) le
drop_at (l ∷ ls) (suc m) k lt le =
    let sum : start_of (l ∷ ls) (suc m) + k ≡ length (line_text l) + (length (end_text l.end) + (start_of ls m + k)) = omega arith in
    ap (λ x. drop x (text_of (l ∷ ls))) sum ∙ drop_past (line_text l) (end_text l.end) (text_of ls) (start_of ls m + k) ∙ drop_at ls m k (omega (arith, lt)) le

module _ (ls : List Row) (s : Spot) (spot : IsSpot ls s) where
  pub spot_text : text_at ls s.line ≡ front_of ls s ++ back_of ls s
  spot_text =
      sym spot.characters ∙ ap chars (sym (take-append-drop s.bytes (bytes_at ls s.line)))
      ∙ chars-append (take s.bytes (bytes_at ls s.line)) (drop s.bytes (bytes_at ls s.line)) (IsUtf8-take (bytes_at ls s.line) s.bytes spot.utf8 spot.boundary)

  front_le : length (front_of ls s) ≤ length (text_at ls s.line)
  front_le = omega (arith, ap length spot_text, length-append (front_of ls s) (back_of ls s))

  pub take_spot : take s.offset (text_of ls) ≡ text_of (take s.line ls) ++ front_of ls s
  take_spot = ap (λ o. take o (text_of ls)) spot.offset_is ∙ take_at ls s.line (length (front_of ls s)) spot.line_in_range front_le ∙ ap (λ x. text_of (take s.line ls) ++ x) (ap (take (length (front_of ls s))) spot_text ∙ take-append_seam (front_of ls s) (back_of ls s))

  pub drop_spot : drop s.offset (text_of ls) ≡ back_of ls s ++ (end_text (end_at ls s.line) ++ text_of (drop (suc s.line) ls))
  drop_spot = ap (λ o. drop o (text_of ls)) spot.offset_is ∙ drop_at ls s.line (length (front_of ls s)) spot.line_in_range front_le ∙ ap (λ x. x ++ (end_text (end_at ls s.line) ++ text_of (drop (suc s.line) ls))) (ap (drop (length (front_of ls s))) spot_text ∙ drop_seam (front_of ls s) (back_of ls s))
    where
      drop_seam : (x y : List ℕ) → drop (length x) (x ++ y) ≡ y
      drop_seam [] y = refl
      drop_seam (c ∷ x) y = drop_seam x y

-- ---- the end of a line, and what follows it
pub end_last : (ls : List Row) → AreLines ls → (m : ℕ) → m < length ls → end_at ls m ≡ Eof → drop (suc m) ls ≡ []
end_last [] h m lt e = absurd h
end_last (l ∷ []) h zero lt e = refl
end_last (l ∷ []) h (suc m) lt e = absurd (omega (arith, lt))
end_last (l ∷ n ∷ ls) h zero lt e = absurd (no_eof l.end _ e h.1)
  where
    no_eof : (e : LineEnd) (t : List ℕ) → e ≡ Eof → is_end_before e t ≡ true → ⊥
    no_eof e t is h = cc_eof (ap (λ x. is_end_before x t) (sym is) ∙ h)
      where
        cc_eof : false ≡ true → ⊥
        cc_eof k = cc
end_last (l ∷ n ∷ ls) h (suc m) lt e = end_last (n ∷ ls) h.2 m (omega (arith, lt)) e

pub end_inner : (ls : List Row) → AreLines ls → (m : ℕ) → m < length ls → (end_at ls m ≡ Eof → ⊥) → (is_end_before (end_at ls m) (text_of (drop (suc m) ls)) ≡ true) × AreLines (drop (suc m) ls)
end_inner [] h m lt ne = absurd h
end_inner (l ∷ []) h zero lt ne = absurd (ne h.1)
end_inner (l ∷ []) h (suc m) lt ne = absurd (omega (arith, lt))
end_inner (l ∷ n ∷ ls) h zero lt ne = (h.1, h.2)
end_inner (l ∷ n ∷ ls) h (suc m) lt ne = end_inner (n ∷ ls) h.2 m (omega (arith, lt)) ne

-- ---- the lines of a text with a part replaced
seam_of : (p : List ℕ) (e : LineEnd) (t : List ℕ) → is_end_before e t ≡ true → (ends_with_cr (p ++ end_text e) && starts_with_lf t) ≡ false
seam_of p Eof t k = cc
seam_of p Lf t k = rw (ends_with_cr_append p (10 ∷ []) (omega arith)) refl
seam_of p Cr t k = rw (ends_with_cr_append p (13 ∷ []) (omega arith)) (not-true (starts_with_lf t) k)
seam_of p CrLf t k = rw (ends_with_cr_append p (13 ∷ 10 ∷ []) (omega arith)) refl

front_join : (ls : List Row) (m kept : ℕ) → kept ≤ m → text_of (take kept ls) ++ text_of (take (m - kept) (drop kept ls)) ≡ text_of (take m ls)
front_join ls m kept le = sym (text_of_append (take kept ls) (take (m - kept) (drop kept ls))) ∙ ap text_of (take_join ls m kept le)
  where
    take_join : (xs : List Row) (m k : ℕ) → k ≤ m → take k xs ++ take (m - k) (drop k xs) ≡ take m xs
    take_join xs m zero le = ap (λ n. take n xs) (none m)
      where
        none : (m : ℕ) → m - 0 ≡ m
        none m = omega arith
    take_join [] m (suc k) le = nil (m - suc k) ∙ sym (nil m)
      where
        nil : (n : ℕ) → ◌≡◌ {A = List Row} (take n []) []
        nil zero = refl
        nil (suc n) = refl
    take_join (x ∷ xs) zero (suc k) le = absurd (omega (arith, le))
    take_join (x ∷ xs) (suc m) (suc k) le = ap (λ n. x ∷ (take k xs ++ take n (drop k xs))) (less m k) ∙ ap (λ z. x ∷ z) (take_join xs m k (omega (arith, le)))
      where
        less : (m k : ℕ) → suc m - suc k ≡ m - k
        less m k = omega arith

-- the text that is cut anew, and the one that is wanted
abbrev pub middle_text : List Row → ℕ → Spot → Spot → List ℕ → List ℕ
middle_text ls kept from to new = text_of (take (from.line - kept) (drop kept ls)) ++ (front_of ls from ++ (new ++ (back_of ls to ++ end_text (end_at ls to.line))))

abbrev pub wanted_text : List Row → Spot → Spot → List ℕ → List ℕ
wanted_text ls from to new = take from.offset (text_of ls) ++ (new ++ drop to.offset (text_of ls))

regroup : (a b f n k e c : List ℕ) → a ++ ((b ++ (f ++ (n ++ (k ++ e)))) ++ c) ≡ ((a ++ b) ++ f) ++ (n ++ (k ++ (e ++ c)))
regroup a b f n k e c = simp append_assoc refl

regroup_end : (b f n k e : List ℕ) → b ++ (f ++ (n ++ (k ++ e))) ≡ (b ++ (f ++ (n ++ k))) ++ e
regroup_end b f n k e = simp append_assoc refl

module _ (ls : List Row) (h : AreLines ls) (from to : Spot) (at_from : IsSpot ls from) (at_to : IsSpot ls to) (kept : ℕ) (kept_is : kept ≡ from.line - 1) (new : List ℕ) where
  whole_text : text_of (take kept ls) ++ (middle_text ls kept from to new ++ text_of (drop (suc to.line) ls)) ≡ wanted_text ls from to new
  whole_text =
      regroup (text_of (take kept ls)) (text_of (take (from.line - kept) (drop kept ls))) (front_of ls from) new (back_of ls to) (end_text (end_at ls to.line)) (text_of (drop (suc to.line) ls))
      ∙ ap (λ x. (x ++ front_of ls from) ++ (new ++ (back_of ls to ++ (end_text (end_at ls to.line) ++ text_of (drop (suc to.line) ls))))) (front_join ls from.line kept (omega (arith, kept_is)))
      ∙ (λ i. sym (take_spot ls from at_from) i ++ (new ++ sym (drop_spot ls to at_to) i))

  before_all : (t : List ℕ) → AreLinesBefore (take kept ls) (middle_text ls kept from to new ++ t)
  before_all t = subst (AreLinesBefore (take kept ls)) (sym (append_assoc (text_of (take (from.line - kept) (drop kept ls))) (front_of ls from ++ (new ++ (back_of ls to ++ end_text (end_at ls to.line)))) t)) (kept_before ls h from.line kept at_from.line_in_range kept_is ((front_of ls from ++ (new ++ (back_of ls to ++ end_text (end_at ls to.line)))) ++ t))

  spliced_any : (ms : List Row) → AreLines ms → text_of ms ≡ middle_text ls kept from to new ++ text_of (drop (suc to.line) ls) → IsCut (wanted_text ls from to new) (take kept ls ++ ms)
  spliced_any ms lines text = (
    lines_join (take kept ls) ms (subst (AreLinesBefore (take kept ls)) (sym text) (before_all (text_of (drop (suc to.line) ls)))) lines,
    text_of_append (take kept ls) ms ∙ ap (λ x. text_of (take kept ls) ++ x) text ∙ whole_text,
  )

  pub spliced_last : (ms : List Row) (l : Row) → text_of ms ++ line_text l ≡ middle_text ls kept from to new → AreLinesBefore ms (line_text l) → IsPlain (line_text l) → l.end ≡ Eof → end_at ls to.line ≡ Eof → IsCut (wanted_text ls from to new) (take kept ls ++ (ms ++ l ∷ []))
  spliced_last ms l joins before plain eof last =
      spliced_any (ms ++ l ∷ []) (lines_end ms l before plain eof)
      (text_of_one ms l ∙ ap (λ x. text_of ms ++ (line_text l ++ end_text x)) eof ∙ ap (λ x. text_of ms ++ x) (append-nil (line_text l)) ∙ joins ∙ sym (append-nil (middle_text ls kept from to new)) ∙ ap (λ x. middle_text ls kept from to new ++ text_of x) (sym (end_last ls h to.line at_to.line_in_range last)))

  pub spliced_inner : (ms : List Row) (r : List ℕ) → text_of ms ++ r ≡ middle_text ls kept from to new → AreLinesBefore ms r → IsPlain r → (end_at ls to.line ≡ Eof → ⊥) → IsCut (wanted_text ls from to new) (take kept ls ++ (ms ++ drop (suc to.line) ls))
  spliced_inner ms r joins before plain inner =
      let next = end_inner ls h to.line at_to.line_in_range inner in
      let front = text_of (take (from.line - kept) (drop kept ls)) ++ (front_of ls from ++ (new ++ back_of ls to)) in
      let whole : text_of ms ++ r ≡ (text_of (take (from.line - kept) (drop kept ls)) ++ (front_of ls from ++ (new ++ back_of ls to))) ++ end_text (end_at ls to.line) = joins ∙ regroup_end (text_of (take (from.line - kept) (drop kept ls))) (front_of ls from) new (back_of ls to) (end_text (end_at ls to.line)) in
      let none : r ≡ [] = rest_empty (text_of ms) (text_of (take (from.line - kept) (drop kept ls)) ++ (front_of ls from ++ (new ++ back_of ls to))) r (end_at ls to.line) (end_some (end_at ls to.line) _ next.0) whole plain in
      let all : text_of ms ≡ text_of ms ++ r = sym (append-nil (text_of ms)) ∙ ap (λ x. text_of ms ++ x) (sym none) in
      let seam : (ends_with_cr (text_of ms) && starts_with_lf (text_of (drop (suc to.line) ls))) ≡ false = ap (λ x. ends_with_cr x && starts_with_lf (text_of (drop (suc to.line) ls))) (all ∙ whole) ∙ seam_of (text_of (take (from.line - kept) (drop kept ls)) ++ (front_of ls from ++ (new ++ back_of ls to))) (end_at ls to.line) (text_of (drop (suc to.line) ls)) next.0 in
      spliced_any (ms ++ drop (suc to.line) ls)
      (lines_join ms (drop (suc to.line) ls) (before_more ms (text_of (drop (suc to.line) ls)) (subst (AreLinesBefore ms) none before) seam) next.1)
      (text_of_append ms (drop (suc to.line) ls) ∙ ap (λ x. x ++ text_of (drop (suc to.line) ls)) (all ∙ joins))

  -- the text that is cut anew is a part of the one that is wanted
  pub middle_bytes : length (encodes (middle_text ls kept from to new)) ≤ length (encodes (wanted_text ls from to new))
  middle_bytes =
      omega (arith, ap (λ z. length (encodes z)) whole_text, ap length (encodes-append (text_of (take kept ls)) (middle_text ls kept from to new ++ text_of (drop (suc to.line) ls))), length-append (encodes (text_of (take kept ls))) (encodes (middle_text ls kept from to new ++ text_of (drop (suc to.line) ls))), ap length (encodes-append (middle_text ls kept from to new) (text_of (drop (suc to.line) ls))), length-append (encodes (middle_text ls kept from to new)) (encodes (text_of (drop (suc to.line) ls))))

  -- ---- what `spliced` makes of what it pushes
  module _ {text rest : List ℕ} {now : List Row} (cut : IsCutOnto [] text rest now) (plain : IsPlain (chars rest)) (text_is : chars text ≡ middle_text ls kept from to new) where
    pub spliced_eof : {next : List Row} → IsPushedLine now rest Eof next → end_at ls to.line ≡ Eof → IsCut (wanted_text ls from to new) (take kept ls ++ (next ++ drop (to.line + 1) ls))
    spliced_eof {next} pushed last =
        let rest_is : line_text pushed.line ≡ chars rest = pushed.text_is in
        let after : to.line + 1 ≡ suc to.line = omega arith in
        let next_is : next ++ drop (to.line + 1) ls ≡ cut.cut ++ pushed.line ∷ [] = (λ i. (pushed.joins ∙ ap (λ x. x ++ pushed.line ∷ []) cut.joins) i ++ (ap (λ k. drop k ls) after ∙ end_last ls h to.line at_to.line_in_range last) i) ∙ append-nil (cut.cut ++ pushed.line ∷ []) in
        subst (λ z. IsCut (wanted_text ls from to new) (take kept ls ++ z)) (sym next_is) (spliced_last cut.cut pushed.line (ap (λ x. text_of cut.cut ++ x) rest_is ∙ cut.so_far.joins ∙ text_is) (subst (AreLinesBefore cut.cut) (sym rest_is) cut.so_far.before) (subst IsPlain (sym rest_is) plain) pushed.end_is last)

    pub spliced_rest : (end_at ls to.line ≡ Eof → ⊥) → IsCut (wanted_text ls from to new) (take kept ls ++ (now ++ drop (to.line + 1) ls))
    spliced_rest inner =
        let after : to.line + 1 ≡ suc to.line = omega arith in
        let now_is : now ++ drop (to.line + 1) ls ≡ cut.cut ++ drop (suc to.line) ls = λ i. cut.joins i ++ drop (after i) ls in
        subst (λ z. IsCut (wanted_text ls from to new) (take kept ls ++ z)) (sym now_is) (spliced_inner cut.cut (chars rest) (cut.so_far.joins ∙ text_is) cut.so_far.before plain inner)
