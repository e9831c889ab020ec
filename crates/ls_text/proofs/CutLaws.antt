-- Laws of a text cut into lines.
use Rattle.std.proofs.Common.{◌≡◌, ℕ, zero, suc, ◌+◌, ◌<◌, ◌≤◌, Bool, true, false, not, cond, ◌||◌, eqb, List, [], ◌∷◌, ◌++◌, length, take, drop, get_or, refl, sym, ap, subst, ◌∙◌, ◌⊎◌, inl, inr, ⊎_elim, arith, append_assoc, length-append, map, take-append-drop, get_or-drop, add-zero, length-drop}
use Rattle.std.specs.List.{list_any, slice_get}
use Rattle.std.specs.Option.{option_map}
use Rattle.std.specs.Prelude.{Option, Some, None}
use Rattle.std.proofs.lemmas.Option.{slice_get-map, slice_get_past, slice_get-get_or}
use Rattle.std.specs.Str.{chars, IsUtf8, IsCharBoundary}
use Rattle.std.specs.Char.{encode_utf8 as encode}
use Rattle.std.specs.Str.{encode_utf8_all as encodes}
use Rattle.std.proofs.lemmas.List.{append-nil, length-map}
use Rattle.std.proofs.lemmas.List.Folds.{list_any-append}
use Rattle.std.proofs.lemmas.Bool.{cases_lt, not-true}
use Rattle.std.proofs.lemmas.Bool.Decides.{nat_tests}
use Rattle.std.proofs.lemmas.Str.{encodes-append, encodes-chars, chars-append, chars_from_encodes, encode_ascii, byte_from_char, char_from_byte, IsUtf8-drop, IsUtf8-take, IsCharBoundary-after_ascii, IsCharBoundary-before_ascii, IsCharBoundary-end, IsCharBoundary-start, length-encode, len_utf8_bounds}
use Rattle.ls_text.specs.Lines.{is_break, starts_with_lf, line_ends, lines}
use Rattle.ls_text.specs.Cut.{end_text, line_text, text_of, IsPlain, is_end_before, AreLines, AreLinesBefore, IsCutSoFar, IsCutOnto, IsCut, first_end, IsCutFrom, IsPushedLine}
use Rattle.ls_text.specs.declared.line_end.LineEnd.{LineEnd}
use Rattle.ls_text.specs.declared.line_end.LineEnd.TheVariants.{Eof, Lf, Cr, CrLf}
use Rattle.ls_text.specs.Cut.{Row}
use Rattle.ls_text.proofs.LineLaws.{lines_plain, lines_plain_append, length_lines}

-- the lines of a plain line, its line end and a rest
pub lines_end_holds : (e : LineEnd) (t : List ℕ) → is_end_before e t ≡ true → lines (end_text e ++ t) ≡ [] ∷ lines t
unfolding lines
lines_end_holds Eof t h = cc
lines_end_holds Lf t h = refl
lines_end_holds Cr t h = rw (not-true (starts_with_lf t) h) refl
lines_end_holds CrLf t h = refl

pub lines_cut : (p : List ℕ) (e : LineEnd) (t : List ℕ) → IsPlain p → is_end_before e t ≡ true → lines (p ++ (end_text e ++ t)) ≡ p ∷ lines t
lines_cut p e t h k = lines_plain_append p (end_text e ++ t) [] (lines t) h (lines_end_holds e t k) ∙ ap (λ q. q ∷ lines t) (append-nil p)

-- the lines of the text are the lines held
pub lines_text_of : (ls : List Row) → AreLines ls → lines (text_of ls) ≡ map line_text ls
lines_text_of [] h = absurd h
lines_text_of (l ∷ []) h = ap (λ e. lines (line_text l ++ (end_text e ++ []))) h.1 ∙ ap lines (append-nil (line_text l)) ∙ lines_plain (line_text l) h.0
lines_text_of (l ∷ m ∷ ls) h = lines_cut (line_text l) l.end (text_of (m ∷ ls)) h.0 h.1 ∙ ap (λ r. line_text l ∷ r) (lines_text_of (m ∷ ls) h.2)

pub line_ends_text_of : (ls : List Row) → AreLines ls → line_ends (text_of ls) + 1 ≡ length ls
line_ends_text_of ls h = sym (length_lines (text_of ls)) ∙ ap length (lines_text_of ls h) ∙ length-map ls line_text

-- the first of these bytes that is LF or CR shows the text's line
pub plain_below : (bs : List ℕ) (n : ℕ) → ((k : ℕ) → k < n → is_break (get_or bs k 0) ≡ false) → list_any is_break (take n bs) ≡ false
plain_below [] n h = plain_nil n
  where
    plain_nil : (n : ℕ) → list_any is_break (take n []) ≡ false
    plain_nil zero = refl
    plain_nil (suc n) = refl
plain_below (b ∷ bs) zero h = refl
plain_below (b ∷ bs) (suc n) h = rw (h 0 (omega arith), plain_below bs n (λ k lt. h (suc k) (omega (arith, lt)))) refl

-- what `first_end` finds
pub record IsEndOf (bs : List ℕ) (e : LineEnd) : Type 0 where
  pub joins : bs ≡ end_text e ++ drop (length (end_text e)) bs
  pub boundary : IsCharBoundary bs (length (end_text e))
  pub rest_utf8 : IsUtf8 (drop (length (end_text e)) bs)
  pub ends : (e ≡ Eof × drop (length (end_text e)) bs ≡ []) ⊎ (is_end_before e (drop (length (end_text e)) bs) ≡ true)

or_right : (a b : Bool) → a ≡ false → (a || b) ≡ true → b ≡ true
or_right false b p q = q
or_right true b p q = cc

-- an ASCII byte in front may be cut off
after_first : (b : ℕ) (bs : List ℕ) → IsUtf8 (b ∷ bs) → b < 128 → IsCharBoundary (b ∷ bs) 1 × IsUtf8 bs
after_first b bs u low =
    let at = IsCharBoundary-after_ascii (b ∷ bs) 0 u (omega arith) low in
    (at, IsUtf8-drop (b ∷ bs) 1 u at)

eq_from : (a b : ℕ) → eqb a b ≡ true → a ≡ b
eq_from a b e = grind (arith, nat_tests)

pub end_is : (bs : List ℕ) → IsUtf8 bs → (0 < length bs → is_break (get_or bs 0 0) ≡ true) → IsEndOf bs (first_end bs)
end_is [] u h = record { joins = refl; boundary = IsCharBoundary-start [] u; rest_utf8 = u; ends = inl (refl, refl) }
end_is (b ∷ []) u h = by_test (eqb b 10) refl
  where
    by_test : (x : Bool) → eqb b 10 ≡ x → IsEndOf (b ∷ []) (cond x Lf Cr)
    by_test true e =
        let is : b ≡ 10 = eq_from b 10 e in
        let cut = after_first b [] u (omega arith) in
        record { joins = ap (λ x. x ∷ []) is; boundary = cut.0; rest_utf8 = cut.1; ends = inr refl }
    by_test false e =
        let is : b ≡ 13 = eq_from b 13 (or_right (eqb b 10) (eqb b 13) e (h (omega arith))) in
        let cut = after_first b [] u (omega arith) in
        record { joins = ap (λ x. x ∷ []) is; boundary = cut.0; rest_utf8 = cut.1; ends = inr refl }
end_is (b ∷ c ∷ bs) u h = by_tests (eqb b 10) (eqb c 10) refl refl
  where
    by_tests : (x y : Bool) → eqb b 10 ≡ x → eqb c 10 ≡ y → IsEndOf (b ∷ c ∷ bs) (cond x Lf (cond y CrLf Cr))
    by_tests true y e f =
        let is : b ≡ 10 = eq_from b 10 e in
        let cut = after_first b (c ∷ bs) u (omega arith) in
        record { joins = ap (λ x. x ∷ c ∷ bs) is; boundary = cut.0; rest_utf8 = cut.1; ends = inr refl }
    by_tests false true e f =
        let is : b ≡ 13 = eq_from b 13 (or_right (eqb b 10) (eqb b 13) e (h (omega arith))) in
        let is_lf : c ≡ 10 = eq_from c 10 f in
        let cut = after_first b (c ∷ bs) u (omega arith) in
        let at = IsCharBoundary-after_ascii (b ∷ c ∷ bs) 1 u (omega arith) (omega arith) in
        record { joins = (λ i. is i ∷ is_lf i ∷ bs); boundary = at; rest_utf8 = IsUtf8-drop (b ∷ c ∷ bs) 2 u at; ends = inr refl }
    by_tests false false e f =
        let is : b ≡ 13 = eq_from b 13 (or_right (eqb b 10) (eqb b 13) e (h (omega arith))) in
        let cut = after_first b (c ∷ bs) u (omega arith) in
        record { joins = ap (λ x. x ∷ c ∷ bs) is; boundary = cut.0; rest_utf8 = cut.1; ends = inr (rw f refl) }

-- the first line of a text, by the place of its first LF or CR
pub first_line_is : (bs : List ℕ) (n : ℕ) → IsUtf8 bs → n ≤ length bs → ((k : ℕ) → k < n → is_break (get_or bs k 0) ≡ false) → (n < length bs → is_break (get_or bs n 0) ≡ true) → IsCharBoundary bs n
first_line_is bs n u le before found =
    ⊎_elim (λ lt. IsCharBoundary-before_ascii bs n lt (break_ascii (get_or bs n 0) (found lt))) (λ ge. let e : n ≡ length bs = omega arith in subst (IsCharBoundary bs) (sym e) (IsCharBoundary-end bs)) (cases_lt n (length bs))
  where
    break_ascii : (c : ℕ) → is_break c ≡ true → c < 128
    break_ascii c e = grind (arith, nat_tests)

pub end_after : (bs : List ℕ) (n : ℕ) → IsUtf8 bs → IsCharBoundary bs n → (n < length bs → is_break (get_or bs n 0) ≡ true) → IsEndOf (drop n bs) (first_end (drop n bs))
end_after bs n u at found =
    end_is (drop n bs) (IsUtf8-drop bs n u at) (λ lt. rw (get_or-drop n bs 0 0, add-zero n) (found (omega (arith, length-drop n bs, lt))))

-- ---- bytes and characters
is_break_high : (c : ℕ) → 128 ≤ c → is_break c ≡ false
is_break_high c h = grind (arith, nat_tests)

or_both : (a b : Bool) → (a || b) ≡ false → (a ≡ false) × (b ≡ false)
or_both false b e = (refl, e)
or_both true b e = cc

plain_encode : (c : ℕ) → list_any is_break (encode c) ≡ false → is_break c ≡ false
plain_encode c h =
    ⊎_elim (λ low. (or_both (is_break c) false (sym (ap (list_any is_break) (encode_ascii c low)) ∙ h)).0) (λ high. is_break_high c high) (cases_lt c 128)

plain_encodes : (cs : List ℕ) → list_any is_break (encodes cs) ≡ false → list_any is_break cs ≡ false
plain_encodes [] h = refl
plain_encodes (c ∷ cs) h =
    let parts = or_both (list_any is_break (encode c)) (list_any is_break (encodes cs)) (sym (list_any-append is_break (encode c) (encodes cs)) ∙ h) in
    rw (plain_encode c parts.0, plain_encodes cs parts.1) refl

-- a plain text is plain by its characters
pub plain_chars : (bs : List ℕ) → IsUtf8 bs → IsPlain bs → IsPlain (chars bs)
plain_chars bs u h =
    subst IsPlain (chars_from_encodes u.0 bs u u.1.1) (plain_encodes u.0 (ap (list_any is_break) (u.1.1) ∙ h))

-- a text begins with LF where its bytes do
lf_same : (cs bs : List ℕ) → encodes cs ≡ bs → starts_with_lf cs ≡ starts_with_lf bs
lf_same [] bs e = ap starts_with_lf e
lf_same (c ∷ cs) bs e =
    ⊎_elim (λ low. ap (λ x. eqb x 10) (sym (byte_from_char bs (encodes cs) c (sym e) low))) (λ high. high_case high (cases_lt (get_or bs 0 0) 128)) (cases_lt c 128)
  where
    long : 0 < length bs
    long = omega (arith, ap length e, length-append (encode c) (encodes cs), length-encode c, len_utf8_bounds c)

    neither : (a b : ℕ) → 128 ≤ a → 128 ≤ b → eqb a 10 ≡ eqb b 10
    neither a b h k = grind (arith, nat_tests)

    high_case : 128 ≤ c → (get_or bs 0 0 < 128) ⊎ (128 ≤ get_or bs 0 0) → eqb c 10 ≡ eqb (get_or bs 0 0) 10
    high_case h (inl low) = absurd (omega (arith, char_from_byte bs (encodes cs) c (sym e) low long, h, low))
    high_case h (inr also) = neither c (get_or bs 0 0) h also

pub starts_with_lf_chars : (bs : List ℕ) → IsUtf8 bs → starts_with_lf (chars bs) ≡ starts_with_lf bs
starts_with_lf_chars bs u = subst (λ cs. starts_with_lf cs ≡ starts_with_lf bs) (chars_from_encodes u.0 bs u u.1.1) (lf_same u.0 bs u.1.1)

pub is_end_before_chars : (e : LineEnd) (bs : List ℕ) → IsUtf8 bs → is_end_before e bs ≡ true → is_end_before e (chars bs) ≡ true
is_end_before_chars Eof bs u h = cc
is_end_before_chars Lf bs u h = refl
is_end_before_chars Cr bs u h = ap not (starts_with_lf_chars bs u) ∙ h
is_end_before_chars CrLf bs u h = refl

-- the characters of a line, its end and a rest
pub end_utf8 : (e : LineEnd) → IsUtf8 (end_text e)
unfolding encode
end_utf8 Eof = ([], (refl, refl))
end_utf8 Lf = (10 ∷ [], (refl, refl))
end_utf8 Cr = (13 ∷ [], (refl, refl))
end_utf8 CrLf = (13 ∷ 10 ∷ [], (refl, refl))

pub chars_end : (e : LineEnd) → chars (end_text e) ≡ end_text e
unfolding chars
chars_end Eof = refl
chars_end Lf = refl
chars_end Cr = refl
chars_end CrLf = refl

pub chars_cut : (bs : List ℕ) (e : LineEnd) (rest : List ℕ) → IsUtf8 bs → chars (bs ++ (end_text e ++ rest)) ≡ chars bs ++ (end_text e ++ chars rest)
chars_cut bs e rest u = chars-append bs (end_text e ++ rest) u ∙ ap (λ r. chars bs ++ r) (chars-append (end_text e) rest (end_utf8 e) ∙ ap (λ x. x ++ chars rest) (chars_end e))

-- ---- the loop: these lines come before the rest t of the text
pub text_of_push : (ls : List Row) (l : Row) (t : List ℕ) → text_of (ls ++ l ∷ []) ++ t ≡ text_of ls ++ (line_text l ++ (end_text l.end ++ t))
text_of_push [] l t = append_assoc (line_text l) (end_text l.end ++ []) t ∙ ap (λ x. line_text l ++ x) (append_assoc (end_text l.end) [] t)
text_of_push (m ∷ ls) l t =
    append_assoc (line_text m) (end_text m.end ++ text_of (ls ++ l ∷ [])) t
    ∙ ap (λ x. line_text m ++ x) (append_assoc (end_text m.end) (text_of (ls ++ l ∷ [])) t ∙ ap (λ x. end_text m.end ++ x) (text_of_push ls l t) ∙ sym (append_assoc (end_text m.end) (text_of ls) (line_text l ++ (end_text l.end ++ t))))
    ∙ sym (append_assoc (line_text m) (end_text m.end ++ text_of ls) (line_text l ++ (end_text l.end ++ t)))

pub lines_before_push : (ls : List Row) (l : Row) (t : List ℕ) → AreLinesBefore ls (line_text l ++ (end_text l.end ++ t)) → IsPlain (line_text l) → is_end_before l.end t ≡ true → AreLinesBefore (ls ++ l ∷ []) t
lines_before_push [] l t h p e = (p, e, tt)
lines_before_push (m ∷ ls) l t h p e = (h.0, ap (is_end_before m.end) (text_of_push ls l t) ∙ h.1, lines_before_push ls l t h.2 p e)

pub lines_end : (ls : List Row) (l : Row) → AreLinesBefore ls (line_text l) → IsPlain (line_text l) → l.end ≡ Eof → AreLines (ls ++ l ∷ [])
lines_end [] l h p e = (p, e)
lines_end (m ∷ []) l h p e =
    (h.0, ap (is_end_before m.end) (ap (λ x. line_text l ++ (end_text x ++ [])) e ∙ append-nil (line_text l)) ∙ h.1, (p, e))
lines_end (m ∷ n ∷ ls) l h p e =
    (h.0, ap (is_end_before m.end) (whole (n ∷ ls)) ∙ h.1, lines_end (n ∷ ls) l h.2 p e)
  where
    whole : (ks : List Row) → text_of (ks ++ l ∷ []) ≡ text_of ks ++ line_text l
    whole ks = sym (append-nil (text_of (ks ++ l ∷ []))) ∙ text_of_push ks l [] ∙ ap (λ x. text_of ks ++ (line_text l ++ (end_text x ++ []))) e ∙ ap (λ x. text_of ks ++ x) (append-nil (line_text l))

pub cut_start : (text : List ℕ) → IsUtf8 text → IsCutSoFar text [] text
cut_start text u = record { joins = refl; before = tt; utf8 = u }

module _ {text rest : List ℕ} {ls : List Row} {line after : List ℕ} {end : LineEnd} (l : Row) (so_far : IsCutSoFar text ls rest) (cut : IsCutFrom line end after rest) (text_is : line_text l ≡ chars line) (end_is : l.end ≡ end) where
  rest_is : chars rest ≡ line_text l ++ (end_text l.end ++ chars after)
  rest_is = ap chars cut.joins ∙ chars_cut line end after cut.line_utf8 ∙ (λ i. sym text_is i ++ (end_text (sym end_is i) ++ chars after))

  line_plain : IsPlain (line_text l)
  line_plain = subst IsPlain (sym text_is) (plain_chars line cut.line_utf8 cut.plain)

  pub cut_more : is_end_before end after ≡ true → IsCutSoFar text (ls ++ l ∷ []) after
  cut_more e = record {
    joins = text_of_push ls l (chars after) ∙ ap (λ x. text_of ls ++ x) (sym rest_is) ∙ so_far.joins;
    before = lines_before_push ls l (chars after) (subst (AreLinesBefore ls) rest_is so_far.before) line_plain (ap (λ x. is_end_before x (chars after)) end_is ∙ is_end_before_chars end after cut.rest_utf8 e);
    utf8 = cut.rest_utf8;
  }

-- ---- the first line
pub record IsFirstBreak (bs : List ℕ) (n : ℕ) : Type 0 where
  pub in_range : n ≤ length bs
  pub before : (k : ℕ) → k < n → is_break (get_or bs k 0) ≡ false
  pub found : n < length bs → is_break (get_or bs n 0) ≡ true

module _ (bytes bs : List ℕ) (n : ℕ) (value : bytes ≡ bs) (u : IsUtf8 bs) (first : IsFirstBreak bytes n) where
  here : IsFirstBreak bs n
  here = subst (λ x. IsFirstBreak x n) value first

  pub line_boundary : IsCharBoundary bs n
  line_boundary = first_line_is bs n u here.in_range here.before here.found

  module _ (after after_bytes : List ℕ) (end : LineEnd) (m : ℕ) (back : after ≡ drop n bs) (after_value : after_bytes ≡ after) (end_is : end ≡ first_end after_bytes) (m_is : m ≡ length (end_text end)) where
    found_end : IsEndOf after end
    found_end = subst (λ a. IsEndOf a end) (sym back) (subst (IsEndOf (drop n bs)) (sym (end_is ∙ ap first_end (after_value ∙ back))) (end_after bs n u line_boundary here.found))

    pub end_boundary : IsCharBoundary after m
    end_boundary = subst (IsCharBoundary after) (sym m_is) found_end.boundary

    pub first_line_cut : (line rest : List ℕ) → line ≡ take n bs → rest ≡ drop m after → IsCutFrom line end rest bs
    first_line_cut line rest front rest_is =
        let tail : drop (length (end_text end)) after ≡ rest = ap (λ k. drop k after) (sym m_is) ∙ sym rest_is in
        record {
          joins = sym (take-append-drop n bs) ∙ (λ i. sym front i ++ sym back i) ∙ ap (λ x. line ++ x) (found_end.joins ∙ ap (λ x. end_text end ++ x) tail);
          plain = subst IsPlain (sym front) (plain_below bs n here.before);
          line_utf8 = subst IsUtf8 (sym front) (IsUtf8-take bs n u line_boundary);
          rest_utf8 = subst IsUtf8 tail found_end.rest_utf8;
          ends = ⊎_elim (λ h. inl (h.0, sym tail ∙ h.1)) (λ h. inr (subst (λ r. is_end_before end r ≡ true) tail h)) found_end.ends;
        }

-- ---- what `line` finds
module _ (ls : List Row) (t : List ℕ) (i : ℕ) (h : AreLines ls) (view_is : text_of ls ≡ t) where
  line_found : slice_get (lines t) i ≡ option_map line_text (slice_get ls i)
  line_found = ap (λ x. slice_get x i) (ap lines (sym view_is) ∙ lines_text_of ls h) ∙ slice_get-map line_text ls i

  pub text_some : (x : Row) → i < length ls → x ≡ get_or ls i x → Some (line_text x) ≡ slice_get (lines t) i
  text_some x lt e = sym (line_found ∙ ap (option_map line_text) (slice_get-get_or ls i x lt) ∙ ap (λ y. Some (line_text y)) (sym e))

  pub line_some : (x : Row) (bytes : List ℕ) → i < length ls → x ≡ get_or ls i x → chars bytes ≡ line_text x → Some (chars bytes) ≡ slice_get (lines t) i
  line_some x bytes lt e b = ap Some b ∙ text_some x lt e

  pub line_none : length ls ≤ i → None ≡ slice_get (lines t) i
  line_none le = sym (line_found ∙ ap (option_map line_text) (slice_get_past ls i le))

-- the bytes of a line are the UTF-8 of its characters
pub bytes_some : {found : Option (List ℕ)} (bytes : List ℕ) → IsUtf8 bytes → Some (chars bytes) ≡ found → Some bytes ≡ option_map encodes found
bytes_some bytes u e = ap Some (sym (encodes-chars bytes u)) ∙ ap (option_map encodes) e

-- ---- the whole lines of a text, onto other lines
pub onto_start : (old : List Row) (text : List ℕ) → IsUtf8 text → IsCutOnto old text text old
onto_start old text u = record { cut = []; joins = sym (append-nil old); so_far = cut_start text u }

module _ {old now : List Row} {text rest line after : List ℕ} {end : LineEnd} (onto : IsCutOnto old text rest now) (cut : IsCutFrom line end after rest) where
  pub onto_more : {next : List Row} → IsPushedLine now line end next → (end ≡ Eof → ⊥) → IsCutOnto old text after next
  onto_more pushed ne = record {
    cut = onto.cut ++ pushed.line ∷ [];
    joins = pushed.joins ∙ ap (λ x. x ++ pushed.line ∷ []) onto.joins ∙ append_assoc old onto.cut (pushed.line ∷ []);
    so_far = cut_more pushed.line onto.so_far cut pushed.text_is pushed.end_is (⊎_elim (λ h. absurd (ne h.0)) (λ h. h) cut.ends);
  }

  rest_none : end ≡ Eof → after ≡ []
  rest_none e = ⊎_elim (λ h. h.1) (λ h. absurd (eof_is_no_end (ap (λ x. is_end_before x after) (sym e) ∙ h))) cut.ends
    where
      eof_is_no_end : is_end_before Eof after ≡ true → ⊥
      eof_is_no_end k = cc

  pub onto_last : end ≡ Eof → IsCutOnto old text line now
  onto_last e =
      let same : rest ≡ line = cut.joins ∙ (λ i. line ++ (end_text (e i) ++ rest_none e i)) ∙ append-nil line in
      record { cut = onto.cut; joins = onto.joins; so_far = subst (λ x. IsCutSoFar text onto.cut x) same onto.so_far }

pub onto_plain : {line end_rest : List ℕ} {end : LineEnd} {rest : List ℕ} → IsCutFrom line end end_rest rest → IsPlain (chars line)
onto_plain {line} cut = plain_chars line cut.line_utf8 cut.plain

-- all of a text, cut
pub lines_of_cut : {old next : List Row} {text rest : List ℕ} {now : List Row} → IsCutOnto old text rest now → IsPlain (chars rest) → IsPushedLine now rest Eof next → old ≡ [] → IsCut (chars text) next
lines_of_cut onto plain pushed none =
    let text_is : line_text pushed.line ≡ chars _ = pushed.text_is in
    let joins = pushed.joins ∙ ap (λ x. x ++ pushed.line ∷ []) (onto.joins ∙ ap (λ x. x ++ onto.cut) none) in (
      subst AreLines (sym joins) (lines_end onto.cut pushed.line (subst (AreLinesBefore onto.cut) (sym text_is) onto.so_far.before) (subst IsPlain (sym text_is) plain) pushed.end_is),
      ap text_of joins ∙ sym (append-nil (text_of (onto.cut ++ pushed.line ∷ []))) ∙ text_of_push onto.cut pushed.line [] ∙ ap (λ x. text_of onto.cut ++ (line_text pushed.line ++ (end_text x ++ []))) pushed.end_is ∙ ap (λ x. text_of onto.cut ++ x) (append-nil (line_text pushed.line) ∙ text_is) ∙ onto.so_far.joins,
    )

-- the first line and the rest are no longer than the text
pub parts_le : (line rest text : List ℕ) (end : LineEnd) → IsCutFrom line end rest text → (length line ≤ length text) × (length rest ≤ length text)
parts_le line rest text end cut =
    let whole = ap length cut.joins in
    let first = length-append line (end_text end ++ rest) in
    let second = length-append (end_text end) rest in
    (omega arith, omega arith)

-- lines that come to the end of lines come to the end of all before them
pub pushed_behind : (front : List Row) {ls ms : List Row} {text : List ℕ} {end : LineEnd} → IsPushedLine ls text end ms → IsPushedLine (front ++ ls) text end (front ++ ms)
pushed_behind front {ls = ls} p = record {
  line = p.line;
  text_is = p.text_is;
  end_is = p.end_is;
  joins = ap (λ z. front ++ z) p.joins ∙ sym (append_assoc front ls (p.line ∷ []));
}

pub pushed_last : {ls ms : List Row} {text : List ℕ} {end : LineEnd} → end ≡ Eof → IsPushedLine ls text end ms → IsPushedLine ls text Eof ms
pushed_last e p = record { line = p.line; text_is = p.text_is; end_is = p.end_is ∙ e; joins = p.joins }

-- the lines that are cut so far have no more bytes than the text
pub cut_bytes : {text rest : List ℕ} {now : List Row} → IsCutOnto [] text rest now → length (encodes (text_of now)) ≤ length (encodes (chars text))
cut_bytes {rest = rest} onto =
    omega (
      arith,
      ap (λ t. length (encodes t)) onto.so_far.joins,
      ap length (encodes-append (text_of onto.cut) (chars rest)),
      length-append (encodes (text_of onto.cut)) (encodes (chars rest)),
      ap (λ ls. length (encodes (text_of ls))) onto.joins,
    )
