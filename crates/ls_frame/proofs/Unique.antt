-- A list of bytes is a stream in one way.
use Rattle.std.proofs.Common.{◌≡◌, ℕ, true, false, ◌==◌, List, [], ◌∷◌, ◌++◌, length, filter, refl, sym, ◌∙◌, ap, subst, arith, append_assoc, not}
use Rattle.std.specs.List.{list_any}
use Rattle.std.proofs.lemmas.Bool.{not-true}
use Rattle.ls_frame.specs.Frames.{crlf, field_lines, header_part, is_field, is_line_end, is_length, number_told, AreFields, IsHeader, IsFrame, Frames, HasNoFrame, Stream}
use Rattle.ls_frame.proofs.Fronts.{and_left, or_left, or_right}

-- no CR
abbrev pub HasNoCr : List ℕ → Type 0
HasNoCr [] = Unit {0}
HasNoCr (b ∷ bytes) = ((b == 13) ≡ false) × HasNoCr bytes

no_cr : (line : List ℕ) → list_any is_line_end line ≡ false → HasNoCr line
no_cr [] e = tt
no_cr (b ∷ line) e = (or_left (b == 13) (b == 10) (or_left (is_line_end b) (list_any is_line_end line) e), no_cr line (or_right (is_line_end b) (list_any is_line_end line) e))

pub field_no_cr : (line : List ℕ) → is_field line ≡ true → HasNoCr line
unfolding is_field
field_no_cr line e = no_cr line (not-true (list_any is_line_end line) (and_left (not (list_any is_line_end line)) _ e))

field_not_empty : (line : List ℕ) → is_field line ≡ true → [] ≡ line → ⊥
unfolding is_field
field_not_empty [] e n = absurd (cc)
field_not_empty (b ∷ line) e n = cc

not_cr : (b : ℕ) → (b == 13) ≡ false → 13 ≡ b → ⊥
not_cr b e n = let P : ℕ → Type 0 = λ x. (x == 13) ≡ false in let e' : true ≡ false = subst P (sym n) e in cc

pub head_same : (x y : ℕ) (xs ys : List ℕ) → x ∷ xs ≡ y ∷ ys → x ≡ y
head_same x y xs ys e = cc

pub tail_same : (x y : ℕ) (xs ys : List ℕ) → x ∷ xs ≡ y ∷ ys → xs ≡ ys
tail_same x y xs ys e = cc

-- what stands before the first CR, and behind it
pub first_cr_holds : (a b u v : List ℕ) → HasNoCr a → HasNoCr b → a ++ 13 ∷ u ≡ b ++ 13 ∷ v → (a ≡ b) × (u ≡ v)
first_cr_holds [] [] u v p q e = (refl, tail_same 13 13 u v e)
first_cr_holds [] (y ∷ b) u v p q e = absurd (not_cr y q.0 (head_same 13 y u (b ++ 13 ∷ v) e))
first_cr_holds (x ∷ a) [] u v p q e = absurd (not_cr x p.0 (sym (head_same x 13 (a ++ 13 ∷ u) v e)))
first_cr_holds (x ∷ a) (y ∷ b) u v p q e =
    let rest : (a ≡ b) × (u ≡ v) = first_cr_holds a b u v p.1 q.1 (tail_same x y (a ++ 13 ∷ u) (b ++ 13 ∷ v) e) in
    let first : x ≡ y = head_same x y (a ++ 13 ∷ u) (b ++ 13 ∷ v) e in
    (cc, rest.1)

pub regroup : (w f u : List ℕ) → (((w ++ crlf) ++ f) ++ crlf) ++ u ≡ w ++ (13 ∷ 10 ∷ ((f ++ crlf) ++ u))
regroup w f u = simp append_assoc

-- the field lines of a header part, and what comes behind it
pub headers_same : (these those : List (List ℕ)) (u v : List ℕ) → AreFields these → AreFields those → header_part these ++ u ≡ header_part those ++ v → (these ≡ those) × (u ≡ v)
headers_same [] [] u v p q e = (refl, tail_same 10 10 u v (tail_same 13 13 (10 ∷ u) (10 ∷ v) e))
headers_same [] (b ∷ those) u v p q e =
    let parts : ([] ≡ b) × (10 ∷ u ≡ 10 ∷ (header_part those ++ v)) = first_cr_holds [] b (10 ∷ u) (10 ∷ (header_part those ++ v)) tt (field_no_cr b q.0) (e ∙ regroup b (field_lines those) v) in
    absurd (field_not_empty b q.0 parts.0)
headers_same (a ∷ these) [] u v p q e =
    let parts : (a ≡ []) × (10 ∷ (header_part these ++ u) ≡ 10 ∷ v) = first_cr_holds a [] (10 ∷ (header_part these ++ u)) (10 ∷ v) (field_no_cr a p.0) tt (sym (regroup a (field_lines these) u) ∙ e) in
    absurd (field_not_empty a p.0 (sym parts.0))
headers_same (a ∷ these) (b ∷ those) u v p q e =
    let parts : (a ≡ b) × (10 ∷ (header_part these ++ u) ≡ 10 ∷ (header_part those ++ v))
    = first_cr_holds a b (10 ∷ (header_part these ++ u)) (10 ∷ (header_part those ++ v)) (field_no_cr a p.0) (field_no_cr b q.0) (sym (regroup a (field_lines these) u) ∙ (e ∙ regroup b (field_lines those) v)) in
    let rest : (these ≡ those) × (u ≡ v) = headers_same these those u v p.1 q.1 (tail_same 10 10 (header_part these ++ u) (header_part those ++ v) parts.1) in
    let first : a ≡ b = parts.0 in
    (cc, rest.1)

fronts_same : (a b u v : List ℕ) → length a ≡ length b → a ++ u ≡ b ++ v → (a ≡ b) × (u ≡ v)
fronts_same [] [] u v n e = (refl, e)
fronts_same [] (y ∷ b) u v n e = absurd (omega (arith, n))
fronts_same (x ∷ a) [] u v n e = absurd (omega (arith, n))
fronts_same (x ∷ a) (y ∷ b) u v n e =
    let rest : (a ≡ b) × (u ≡ v) = fronts_same a b u v (omega (arith, n)) (tail_same x y (a ++ u) (b ++ v) e) in
    let first : x ≡ y = head_same x y (a ++ u) (b ++ v) e in
    (cc, rest.1)

-- the same field lines give one length
pub lengths_same : (these those : List (List ℕ)) (n m : ℕ) → IsHeader these n → IsHeader those m → these ≡ those → n ≡ m
lengths_same these those n m h k e =
    let one : h.field ∷ [] ≡ k.field ∷ [] = sym h.one ∙ (ap (filter is_length) e ∙ k.one) in
    let same : h.field ≡ k.field = cc in
    sym h.number ∙ (ap number_told same ∙ k.number)

-- the first frame, and what comes behind it
pub frame_unique : (frame other x y u v : List ℕ) → IsFrame frame x → IsFrame other y → frame ++ u ≡ other ++ v → (x ≡ y) × (u ≡ v)
frame_unique frame other x y u v f g e =
    let left : frame ++ u ≡ header_part f.fields ++ (x ++ u) = ap (λ l. l ++ u) f.spelled ∙ append_assoc (header_part f.fields) x u in
    let right : other ++ v ≡ header_part g.fields ++ (y ++ v) = ap (λ l. l ++ v) g.spelled ∙ append_assoc (header_part g.fields) y v in
    let parts : (f.fields ≡ g.fields) × (x ++ u ≡ y ++ v) = headers_same f.fields g.fields (x ++ u) (y ++ v) f.header.each g.header.each (sym left ∙ (e ∙ right)) in
    fronts_same x y u v (lengths_same f.fields g.fields (length x) (length y) f.header g.header parts.0) parts.1

-- frames at the front of a stream: its contents go on from theirs
pub frames_front : (bytes others u rest : List ℕ) (xs ys : List (List ℕ)) → Frames bytes xs → Frames others ys → HasNoFrame rest → bytes ++ u ≡ others ++ rest
    → (zs : List (List ℕ)) × (ys ≡ xs ++ zs) × Stream u zs rest
frames_front bytes others u rest [] ys p q n e =
    (ys, refl, record { frames = others; whole = q; bytes_are = sym (ap (λ l. l ++ u) p) ∙ e; partial = n })
frames_front bytes others u rest (x ∷ xs) [] p q n e =
    absurd (n p.0 (p.1 ++ u) x p.2.0 (sym (ap (λ l. l ++ rest) q) ∙ (sym e ∙ (ap (λ l. l ++ u) p.2.1 ∙ append_assoc p.0 p.1 u))))
frames_front bytes others u rest (x ∷ xs) (y ∷ ys) p q n e =
    let parts : (x ≡ y) × (p.1 ++ u ≡ q.1 ++ rest) = frame_unique p.0 q.0 x y (p.1 ++ u) (q.1 ++ rest) p.2.0 q.2.0
    (sym (ap (λ l. l ++ u) p.2.1 ∙ append_assoc p.0 p.1 u) ∙ (e ∙ (ap (λ l. l ++ rest) q.2.1 ∙ append_assoc q.0 q.1 rest))) in
    let more : (zs : List (List ℕ)) × (ys ≡ xs ++ zs) × Stream u zs rest = frames_front p.1 q.1 u rest xs ys p.2.2 q.2.2 n parts.1 in
    let first : x ≡ y = parts.0 in
    let later : ys ≡ xs ++ more.0 = more.1 in
    (more.0, ap (λ l. y ∷ l) later ∙ ap (λ l. l ∷ (xs ++ more.0)) (sym first), more.2)

-- a stream at the front of a stream
pub stream_front : (bytes more rest last : List ℕ) (xs ys : List (List ℕ)) → Stream bytes xs rest → Stream (bytes ++ more) ys last
    → (zs : List (List ℕ)) × (ys ≡ xs ++ zs) × Stream (rest ++ more) zs last
stream_front bytes more rest last xs ys s t =
    frames_front s.frames t.frames (rest ++ more) last xs ys s.whole t.whole t.partial
    (sym (append_assoc s.frames rest more) ∙ (sym (ap (λ l. l ++ more) s.bytes_are) ∙ t.bytes_are))

alone : (bytes rest frames : List ℕ) (zs : List (List ℕ)) → HasNoFrame bytes → Frames frames zs → bytes ≡ frames ++ rest → (zs ≡ []) × (rest ≡ bytes)
alone bytes rest frames [] n w e = (refl, sym (e ∙ ap (λ l. l ++ rest) w))
alone bytes rest frames (z ∷ zs) n w e = absurd (n w.0 (w.1 ++ rest) z w.2.0 (e ∙ (ap (λ l. l ++ rest) w.2.1 ∙ append_assoc w.0 w.1 rest)))

-- a rest without frames holds no contents
pub rest_alone : (bytes rest : List ℕ) (zs : List (List ℕ)) → HasNoFrame bytes → Stream bytes zs rest → (zs ≡ []) × (rest ≡ bytes)
rest_alone bytes rest zs n s = alone bytes rest s.frames zs n s.whole s.bytes_are
