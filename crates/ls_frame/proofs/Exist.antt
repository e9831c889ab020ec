-- Each list of bytes is a stream: a whole frame begins it, or none does.
use Rattle.std.proofs.Common.{◌≡◌, ℕ, zero, suc, ◌<◌, ◌≤◌, Bool, true, false, ◌==◌, List, [], ◌∷◌, ◌++◌, length, take, drop, filter, ◌⊎◌, inl, inr, ⊎_elim, refl, sym, ◌∙◌, ap, subst, arith, append_assoc, length-append, length-take-le, take-append-drop}
use Rattle.std.proofs.lemmas.Bool.{eqb-true, cases_lt, both_ways}
use Rattle.ls_frame.specs.Frames.{crlf, field_lines, header_part, is_field, is_length, has_number, number_told, AreFields, IsHeader, IsFrame, HasNoFrame, Stream}
use Rattle.ls_frame.proofs.Unique.{HasNoCr, field_no_cr, first_cr_holds, regroup, tail_same, head_same, headers_same}
use Rattle.ls_frame.proofs.Wholes.{behind, short_no_frame}

-- ---- the first CR

data FirstCr : List ℕ → Type 0 where
  without : {bytes : List ℕ} → HasNoCr bytes → FirstCr bytes
  found : {bytes : List ℕ} (line later : List ℕ) → HasNoCr line → bytes ≡ line ++ 13 ∷ later → FirstCr bytes

one_more : (b : ℕ) (bytes : List ℕ) (is : Bool) → (b == 13) ≡ is → FirstCr bytes → FirstCr (b ∷ bytes)
one_more b bytes true e rest = found [] bytes tt (ap (λ x. x ∷ bytes) (eqb-true b 13 e))
one_more b bytes false e (without h) = without (e, h)
one_more b bytes false e (found line later h is) = found (b ∷ line) later (e, h) (ap (λ l. b ∷ l) is)

first_cr : (bytes : List ℕ) → FirstCr bytes
first_cr [] = without tt
first_cr (b ∷ bytes) = one_more b bytes (b == 13) refl (first_cr bytes)

cr_in : (xs ys : List ℕ) → HasNoCr (xs ++ 13 ∷ ys) → ⊥
cr_in [] ys h = let same : true ≡ false = h.0 in cc
cr_in (x ∷ xs) ys h = cr_in xs ys h.1

-- ---- whether the bytes begin with a header part of field lines

record Header (bytes : List ℕ) : Type 0 where
  fields : List (List ℕ)
  rest : List ℕ
  each : AreFields fields
  is : bytes ≡ header_part fields ++ rest

abbrev NoHeader : List ℕ → Type 0
NoHeader bytes = (fields : List (List ℕ)) (rest : List ℕ) → AreFields fields → bytes ≡ header_part fields ++ rest → ⊥

abbrev Decided : List ℕ → Type 0
Decided bytes = Header bytes ⊎ NoHeader bytes

without_cr : (bytes : List ℕ) → HasNoCr bytes → NoHeader bytes
without_cr bytes h [] rest q e = cr_in [] (10 ∷ rest) (subst HasNoCr e h)
without_cr bytes h (b ∷ fields) rest q e = cr_in b (10 ∷ (header_part fields ++ rest)) (subst HasNoCr (e ∙ regroup b (field_lines fields) rest) h)

no_by : (line later bytes : List ℕ) → HasNoCr line → bytes ≡ line ++ 13 ∷ later → ((rest : List ℕ) → line ≡ [] → later ≡ 10 ∷ rest → ⊥)
    → ((those : List (List ℕ)) (rest : List ℕ) → is_field line ≡ true → AreFields those → later ≡ 10 ∷ (header_part those ++ rest) → ⊥) → NoHeader bytes
no_by line later bytes h is ends goes [] rest q e = let p = first_cr_holds line [] later (10 ∷ rest) h tt (sym is ∙ e) in ends rest p.0 p.1
no_by line later bytes h is ends goes (b ∷ those) rest q e =
    let p = first_cr_holds line b later (10 ∷ (header_part those ++ rest)) h (field_no_cr b q.0) (sym is ∙ (e ∙ regroup b (field_lines those) rest)) in
    goes those rest (ap is_field p.0 ∙ q.0) q.1 p.1

not_lf : (c : ℕ) → (c == 10) ≡ false → c ≡ 10 → ⊥
not_lf c e n = both_ways (c == 10) e (ap (λ x. x == 10) n)

not_nil : (x : ℕ) (xs : List ℕ) → x ∷ xs ≡ [] → ⊥
not_nil x xs e = cc

nil_not : (x : ℕ) (xs : List ℕ) → [] ≡ x ∷ xs → ⊥
nil_not x xs e = cc

by_field : (bytes : List ℕ) (x : ℕ) (xs v : List ℕ) → HasNoCr (x ∷ xs) → bytes ≡ (x ∷ xs) ++ 13 ∷ 10 ∷ v → (b : Bool) → is_field (x ∷ xs) ≡ b → Decided v → Decided bytes
by_field bytes x xs v h is false e d =
    inr (no_by (x ∷ xs) (10 ∷ v) bytes h is (λ rest p f. not_nil x xs p) (λ those rest g q f. both_ways (is_field (x ∷ xs)) e g))
by_field bytes x xs v h is true e (inl d) = inl (record {
  fields = (x ∷ xs) ∷ d.fields;
  rest = d.rest;
  each = (e, d.each);
  is = is ∙ (ap (λ l. (x ∷ xs) ++ 13 ∷ 10 ∷ l) d.is ∙ sym (regroup (x ∷ xs) (field_lines d.fields) d.rest));
})
by_field bytes x xs v h is true e (inr none) =
    inr (no_by (x ∷ xs) (10 ∷ v) bytes h is (λ rest p f. not_nil x xs p) (λ those rest g q f. none those rest q (tail_same 10 10 v (header_part those ++ rest) f)))

by_byte : (bytes line : List ℕ) (c : ℕ) (v : List ℕ) → HasNoCr line → bytes ≡ line ++ 13 ∷ c ∷ v → (b : Bool) → (c == 10) ≡ b → Decided v → Decided bytes
by_byte bytes line c v h is false e d =
    inr (no_by line (c ∷ v) bytes h is (λ rest p f. not_lf c e (head_same c 10 v rest f)) (λ those rest g q f. not_lf c e (head_same c 10 v (header_part those ++ rest) f)))
by_byte bytes [] c v h is true e d = inl (record { fields = []; rest = v; each = tt; is = is ∙ ap (λ y. 13 ∷ y ∷ v) (eqb-true c 10 e) })
by_byte bytes (x ∷ xs) c v h is true e d =
    by_field bytes x xs v h (is ∙ ap (λ y. (x ∷ xs) ++ 13 ∷ y ∷ v) (eqb-true c 10 e)) (is_field (x ∷ xs)) refl d

by_later : (bytes line later : List ℕ) → HasNoCr line → bytes ≡ line ++ 13 ∷ later → ((v : List ℕ) → length v < length bytes → Decided v) → Decided bytes
by_later bytes line [] h is shorter =
    inr (no_by line [] bytes h is (λ rest p f. nil_not 10 rest f) (λ those rest g q f. nil_not 10 (header_part those ++ rest) f))
by_later bytes line (c ∷ v) h is shorter =
    by_byte bytes line c v h is (c == 10) refl (shorter v (omega (arith, ap length is, length-append line (13 ∷ c ∷ v))))

by_first : (bytes : List ℕ) → FirstCr bytes → ((v : List ℕ) → length v < length bytes → Decided v) → Decided bytes
by_first bytes (without h) shorter = inr (without_cr bytes h)
by_first bytes (found line later h is) shorter = by_later bytes line later h is shorter

header_in : (fuel : ℕ) (bytes : List ℕ) → length bytes ≤ fuel → Decided bytes
header_in zero bytes le = by_first bytes (first_cr bytes) (λ v less. absurd (omega arith))
header_in (suc fuel) bytes le = by_first bytes (first_cr bytes) (λ v less. header_in fuel v (omega arith))

-- ---- whether it gives one length

abbrev Given : List (List ℕ) → Type 0
Given fields = ((n : ℕ) × IsHeader fields n) ⊎ ((n : ℕ) → IsHeader fields n → ⊥)

first_same : (x y : List ℕ) → x ∷ [] ≡ y ∷ [] → x ≡ y
first_same x y e = cc

given_number : (fields : List (List ℕ)) (x : List ℕ) → AreFields fields → filter is_length fields ≡ x ∷ [] → (b : Bool) → has_number x ≡ b → Given fields
given_number fields x each e false d =
    inr (λ n h. both_ways (has_number x) d (ap has_number (first_same x h.field (sym e ∙ h.one)) ∙ h.digits))
given_number fields x each e true d =
    ⊎_elim
    (λ large. inr (λ n h. let same : number_told x ≡ n = ap number_told (first_same x h.field (sym e ∙ h.one)) ∙ h.number in omega (arith, large, same, h.small)))
    (λ small. ⊎_elim
    (λ long. inr (λ n h. omega (arith, long, h.short)))
    (λ short. inl (number_told x, record { each = each; field = x; one = e; digits = d; number = refl; short = short; small = small }))
    (cases_lt 4096 (length (header_part fields))))
    (cases_lt 16777216 (number_told x))

given_by : (fields : List (List ℕ)) → AreFields fields → (named : List (List ℕ)) → filter is_length fields ≡ named → Given fields
given_by fields each [] e = inr (λ n h. let bad : [] ≡ h.field ∷ [] = sym e ∙ h.one in cc)
given_by fields each (x ∷ []) e = given_number fields x each e (has_number x) refl
given_by fields each (x ∷ y ∷ named) e = inr (λ n h. let bad : x ∷ y ∷ named ≡ h.field ∷ [] = sym e ∙ h.one in cc)

-- ---- whether a whole frame begins the bytes

pub record Front (bytes : List ℕ) : Type 0 where
  pub frame : List ℕ
  pub tail : List ℕ
  pub content : List ℕ
  pub is_frame : IsFrame frame content
  pub is : bytes ≡ frame ++ tail

whole_front : (bytes : List ℕ) (h : Header bytes) (n : ℕ) → IsHeader h.fields n → n ≤ length h.rest → Front bytes
whole_front bytes h n header le = record {
  frame = header_part h.fields ++ take n h.rest;
  tail = drop n h.rest;
  content = take n h.rest;
  is_frame = record { fields = h.fields; header = subst (IsHeader h.fields) (sym (length-take-le n h.rest le)) header; spelled = refl };
  is = h.is ∙ (ap (λ l. header_part h.fields ++ l) (sym (take-append-drop n h.rest)) ∙ sym (append_assoc (header_part h.fields) (take n h.rest) (drop n h.rest)));
}

front_by : (bytes : List ℕ) (h : Header bytes) → Given h.fields → Front bytes ⊎ HasNoFrame bytes
front_by bytes h (inl g) =
    ⊎_elim (λ less. inr (short_no_frame h.fields g.0 bytes h.rest g.1 h.is less)) (λ ge. inl (whole_front bytes h g.0 g.1 ge)) (cases_lt (length h.rest) g.0)
front_by bytes h (inr none) = inr (λ frame tail content f is.
    let same = headers_same h.fields f.fields h.rest (content ++ tail) h.each f.header.each (sym h.is ∙ behind f.fields frame content tail bytes is f.spelled) in
    none (length content) (subst (λ fs. IsHeader fs (length content)) (sym same.0) f.header))

front_of : (bytes : List ℕ) → Decided bytes → Front bytes ⊎ HasNoFrame bytes
front_of bytes (inl h) = front_by bytes h (given_by h.fields h.each (filter is_length h.fields) refl)
front_of bytes (inr none) = inr (λ frame tail content f is. none f.fields (content ++ tail) f.header.each (behind f.fields frame content tail bytes is f.spelled))

pub front_in : (bytes : List ℕ) → Front bytes ⊎ HasNoFrame bytes
front_in bytes = front_of bytes (header_in (length bytes) bytes (omega arith))

-- ---- the stream

abbrev IsStream : List ℕ → Type 0
IsStream bytes = (contents : List (List ℕ)) × (rest : List ℕ) × Stream bytes contents rest

no_more : (bytes : List ℕ) → HasNoFrame bytes → IsStream bytes
no_more bytes none = ([], bytes, record { frames = []; whole = refl; bytes_are = refl; partial = none })

frame_more : (bytes : List ℕ) (f : Front bytes) → IsStream f.tail → IsStream bytes
frame_more bytes f s = (
  f.content ∷ s.0,
  s.1,
  record {
    frames = f.frame ++ s.2.frames;
    whole = (f.frame, s.2.frames, (f.is_frame, refl, s.2.whole));
    bytes_are = f.is ∙ (ap (λ l. f.frame ++ l) s.2.bytes_are ∙ sym (append_assoc f.frame s.2.frames s.1));
    partial = s.2.partial;
  },
)

shorter : (bytes : List ℕ) (f : Front bytes) → length f.tail < length bytes
shorter bytes f = omega (
  arith,
  ap length f.is,
  length-append f.frame f.tail,
  ap length f.is_frame.spelled,
  length-append (header_part f.is_frame.fields) f.content,
  length-append (field_lines f.is_frame.fields) crlf,
)

stream_by : (bytes : List ℕ) → Front bytes ⊎ HasNoFrame bytes → ((tail : List ℕ) → length tail < length bytes → IsStream tail) → IsStream bytes
stream_by bytes (inl f) later = frame_more bytes f (later f.tail (shorter bytes f))
stream_by bytes (inr none) later = no_more bytes none

stream_in : (fuel : ℕ) (bytes : List ℕ) → length bytes ≤ fuel → IsStream bytes
stream_in zero bytes le = stream_by bytes (front_in bytes) (λ tail less. absurd (omega arith))
stream_in (suc fuel) bytes le = stream_by bytes (front_in bytes) (λ tail less. stream_in fuel tail (omega arith))

pub some_stream : (bytes : List ℕ) → (contents : List (List ℕ)) × (rest : List ℕ) × Stream bytes contents rest
some_stream bytes = stream_in (length bytes) bytes (omega arith)
