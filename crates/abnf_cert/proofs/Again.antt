-- The text of a certificate is read as that certificate.
use Rattle.std.proofs.Common.{◌≡◌, ◌≢◌, ℕ, zero, suc, ◌+◌, ◌<◌, ◌≤◌, ◌^◌, Bool, true, false, Some, None, List, [], ◌∷◌, ◌++◌, length, take, drop, get_or, min, refl, sym, ◌∙◌, ap, subst, arith, append_assoc}
use Rattle.std.proofs.lemmas.Bool.{eqb-true, lt-ltb, and_parts}
use Rattle.std.proofs.lemmas.Option.{same_Some, none-some}
use Rattle.std.proofs.Math.Seq.{take-append_seam, drop-append_seam}
use Rattle.std.proofs.lemmas.Str.Parse.{IsNumeralModel, numerals_by_value, tells_all_ascii_digits}
use Rattle.std.proofs.lemmas.Fmt.{digits_decimal, digits_value-decimal, first_decimal, decimal_digit, decimal_nonempty}
use Rattle.std.specs.Prelude.{if◌then◌else◌, ◌==◌, IfOk, IfErr, MatchResult, Result, Ok, Err}
use Rattle.std.specs.Char.{is_ascii_digit}
use Rattle.std.specs.List.{AllByRecursion}
use Rattle.std.specs.Str.{all_ascii_digits}
use Rattle.std.specs.Str.Parse.{digits_value}
use Rattle.std.specs.Fmt.{decimal}
use Rattle.abnf_cert.specs.declared.entry.Entry.{Entry}
use Rattle.abnf_cert.specs.declared.entry.Entry.TheVariants.{Nothing, Least}
use Rattle.abnf_cert.specs.declared.fault.CertFault.{CertFault}
use Rattle.abnf_cert.specs.declared.fault.CertFault.TheVariants.{BadLine, OutOfOrder, NumberTooLarge, Memory}
use Rattle.abnf_cert.specs.Text.{entry_line, lines_from, cert_text}
use Rattle.abnf_cert.specs.Read.{digit_count, is_plain_number, number_at, ToldEntry, told_at, rest_at, line_read, entry_told, IsWide, IsLineFault, IsFirstFault, Reads, TextsAreUnique, TextsAreRead}
use Rattle.abnf_cert.proofs.Lines.{line_takes}

own : IsNumeralModel (λ ds. all_ascii_digits ds ≡ true) (digits_value 10)
own = numerals_by_value (λ ds. all_ascii_digits ds ≡ true) tells_all_ascii_digits

count_front : (ds : List ℕ) (b : ℕ) (rest : List ℕ) → is_ascii_digit b ≡ false → all_ascii_digits ds ≡ true → digit_count (ds ++ b ∷ rest) ≡ length ds
count_front [] b rest e h = rw e refl
count_front (c ∷ ds) b rest e h =
    let both = and_parts (is_ascii_digit c) (all_ascii_digits ds) h in
    rw (both.0, count_front ds b rest e both.1) refl

not_zero_by : (c d : ℕ) (cs : List ℕ) (b : Bool) → (c == 48) ≡ b → 48 < c → is_plain_number (c ∷ d ∷ cs) ≡ true
not_zero_by c d cs true e lt = absurd (omega (arith, eqb-true c 48 e))
not_zero_by c d cs false e lt = rw e refl

plain_first : (ds : List ℕ) → 0 < length ds → 48 < get_or ds 0 0 → is_plain_number ds ≡ true
plain_first [] some lt = absurd (omega arith)
plain_first (c ∷ []) some lt = refl
plain_first (c ∷ d ∷ cs) some lt = not_zero_by c d cs (c == 48) refl lt

plain_decimal : (v : ℕ) → v < 2 ^ 64 → is_plain_number (decimal v) ≡ true
plain_decimal zero low = ap is_plain_number (decimal_digit 0 (omega arith))
plain_decimal (suc v) low = plain_first (decimal (suc v)) (decimal_nonempty (suc v) low) (first_decimal (suc v) (omega arith) low)

number_again : (v b : ℕ) (rest : List ℕ) → v < 2 ^ 64 → is_ascii_digit b ≡ false → number_at (decimal v ++ b ∷ rest) ≡ Some (v, b ∷ rest)
number_again v b rest low e =
    let count : digit_count (decimal v ++ b ∷ rest) ≡ length (decimal v) = count_front (decimal v) b rest e (digits_decimal own v low) in
    let front : take (digit_count (decimal v ++ b ∷ rest)) (decimal v ++ b ∷ rest) ≡ decimal v = ap (λ k. take k (decimal v ++ b ∷ rest)) count ∙ take-append_seam (decimal v) (b ∷ rest) in
    let back : drop (digit_count (decimal v ++ b ∷ rest)) (decimal v ++ b ∷ rest) ≡ b ∷ rest = ap (λ k. drop k (decimal v ++ b ∷ rest)) count ∙ drop-append_seam (decimal v) (b ∷ rest) in
    let value : min (digits_value 10 (decimal v)) 18446744073709551616 ≡ v = omega (arith, digits_value-decimal own v low) in
    ap (λ ds. if is_plain_number ds then Some (min (digits_value 10 ds) 18446744073709551616, drop (digit_count (decimal v ++ b ∷ rest)) (decimal v ++ b ∷ rest)) else None) front
    ∙ (ap (λ p. if p then Some (min (digits_value 10 (decimal v)) 18446744073709551616, drop (digit_count (decimal v ++ b ∷ rest)) (decimal v ++ b ∷ rest)) else None) (plain_decimal v low)
    ∙ (ap (λ (x : ℕ). Some (x, drop (digit_count (decimal v ++ b ∷ rest)) (decimal v ++ b ∷ rest))) value ∙ ap (λ (x : List ℕ). Some (v, x)) back))

told_again : (l h c : ℕ) (rest : List ℕ) → l < 2 ^ 64 → h < 2 ^ 64 → c < 2 ^ 64 → told_at (decimal l ++ 32 ∷ (decimal h ++ 32 ∷ (decimal c ++ 10 ∷ rest))) ≡ Some (Some (l, h, c), rest)
unfolding told_at
told_again l h c rest x y z =
    rw (number_again l 32 (decimal h ++ 32 ∷ (decimal c ++ 10 ∷ rest)) x refl)
    (rw (number_again h 32 (decimal c ++ 10 ∷ rest) y refl)
    (rw (number_again c 10 rest z refl) refl))

-- what an entry's line tells
abbrev told_of : Entry → ToldEntry
told_of Nothing = None
told_of (Least l h c) = Some (l, h, c)

told_read : (e : Entry) → IsWide e → entry_told (told_of e) ≡ Some e
told_read Nothing w = refl
told_read (Least l h c) w =
    rw (lt-ltb l 18446744073709551616 w.0, lt-ltb h 18446744073709551616 w.1, lt-ltb c 18446744073709551616 w.2) refl

rest_by : (c : ℕ) (cs : List ℕ) (b : Bool) → (c == 45) ≡ b → c ≢ 45 → rest_at (c ∷ cs) ≡ told_at (c ∷ cs)
rest_by c cs true e other = absurd (other (eqb-true c 45 e))
rest_by c cs false e other = rw e refl

rest_told : (r : List ℕ) → 0 < length r → 48 ≤ get_or r 0 0 → rest_at r ≡ told_at r
rest_told [] some low = absurd (omega arith)
rest_told (c ∷ cs) some low = rest_by c cs (c == 45) refl (λ e. omega arith)

first_digit : (v : ℕ) → v < 2 ^ 64 → 48 ≤ get_or (decimal v) 0 0
first_digit zero low = let e : get_or (decimal 0) 0 0 ≡ 48 = ap (λ ds. get_or ds 0 0) (decimal_digit 0 (omega arith)) in omega arith
first_digit (suc v) low = omega (arith, first_decimal (suc v) (omega arith) low)

first_of : (ds x : List ℕ) → 0 < length ds → (0 < length (ds ++ x)) × (get_or (ds ++ x) 0 0 ≡ get_or ds 0 0)
first_of [] x some = absurd (omega arith)
first_of (d ∷ ds) x some = (omega arith, refl)

rest_again : (l h c : ℕ) (rest : List ℕ) → l < 2 ^ 64 → h < 2 ^ 64 → c < 2 ^ 64 → rest_at (decimal l ++ 32 ∷ (decimal h ++ 32 ∷ (decimal c ++ 10 ∷ rest))) ≡ Some (Some (l, h, c), rest)
rest_again l h c rest x y z =
    let first = first_of (decimal l) (32 ∷ (decimal h ++ 32 ∷ (decimal c ++ 10 ∷ rest))) (decimal_nonempty l x) in
    rest_told (decimal l ++ 32 ∷ (decimal h ++ 32 ∷ (decimal c ++ 10 ∷ rest))) first.0 (omega (arith, first.1, first_digit l x)) ∙ told_again l h c rest x y z

line_text : (n l h c : ℕ) (rest : List ℕ) → entry_line n (Least l h c) ++ rest ≡ decimal n ++ 32 ∷ (decimal l ++ 32 ∷ (decimal h ++ 32 ∷ (decimal c ++ 10 ∷ rest)))
line_text n l h c rest = regroup (decimal n) (decimal l) (decimal h) (decimal c) (32 ∷ []) (10 ∷ []) rest
  where
    regroup : (a b c d s e r : List ℕ) → (a ++ s ++ (b ++ s ++ (c ++ s ++ (d ++ e)))) ++ r ≡ a ++ (s ++ (b ++ (s ++ (c ++ (s ++ (d ++ (e ++ r)))))))
    regroup a b c d s e r = simp append_assoc

line_again : (n : ℕ) (e : Entry) (rest : List ℕ) → n < 2 ^ 64 → IsWide e → line_read (entry_line n e ++ rest) ≡ Some (n, told_of e, rest)
unfolding line_read
line_again n Nothing rest low w =
    rw (append_assoc (decimal n) (32 ∷ 45 ∷ 10 ∷ []) rest) (rw (number_again n 32 (45 ∷ 10 ∷ rest) low refl) refl)
line_again n (Least l h c) rest low w =
    rw (line_text n l h c rest)
    (rw (number_again n 32 (decimal l ++ 32 ∷ (decimal h ++ 32 ∷ (decimal c ++ 10 ∷ rest))) low refl)
    (rw (rest_again l h c rest w.0 w.1 w.2) refl))

nothing_there : line_read [] ≡ None
unfolding line_read
nothing_there = refl

abbrev AllWide : List Entry → Type 0
AllWide es = AllByRecursion IsWide es

no_line : (n : ℕ) (e : Entry) (rest : List ℕ) → n < 2 ^ 64 → IsWide e → entry_line n e ++ rest ≡ [] → ⊥
no_line n e rest low w is =
    let line : ℕ × ToldEntry × List ℕ = (n, told_of e, rest) in
    absurd (none-some line (sym nothing_there ∙ (sym (ap line_read is) ∙ line_again n e rest low w)))

-- two lines that begin one text are one
one_line : (n : ℕ) (e f : Entry) (rest more : List ℕ) → n < 2 ^ 64 → IsWide e → IsWide f → entry_line n e ++ rest ≡ entry_line n f ++ more → (e ≡ f) × (rest ≡ more)
one_line n e f rest more low w u is =
    let all : (n, told_of e, rest) ≡ (n, told_of f, more) = same_Some (n, told_of e, rest) (n, told_of f, more) (sym (line_again n e rest low w) ∙ (ap line_read is ∙ line_again n f more low u)) in
    let told : told_of e ≡ told_of f = ap (λ (x : ℕ × ToldEntry × List ℕ). x.1) all in
    (same_Some e f (sym (told_read e w) ∙ (ap entry_told told ∙ told_read f u)), ap (λ (x : ℕ × ToldEntry × List ℕ). x.2) all)

same_text : (k : ℕ) (es cs : List Entry) → AllWide es → AllWide cs → k + length es < 2 ^ 64 → k + length cs < 2 ^ 64 → lines_from k es ≡ lines_from k cs → es ≡ cs
same_text k [] [] w u low high is = refl
same_text k [] (c ∷ cs) w u low high is = absurd (no_line k c (lines_from (suc k) cs) (omega arith) u.0 (sym is))
same_text k (e ∷ es) [] w u low high is = absurd (no_line k e (lines_from (suc k) es) (omega arith) w.0 is)
same_text k (e ∷ es) (c ∷ cs) w u low high is =
    let one = one_line k e c (lines_from (suc k) es) (lines_from (suc k) cs) (omega arith) w.0 u.0 is in
    ap (λ x. x ∷ es) one.0 ∙ ap (λ x. c ∷ x) (same_text (suc k) es cs w.1 u.1 (omega arith) (omega arith) one.1)

-- the line of an entry shows no fault
good_line : (f : CertFault) (n : ℕ) (e : Entry) (rest : List ℕ) → n < 2 ^ 64 → IsWide e → IsLineFault f n (entry_line n e ++ rest) → f ≡ Memory
good_line BadLine n e rest low w fault =
    let line : ℕ × ToldEntry × List ℕ = (n, told_of e, rest) in
    absurd (none-some line (sym fault.1 ∙ line_again n e rest low w))
good_line OutOfOrder n e rest low w fault =
    let same : fault.0 ≡ (n, told_of e, rest) = same_Some fault.0 (n, told_of e, rest) (sym fault.1 ∙ line_again n e rest low w) in
    absurd (fault.2 (ap (λ (x : ℕ × ToldEntry × List ℕ). x.0) same))
good_line NumberTooLarge n e rest low w fault =
    let same : fault.0 ≡ (n, told_of e, rest) = same_Some fault.0 (n, told_of e, rest) (sym fault.1 ∙ line_again n e rest low w) in
    let both : Some e ≡ None = sym (told_read e w) ∙ (sym (ap entry_told (ap (λ (x : ℕ × ToldEntry × List ℕ). x.1) same)) ∙ fault.3) in absurd (cc)
good_line Memory n e rest low w fault = refl

-- no fault stands at an entry's line, or at the end
no_fault_here : (f : CertFault) (n k : ℕ) (cs : List Entry) → AllWide cs → k + length cs < 2 ^ 64 → n ≡ k → IsLineFault f n (lines_from k cs) → f ≡ Memory
no_fault_here BadLine n k [] w low at fault = absurd (fault.0 refl)
no_fault_here OutOfOrder n k [] w low at fault = absurd (none-some fault.0 (sym nothing_there ∙ fault.1))
no_fault_here NumberTooLarge n k [] w low at fault = absurd (none-some fault.0 (sym nothing_there ∙ fault.1))
no_fault_here Memory n k [] w low at fault = refl
no_fault_here f n k (c ∷ cs) w low at fault =
    good_line f k c (lines_from (suc k) cs) (omega arith) w.0 (subst (λ m. IsLineFault f m (entry_line k c ++ lines_from (suc k) cs)) at fault)

no_fault : (k : ℕ) (es cs : List Entry) (rest : List ℕ) (f : CertFault) → AllWide es → AllWide cs → k + length cs < 2 ^ 64 → lines_from k es ++ rest ≡ lines_from k cs → IsLineFault f (k + length es) rest → f ≡ Memory
no_fault k [] cs rest f w u low is fault =
    no_fault_here f (k + 0) k cs u low (omega arith) (subst (λ x. IsLineFault f (k + 0) x) is fault)
no_fault k (e ∷ es) [] rest f w u low is fault =
    absurd (no_line k e (lines_from (suc k) es ++ rest) (omega arith) w.0 (sym (append_assoc (entry_line k e) (lines_from (suc k) es) rest) ∙ is))
no_fault k (e ∷ es) (c ∷ cs) rest f w u low is fault =
    let one = one_line k e c (lines_from (suc k) es ++ rest) (lines_from (suc k) cs) (omega arith) w.0 u.0 (sym (append_assoc (entry_line k e) (lines_from (suc k) es) rest) ∙ is) in
    let at : k + suc (length es) ≡ suc k + length es = omega arith in
    no_fault (suc k) es cs rest f w.1 u.1 (omega arith) one.1 (subst (λ n. IsLineFault f n rest) at fault)

pub only_by : (r : Result (List Entry) CertFault) (bytes : List ℕ) → IfOk r (λ c. AllByRecursion IsWide c × (length c < 2 ^ 64) × (bytes ≡ cert_text c)) → IfErr r (λ f. IsFirstFault f bytes) →
    (es : List Entry) → AllByRecursion IsWide es → length es < 2 ^ 64 → bytes ≡ cert_text es → MatchResult r (λ c. c ≡ es) (λ f. f ≡ Memory)
only_by (Ok c) bytes found fault es w low is = same_text 0 c es found.0 w (omega (arith, found.1)) (omega arith) (sym found.2 ∙ is)
only_by (Err f) bytes found fault es w low is =
    let at : length fault.0 ≡ 0 + length fault.0 = omega arith in
    no_fault 0 fault.0 es fault.1 f fault.2 w (omega arith) (sym fault.3 ∙ is) (subst (λ n. IsLineFault f n fault.1) at fault.4)

-- a line shows one fault
one_fault : (f g : CertFault) (n : ℕ) (rest : List ℕ) → (f ≡ Memory → ⊥) → IsLineFault f n rest → IsLineFault g n rest → f ≡ g
one_fault Memory g n rest other h k = absurd (other refl)
one_fault BadLine BadLine n rest other h k = refl
one_fault BadLine OutOfOrder n rest other h k = absurd (none-some k.0 (sym h.1 ∙ k.1))
one_fault BadLine NumberTooLarge n rest other h k = absurd (none-some k.0 (sym h.1 ∙ k.1))
one_fault BadLine Memory n rest other h k = absurd (none-some k.0 (sym h.1 ∙ k.1))
one_fault OutOfOrder BadLine n rest other h k = absurd (none-some h.0 (sym k.1 ∙ h.1))
one_fault OutOfOrder OutOfOrder n rest other h k = refl
one_fault OutOfOrder NumberTooLarge n rest other h k = absurd (h.2 (ap (λ (x : ℕ × ToldEntry × List ℕ). x.0) (same_Some h.0 k.0 (sym h.1 ∙ k.1)) ∙ k.2))
one_fault OutOfOrder Memory n rest other h k = absurd (h.2 (ap (λ (x : ℕ × ToldEntry × List ℕ). x.0) (same_Some h.0 k.0 (sym h.1 ∙ k.1)) ∙ k.2))
one_fault NumberTooLarge BadLine n rest other h k = absurd (none-some h.0 (sym k.1 ∙ h.1))
one_fault NumberTooLarge OutOfOrder n rest other h k = absurd (k.2 (ap (λ (x : ℕ × ToldEntry × List ℕ). x.0) (same_Some k.0 h.0 (sym k.1 ∙ h.1)) ∙ h.2))
one_fault NumberTooLarge NumberTooLarge n rest other h k = refl
one_fault NumberTooLarge Memory n rest other h k =
    let same : h.0 ≡ k.0 = same_Some h.0 k.0 (sym h.1 ∙ k.1) in
    absurd (none-some k.3 (sym h.3 ∙ (ap (λ (x : ℕ × ToldEntry × List ℕ). entry_told x.1) same ∙ k.4)))

first_by : (f g : CertFault) (es : List Entry) (rest bytes : List ℕ) → (f ≡ Memory → ⊥) → AllWide es → bytes ≡ cert_text es ++ rest → IsLineFault g (length es) rest → IsLineFault f 0 bytes → f ≡ g
first_by f g [] rest bytes other w is fault here = one_fault f g 0 rest other (subst (λ x. IsLineFault f 0 x) is here) fault
first_by f g (e ∷ es) rest bytes other w is fault here =
    let text : bytes ≡ entry_line 0 e ++ (lines_from 1 es ++ rest) = is ∙ append_assoc (entry_line 0 e) (lines_from 1 es) rest in
    absurd (other (good_line f 0 e (lines_from 1 es ++ rest) (omega arith) w.0 (subst (λ x. IsLineFault f 0 x) text here)))

-- a fault of the first line is found
pub first_found : (r : Result (List Entry) CertFault) (bytes : List ℕ) → IfOk r (λ c. AllByRecursion IsWide c × (length c < 2 ^ 64) × (bytes ≡ cert_text c)) → IfErr r (λ f. IsFirstFault f bytes) →
    (f : CertFault) → (f ≡ Memory → ⊥) → IsLineFault f 0 bytes → r ≡ Err f
first_found (Ok c) bytes found fault f other here =
    absurd (other (no_fault_here f 0 0 c found.0 (omega (arith, found.1)) refl (subst (λ x. IsLineFault f 0 x) found.2 here)))
first_found (Err g) bytes found fault f other here =
    ap Err (sym (first_by f g fault.0 fault.1 bytes other fault.2 fault.3 fault.4 here))

text_is : (n : ℕ) (bytes : List ℕ) (es : List Entry) → n + length es < 18446744073709551617 → Reads n bytes es → bytes ≡ lines_from n es
text_is n bytes [] low r = r
text_is n bytes (e ∷ es) low r =
    line_takes bytes r.1 n r.0 e r.2 (omega arith) r.3 ∙ ap (λ x. entry_line n e ++ x) (text_is (suc n) r.1 es (omega arith) r.4)

pub texts_are_unique : TextsAreUnique
texts_are_unique bytes es low r = text_is 0 bytes es (omega arith) r

reads_lines : (n : ℕ) (es : List Entry) → AllWide es → n + length es < 2 ^ 64 → Reads n (lines_from n es) es
reads_lines n [] w low = refl
reads_lines n (e ∷ es) w low =
    (told_of e, lines_from (suc n) es, line_again n e (lines_from (suc n) es) (omega arith) w.0, told_read e w.0, reads_lines (suc n) es w.1 (omega arith))

one_reading : (n : ℕ) (bytes : List ℕ) (es cs : List Entry) → Reads n bytes es → Reads n bytes cs → cs ≡ es
one_reading n bytes [] [] r q = refl
one_reading n bytes [] (c ∷ cs) r q =
    let line : ℕ × ToldEntry × List ℕ = (n, q.0, q.1) in
    absurd (none-some line (sym nothing_there ∙ (sym (ap line_read r) ∙ q.2)))
one_reading n bytes (e ∷ es) [] r q =
    let line : ℕ × ToldEntry × List ℕ = (n, r.0, r.1) in
    absurd (none-some line (sym nothing_there ∙ (sym (ap line_read q) ∙ r.2)))
one_reading n bytes (e ∷ es) (c ∷ cs) r q =
    let line : ℕ × ToldEntry × List ℕ = (n, r.0, r.1) in
    let other : ℕ × ToldEntry × List ℕ = (n, q.0, q.1) in
    let same : line ≡ other = same_Some line other (sym r.2 ∙ q.2) in
    let told : r.0 ≡ q.0 = ap (λ (x : ℕ × ToldEntry × List ℕ). x.1) same in
    let rest : r.1 ≡ q.1 = ap (λ (x : ℕ × ToldEntry × List ℕ). x.2) same in
    let first : c ≡ e = same_Some c e (sym q.3 ∙ (ap entry_told (sym told) ∙ r.3)) in
    let more : cs ≡ es = one_reading (suc n) r.1 es cs r.4 (subst (λ x. Reads (suc n) x cs) (sym rest) q.4) in
    ap (λ x. x ∷ cs) first ∙ ap (λ x. e ∷ x) more

pub texts_are_read : TextsAreRead
texts_are_read es wide =
    let low = wide.1 in
    (reads_lines 0 es wide.0 (omega arith), λ others q. one_reading 0 (cert_text es) es others (reads_lines 0 es wide.0 (omega arith)) q)
