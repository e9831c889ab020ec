-- A line that is read is the line of its entry.
use Rattle.std.proofs.Common.{◌≡◌, ℕ, suc, ◌+◌, ◌<◌, ◌⊎◌, inl, inr, ⊎_elim, ◌&&◌, Bool, true, false, Option, Some, None, List, [], ◌∷◌, ◌++◌, length, refl, sym, ◌∙◌, ap, subst, arith, append_assoc, length-append, nat_lt}
use Rattle.std.proofs.lemmas.Option.{cond_some, same_Some}
use Rattle.std.proofs.lemmas.Bool.{eqb-true, ltb-true, and_parts}
use Rattle.std.proofs.lemmas.List.{append-nil}
use Rattle.std.specs.Prelude.{◌==◌, cond}
use Rattle.std.specs.Fmt.{decimal}
use Rattle.std.specs.List.{AllByRecursion}
use Rattle.abnf_cert.specs.declared.entry.Entry.{Entry}
use Rattle.abnf_cert.specs.declared.entry.Entry.TheVariants.{Nothing, Least}
use Rattle.abnf_cert.specs.Text.{entry_line, lines_from, cert_text}
use Rattle.abnf_cert.specs.Read.{◌>>=◌, number_at, past_byte, ToldEntry, told_at, rest_at, line_read, entry_told, IsWide}
use Rattle.abnf_cert.proofs.Digits.{number_takes}

bind_ok : {A B : Type 0} (o : Option A) (f : A → Option B) (y : B) → (o >>= f) ≡ Some y → (x : A) × (o ≡ Some x) × (f x ≡ Some y)
bind_ok None f y h = absurd (cc)
bind_ok (Some x) f y h = (x, refl, h)

behind_takes : (b : ℕ) (bs rest : List ℕ) → past_byte b bs ≡ Some rest → bs ≡ b ∷ rest
behind_takes b [] rest h = absurd (cc)
behind_takes b (c ∷ cs) rest h =
    let both = cond_some (c == b) cs rest h in
    ap (λ x. x ∷ cs) (eqb-true c b both.0) ∙ ap (λ x. b ∷ x) both.1

abbrev told_of : ℕ → ℕ → ℕ → ToldEntry
told_of l h c = Some (l, h, c)

abbrev no_told : ToldEntry
no_told = None

abbrev silent : List ℕ → Option (ToldEntry × List ℕ)
silent rest = Some (None, rest)

abbrev line_of : ℕ → ToldEntry → List ℕ → Option (ℕ × ToldEntry × List ℕ)
line_of v t rest = Some (v, t, rest)

abbrev told_line_of : ℕ → ℕ → ℕ → List ℕ → Option (ToldEntry × List ℕ)
told_line_of l h c q = Some (Some (l, h, c), q)

-- a number and the byte behind it
abbrev field : ℕ → ℕ → List ℕ
field v b = decimal v ++ b ∷ []

field_takes : (bs : List ℕ) (v : ℕ) (r rest : List ℕ) (b : ℕ) → number_at bs ≡ Some (v, r) → v < 18446744073709551616 → past_byte b r ≡ Some rest → bs ≡ field v b ++ rest
field_takes bs v r rest b h low g =
    number_takes bs v r h low ∙ (ap (λ x. decimal v ++ x) (behind_takes b r rest g) ∙ sym (append_assoc (decimal v) (b ∷ []) rest))

chosen : {A : Type 0} (b : Bool) (x y z : A) → cond b x y ≡ z → ((b ≡ true) × (x ≡ z)) ⊎ ((b ≡ false) × (y ≡ z))
chosen true x y z h = inl (refl, h)
chosen false x y z h = inr (refl, h)

abbrev IsTold : List ℕ → List ℕ → Entry → Type 0
IsTold bs rest e = (l : ℕ) × (h : ℕ) × (c : ℕ) × (Least l h c ≡ e) × (bs ≡ field l 32 ++ (field h 32 ++ (field c 10 ++ rest)))

told_end : (bs r1 r2 r3 r4 r5 q rest : List ℕ) (l h c : ℕ) (told : ToldEntry) (e : Entry) → number_at bs ≡ Some (l, r1) → past_byte 32 r1 ≡ Some r2 → number_at r2 ≡ Some (h, r3) → past_byte 32 r3 ≡ Some r4 →
    number_at r4 ≡ Some (c, r5) → past_byte 10 r5 ≡ Some q → told_line_of l h c q ≡ Some (told, rest) → entry_told told ≡ Some e → IsTold bs rest e
told_end bs r1 r2 r3 r4 r5 q rest l h c told e n1 b1 n2 b2 n3 b3 is good =
    let all : (told_of l h c, q) ≡ (told, rest) = same_Some (told_of l h c, q) (told, rest) is in
    let same : told_of l h c ≡ told = ap (λ (x : ToldEntry × List ℕ). x.0) all in
    let left : q ≡ rest = ap (λ (x : ToldEntry × List ℕ). x.1) all in
    let good' : entry_told (told_of l h c) ≡ Some e = subst (λ t. entry_told t ≡ Some e) (sym same) good in
    let both = cond_some (nat_lt l 18446744073709551616 && nat_lt h 18446744073709551616 && nat_lt c 18446744073709551616) (Least l h c) e good' in
    let front = and_parts (nat_lt l 18446744073709551616 && nat_lt h 18446744073709551616) (nat_lt c 18446744073709551616) both.0 in
    let two = and_parts (nat_lt l 18446744073709551616) (nat_lt h 18446744073709551616) front.0 in (
      l,
      h,
      c,
      both.1,
      field_takes bs l r1 r2 32 n1 (ltb-true l 18446744073709551616 two.0) b1
          ∙ ap (λ x. field l 32 ++ x) (field_takes r2 h r3 r4 32 n2 (ltb-true h 18446744073709551616 two.1) b2
          ∙ ap (λ x. field h 32 ++ x) (field_takes r4 c r5 q 10 n3 (ltb-true c 18446744073709551616 front.1) b3 ∙ ap (λ x. field c 10 ++ x) left)),
    )

told_takes : (bs rest : List ℕ) (told : ToldEntry) (e : Entry) → told_at bs ≡ Some (told, rest) → entry_told told ≡ Some e → IsTold bs rest e
unfolding told_at
told_takes bs rest told e is good =
    let l = bind_ok (number_at bs) _ (told, rest) is in
    let r = bind_ok (past_byte 32 l.0.1) _ (told, rest) l.2 in
    let h = bind_ok (number_at r.0) _ (told, rest) r.2 in
    let s = bind_ok (past_byte 32 h.0.1) _ (told, rest) h.2 in
    let c = bind_ok (number_at s.0) _ (told, rest) s.2 in
    let q = bind_ok (past_byte 10 c.0.1) _ (told, rest) c.2 in
    told_end bs l.0.1 r.0 h.0.1 s.0 c.0.1 q.0 rest l.0.0 h.0.0 c.0.0 told e l.1 r.1 h.1 s.1 c.1 q.1 q.2 good

-- what stands behind a line's number
silent_takes : (n : ℕ) (c : ℕ) (cs q rest : List ℕ) (told : ToldEntry) (e : Entry) → c ≡ 45 → past_byte 10 cs ≡ Some q → silent q ≡ Some (told, rest) → entry_told told ≡ Some e → field n 32 ++ (c ∷ cs) ≡ entry_line n e ++ rest
silent_takes n c cs q rest told e dash line is good =
    let all : (no_told, q) ≡ (told, rest) = same_Some (no_told, q) (told, rest) is in
    let same : no_told ≡ told = ap (λ (x : ToldEntry × List ℕ). x.0) all in
    let left : q ≡ rest = ap (λ (x : ToldEntry × List ℕ). x.1) all in
    let nothing : Nothing ≡ e = same_Some Nothing e (subst (λ t. entry_told t ≡ Some e) (sym same) good) in
    let text : c ∷ cs ≡ 45 ∷ 10 ∷ rest = ap (λ x. x ∷ cs) dash ∙ ap (λ x. 45 ∷ x) (behind_takes 10 cs q line ∙ ap (λ x. 10 ∷ x) left) in
    ap (λ x. field n 32 ++ x) text
    ∙ (append_assoc (decimal n) (32 ∷ []) (45 ∷ 10 ∷ rest)
    ∙ (sym (append_assoc (decimal n) (32 ∷ 45 ∷ 10 ∷ []) rest) ∙ ap (λ x. entry_line n x ++ rest) nothing))

told_line : (n : ℕ) (bs rest : List ℕ) (e : Entry) → IsTold bs rest e → field n 32 ++ bs ≡ entry_line n e ++ rest
told_line n bs rest e t =
    ap (λ x. field n 32 ++ x) t.4
    ∙ (regroup (field n 32) (field t.0 32) (field t.1 32) (field t.2 10) rest ∙ ap (λ x. entry_line n x ++ rest) t.3)
  where
    regroup : (a b c d r : List ℕ) → a ++ (b ++ (c ++ (d ++ r))) ≡ (a ++ (b ++ (c ++ d))) ++ r
    regroup a b c d r = simp append_assoc

rest_takes : (n : ℕ) (bs rest : List ℕ) (told : ToldEntry) (e : Entry) → rest_at bs ≡ Some (told, rest) → entry_told told ≡ Some e → field n 32 ++ bs ≡ entry_line n e ++ rest
rest_takes n [] rest told e is good = absurd (cc)
rest_takes n (c ∷ cs) rest told e is good =
    ⊎_elim
    (λ dash. let q = bind_ok (past_byte 10 cs) silent (told, rest) dash.1 in silent_takes n c cs q.0 rest told e (eqb-true c 45 dash.0) q.1 q.2 good)
    (λ other. told_line n (c ∷ cs) rest e (told_takes (c ∷ cs) rest told e other.1 good))
    (chosen (c == 45) (past_byte 10 cs >>= silent) (told_at (c ∷ cs)) (Some (told, rest)) is)

line_end : (bs r1 r2 tr rest : List ℕ) (v n : ℕ) (t told : ToldEntry) (e : Entry) → number_at bs ≡ Some (v, r1) → past_byte 32 r1 ≡ Some r2 → rest_at r2 ≡ Some (t, tr) → line_of v t tr ≡ Some (n, told, rest) → n < 18446744073709551616 → entry_told told ≡ Some e → bs ≡ entry_line n e ++ rest
line_end bs r1 r2 tr rest v n t told e n1 b1 is whole low good =
    let all : (v, t, tr) ≡ (n, told, rest) = same_Some (v, t, tr) (n, told, rest) whole in
    let number : v ≡ n = ap (λ (x : ℕ × ToldEntry × List ℕ). x.0) all in
    let same : t ≡ told = ap (λ (x : ℕ × ToldEntry × List ℕ). x.1) all in
    let left : tr ≡ rest = ap (λ (x : ℕ × ToldEntry × List ℕ). x.2) all in
    let small : v < 18446744073709551616 = subst (λ (x : ℕ). x < 18446744073709551616) (sym number) low in
    field_takes bs v r1 r2 32 n1 small b1
    ∙ (rest_takes v r2 tr t e is (subst (λ x. entry_told x ≡ Some e) (sym same) good)
    ∙ (ap (λ x. entry_line x e ++ tr) number ∙ ap (λ x. entry_line n e ++ x) left))

pub line_takes : (bs rest : List ℕ) (n : ℕ) (told : ToldEntry) (e : Entry) → line_read bs ≡ Some (n, told, rest) → n < 18446744073709551616 → entry_told told ≡ Some e → bs ≡ entry_line n e ++ rest
unfolding line_read
line_takes bs rest n told e is low good =
    let a = bind_ok (number_at bs) _ (n, told, rest) is in
    let b = bind_ok (past_byte 32 a.0.1) _ (n, told, rest) a.2 in
    let t = bind_ok (rest_at b.0) _ (n, told, rest) b.2 in
    line_end bs a.0.1 b.0 t.0.1 rest a.0.0 n t.0.0 told e a.1 b.1 t.1 t.2 low good

line_some : (n : ℕ) (e : Entry) → 0 < length (entry_line n e)
line_some n Nothing = omega (arith, length-append (decimal n) (32 ∷ 45 ∷ 10 ∷ []))
line_some n (Least l h c) = omega (arith, length-append (field n 32) (field l 32 ++ (field h 32 ++ field c 10)), length-append (decimal n) (32 ∷ []))

pub line_shorter : (bs rest : List ℕ) (n : ℕ) (e : Entry) → bs ≡ entry_line n e ++ rest → length rest < length bs
line_shorter bs rest n e is = omega (arith, ap length is, length-append (entry_line n e) rest, line_some n e)

lines_push : (k : ℕ) (es : List Entry) (e : Entry) → lines_from k (es ++ e ∷ []) ≡ lines_from k es ++ entry_line (k + length es) e
lines_push k [] e = let same : k ≡ k + 0 = omega arith in append-nil (entry_line k e) ∙ ap (λ n. entry_line n e) same
lines_push k (x ∷ es) e =
    let same : suc k + length es ≡ k + suc (length es) = omega arith in
    ap (λ t. entry_line k x ++ t) (lines_push (suc k) es e ∙ ap (λ n. lines_from (suc k) es ++ entry_line n e) same)
    ∙ sym (append_assoc (entry_line k x) (lines_from (suc k) es) (entry_line (k + suc (length es)) e))

pub text_push : (es : List Entry) (e : Entry) (bytes bs rest : List ℕ) → bytes ≡ cert_text es ++ bs → bs ≡ entry_line (length es) e ++ rest → bytes ≡ cert_text (es ++ e ∷ []) ++ rest
text_push es e bytes bs rest whole line =
    let same : 0 + length es ≡ length es = omega arith in
    whole ∙ (ap (λ x. cert_text es ++ x) line
    ∙ (sym (append_assoc (cert_text es) (entry_line (length es) e) rest)
    ∙ ap (λ x. x ++ rest) (sym (lines_push 0 es e ∙ ap (λ n. cert_text es ++ entry_line n e) same))))

wide_by : (x : ℕ × ℕ × ℕ) (e : Entry) → entry_told (Some x) ≡ Some e → IsWide e
wide_by x e h =
    let l = x.0 in let k = x.1 in let c = x.2 in
    let both = cond_some (nat_lt x.0 18446744073709551616 && nat_lt x.1 18446744073709551616 && nat_lt x.2 18446744073709551616) (Least x.0 x.1 x.2) e h in
    let front = and_parts (nat_lt x.0 18446744073709551616 && nat_lt x.1 18446744073709551616) (nat_lt x.2 18446744073709551616) both.0 in
    let two = and_parts (nat_lt x.0 18446744073709551616) (nat_lt x.1 18446744073709551616) front.0 in
    subst IsWide both.1 (ltb-true x.0 18446744073709551616 two.0, ltb-true x.1 18446744073709551616 two.1, ltb-true x.2 18446744073709551616 front.1)

told_wide : (told : ToldEntry) (e : Entry) → entry_told told ≡ Some e → IsWide e
told_wide None e h = subst IsWide (same_Some Nothing e h) tt
told_wide (Some x) e h = wide_by x e h

pub wide_push : (es : List Entry) (told : ToldEntry) (e : Entry) → AllByRecursion IsWide es → entry_told told ≡ Some e → AllByRecursion IsWide (es ++ e ∷ [])
wide_push [] told e w h = (told_wide told e h, tt)
wide_push (x ∷ es) told e w h = (w.0, wide_push es told e w.1 h)
